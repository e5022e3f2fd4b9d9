use Rattle.std.proofs.Common.{◌∙◌, ◌+◌, ◌++◌, ◌∷◌, [], List, Option, ap, sym, take}
use Rattle.point_list.specs.declared.fault.FaultyRow.{FaultyRow}
use Rattle.point_list.specs.declared.fault.RowFault.{RowFault}
use Rattle.point_list.specs.Lists.{faulty_rows, scale_faults}
use Rattle.point_list.proofs.ListLemmas.{scale-more}
use Rattle.point_list.proofs.list_reader.scale_faults.Goals as goal

pub loop-place-preserved : goal.loop-place-preserved
loop-place-preserved c =
    c.in_ok-add_fault.ensures
    ∙ ap (λ (before : List FaultyRow). before ++ faulty_rows (c.loop-place.place + 2) (c.scale_fault-fault.result ∷ [])) c.loop-place.invariant
    ∙ ap (λ (fault : Option RowFault). faulty_rows 2 (scale_faults c.args.points.now (take c.loop-place.place c.args.points.now)) ++ faulty_rows (c.loop-place.place + 2) (fault ∷ [])) c.scale_fault-fault.ensures
    ∙ sym (scale-more c.args.points.now c.loop-place.place c.index-points-place.result c.loop-place-test.true c.index-points-place.is)
