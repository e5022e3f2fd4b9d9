use Rattle.std.proofs.Common.{◌∙◌, ◌+◌, Some, ap, arith, slice_set}
use Rattle.std.proofs.lemmas.List.Edits.{fill_from_more}
use Rattle.mb_device.proofs.bank.begin_area.Goals as goal

pub loop-place-preserved : goal.loop-place-preserved
loop-place-preserved c =
    ap (λ t. slice_set t (c.args.start + c.loop-place.place) (Some 0)) c.loop-place.invariant
    ∙ fill_from_more c.args.table.now.items c.args.start c.loop-place.place (Some 0) (omega (arith, c.requires, c.loop-place-test.true))
