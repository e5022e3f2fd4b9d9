use Rattle.std.proofs.Common.{◌≡◌, ◌∙◌, ◌++◌, List, [], Option, None, ap, arith, filter_map, map, option_to_list, append-nil, sym, take}
use Rattle.std.proofs.lemmas.List.{take_all}
use Rattle.sun_chain.proofs.Rows.{rows_more}
use Rattle.sun_chain.proofs.TableRules.{points_in_order}
use Rattle.sun_chain.specs.Chain.{words_of}
use Rattle.sun_chain.specs.Points.{Named, point_in, points_in, seen}
use Rattle.sun_chain.specs.Tables.{Row, row_of}
use Rattle.sun_chain.specs.declared.tables.Entry.{Entry}
use Rattle.sun_chain.specs.declared.tables.EntryType.TheVariants.{Int16}
use Rattle.sun_chain.proofs.chain.Chain.points.Goals as goal
use Rattle.sun_chain.proofs.chain.Chain.points.Goals.{in-Some+in_ok-push, in_default}

pub loop-entry-preserved : goal.loop-entry-preserved
loop-entry-preserved c =
    let none : Entry = record { name = record { ref_ptr = (0, 0); now = [] }; offset = 0; ty = Int16; scale = None } in
    elim c.match-point.branch [
      | in-Some+in_ok-push w ↦
          let more : c.match-point.points.items ≡ c.loop-entry.points.items ++ option_to_list c.point.result =
          rw (w.points-is, w.in-Some.is) w.in_ok-push.ensures.items in
          rows_more _ c.args.model.now _ _ none c.point.result _ _ c.loop-entry-test.true c.loop-entry.invariant c.point.ensures more
      | in_default w ↦
          let same : c.match-point.points.items ≡ c.loop-entry.points.items ++ option_to_list c.point.result =
          rw (w.points-is, w.in_default.is) (sym (append-nil c.loop-entry.points.items)) in
          rows_more _ c.args.model.now _ _ none c.point.result _ _ c.loop-entry-test.true c.loop-entry.invariant c.point.ensures same
    ]

pub returns-clause-in_order : goal.returns-clause-in_order
returns-clause-in_order c =
    let entries : List Entry = c.table-entry-items.result.now in
    let to_end : take c.loop-entry.entry-index entries ≡ entries = take_all c.loop-entry.entry-index entries (omega (arith, c.loop-entry-test.false)) in
    let found : Row → Option Named = point_in (words_of c.args.self.now) c.args.model.now in
    let all : map seen c.loop-entry.points.items ≡ points_in (words_of c.args.self.now) c.args.model.now =
    c.loop-entry.invariant
    ∙ ap (λ (es : List Entry). filter_map found (map row_of es)) to_end
    ∙ ap (λ (rows : List Row). filter_map found rows) c.table-entry-items.ensures in
    rw all (points_in_order (words_of c.args.self.now) c.args.model.now)
