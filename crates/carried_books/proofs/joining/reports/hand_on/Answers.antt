use Rattle.std.proofs.Common.{List, [], ◌∷◌, ◌++◌, take, sym, ap, subst, ◌∙◌}
use Rattle.std.proofs.lemmas.List.{take_more}
use Rattle.interval_core.specs.declared.totals.DayTotal.{DayTotal}
use Rattle.office_books.specs.Rows.{TakesAll}
use Rattle.office_books.proofs.Handing.{takes_more}
use Rattle.carried_books.proofs.joining.reports.hand_on.Goals as goal

pub loop-day-preserved : goal.loop-day-preserved
loop-day-preserved g c =
    let days = c.args.days.now in
    let before = take c.loop-day.day-index days in
    let same = take_more days c.loop-day.day-index c.day-item.result c.loop-day-test.true in
    let more =
    takes_more g.K.RowSink.takes c.args.sink.now c.loop-day.sink c.put.new.self before c.day-item.result c.loop-day.invariant c.put.ensures in
    let P : List DayTotal → Type 0 = λ rows. TakesAll g.K.RowSink.takes c.args.sink.now rows c.put.new.self in
    subst P (sym (same ∙ ap (λ (day : DayTotal). before ++ day ∷ []) (sym c.day-item.is))) more
