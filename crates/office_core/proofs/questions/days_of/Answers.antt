use Rattle.std.proofs.Common.{[], sym, subst, ◌∙◌}
use Rattle.interval_core.specs.Fold.{HasTaken}
use Rattle.interval_core.specs.declared.zone.Zone.{Zone}
use Rattle.office_core.proofs.Summing.{adds_up}
use Rattle.office_core.proofs.questions.days_of.Goals as goal

pub returns-clause-days : goal.returns-clause-days
returns-clause-days g c =
    let fresh = c.new-days.result in
    let Starts : Zone → Type 0 = λ zone. HasTaken zone [] fresh.fold in
    let sound = c.in_ok-register_intervals.ensures in
    adds_up (g.B.Books.ledger c.args.books.now) (g.B.Books.ledger c.register_intervals.new.self) fresh c.register_intervals.new.sink
    c.args.register.now c.args.span _ c.into_days.result c.registers_are_in_turn.ensures (c.new-days.ensures.zone ∙ c.zone.ensures) c.new-days.ensures.works
    (subst Starts (sym c.new-days.ensures.zone) c.new-days.ensures.empty) sound.rows sound.reads c.into_days.ensures
