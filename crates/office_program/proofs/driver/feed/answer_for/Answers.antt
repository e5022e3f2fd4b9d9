use Rattle.std.proofs.Common.{set, sym, ap, ◌∙◌}
use Rattle.office_program.specs.DeviceRounds.Rounds.{answered}
use Rattle.office_program.specs.Driver.Turns.{answered_for}
use Rattle.office_program.proofs.DriverLemmas.Places.{at_no_place, set_at_place}
use Rattle.office_program.proofs.driver.feed.answer_for.Goals as goal

pub returns-then-place-rounds : goal.returns-then-place-rounds
returns-then-place-rounds c =
    let rounds = c.args.rounds.now in
    ap (λ y. set rounds c.in-Some.place y) c.answer.ensures
    ∙ set_at_place rounds c.in-Some.place (answered c.args.answer) c.index-rounds-place.result c.if-place-rounds.true
    ∙ ap (λ p. answered_for p c.args.answer rounds) (sym c.in-Some.is)

pub returns-else-place-rounds : goal.returns-else-place-rounds
returns-else-place-rounds c =
    sym (at_no_place c.args.rounds.now c.in-Some.place (answered c.args.answer) c.if-place-rounds.false)
    ∙ ap (λ p. answered_for p c.args.answer c.args.rounds.now) (sym c.in-Some.is)
