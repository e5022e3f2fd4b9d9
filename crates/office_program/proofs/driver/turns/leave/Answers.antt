use Rattle.std.proofs.Common.{set, sym, ap, ◌∙◌}
use Rattle.office_program.specs.DeviceRounds.Rounds.{leaving}
use Rattle.office_program.proofs.DriverLemmas.Places.{at_no_place, set_at_place}
use Rattle.office_program.proofs.driver.turns.leave.Goals as goal

pub returns-then-place-rounds : goal.returns-then-place-rounds
returns-then-place-rounds c =
    ap (λ y. set c.args.rounds.now c.args.place y) c.leave.ensures
    ∙ set_at_place c.args.rounds.now c.args.place (leaving c.args.closing) c.index-rounds-place.result c.if-place-rounds.true

pub returns-else-place-rounds : goal.returns-else-place-rounds
returns-else-place-rounds c = sym (at_no_place c.args.rounds.now c.args.place (leaving c.args.closing) c.if-place-rounds.false)
