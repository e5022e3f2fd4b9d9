use Rattle.std.proofs.Common.{refl, subst, ℕ}
use Rattle.office_program.specs.Course.{StartFrom, Take}
use Rattle.office_program.specs.Passing.{AreAtMost}
use Rattle.office_program.specs.Polling.{settled}
use Rattle.office_program.proofs.Stages.{compose}
use Rattle.office_program.proofs.round.poll_connected.Goals as goal

pub returns-in-Ok-clause-steps : goal.returns-in-Ok-clause-steps
returns-in-Ok-clause-steps g c =
    compose g.B.Books.ledger _ _ _ (StartFrom 0) c.in-Ok.field-0 (λ done. settled (StartFrom 0)) Take _ _ (c.in-Ok.ensures.steps (StartFrom 0)) refl c.take_turns.ensures.steps
    c.take_turns.ensures.lasts.clean

pub returns-in-Err-clause-steps : goal.returns-in-Err-clause-steps
returns-in-Err-clause-steps g c = c.in-Err.ensures.steps (StartFrom 0)

pub returns-in-Ok-clause-takes : goal.returns-in-Ok-clause-takes
returns-in-Ok-clause-takes g c =
    let P : ℕ → Type 0 = λ n. AreAtMost 100000 n (g.L.Link.taken c.take_turns.new.link) in
    subst P c.in-Ok.ensures.takes c.take_turns.ensures.takes
