use Rattle.std.proofs.Common.{◌≡◌, ◌<◌, ◌*◌, true}
use Rattle.office_core.specs.Standing.{is_stopped}
use Rattle.office_core.specs.Several.{Keeps}
use Rattle.office_program.proofs.StatementLemmas.{IsTallied}
use Rattle.office_program.proofs.texts.statement.tally.Given as goal

abbrev pub invariant-loop-turn : goal.invariant-loop-turn
invariant-loop-turn g l = record {
  tallied : IsTallied g.B.Books.ledger l.zone l.range l.fn.office l.office l.meter (l.turn * 65536) l.tally;
  kept : Keeps g.B.Books.ledger l.fn.office l.office;
  going : 0 < l.turn → is_stopped l.fn.office ≡ true → ⊥;
}
