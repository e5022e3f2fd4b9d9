use Rattle.std.proofs.Common.{◌≡◌, ◌<◌, ◌*◌, true}
use Rattle.office_core.specs.Standing.{is_stopped}
use Rattle.office_core.specs.Several.{Keeps}
use Rattle.run_http.proofs.ReplyLemmas.Voids.{AreKept}
use Rattle.run_http.proofs.voids.ask_voids.Given as goal

abbrev pub invariant-loop-turn : goal.invariant-loop-turn
invariant-loop-turn g l = record {
  are : AreKept g.B.Books.ledger l.fn.office l.office l.meter (l.turn * 65536) l.kept.items;
  keeps : Keeps g.B.Books.ledger l.fn.office l.office;
  going : 0 < l.turn → is_stopped l.fn.office ≡ true → ⊥;
}
