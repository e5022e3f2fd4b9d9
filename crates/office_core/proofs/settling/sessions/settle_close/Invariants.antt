use Rattle.std.proofs.Common.{◌≡◌, Ok, length}
use Rattle.poll_core.specs.Settling.{Close}
use Rattle.poll_core.specs.declared.outcome.Call.TheVariants as call
use Rattle.office_books.specs.Ledgers.{Consults}
use Rattle.office_core.proofs.SettlingLemmas.Turning.{Turned}
use Rattle.office_core.proofs.settling.sessions.settle_close.Given as goal

abbrev pub invariant-turns : goal.invariant-turns
invariant-turns g l =
    Turned (g.B.Books.ledger l.fn.books).holds (g.B.Books.ledger l.books).is_clean ((l.books ≡ l.fn.books) × (l.draft ≡ l.fn.draft))
    l.fn.session l.session (Close l.moment l.closing) (call.Close l.closing) l.fn.draft l.draft
    × Consults {T = Unit {0}} (g.B.Books.ledger l.fn.books) (g.B.Books.ledger l.books) (Ok tt)

abbrev pub decreases-turns : goal.decreases-turns
decreases-turns g l = length l.session.polls
