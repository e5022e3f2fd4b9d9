use Rattle.std.proofs.Common.{◌≡◌, ℕ, List, take, Ok}
use Rattle.office_books.specs.Sessions as sessions
use Rattle.office_books.specs.History.{with_settled}
use Rattle.office_books.specs.Notes.{settled_notes}
use Rattle.office_books.specs.Ledgers.{Consults}
use Rattle.office_core.specs.Settling.Drafts.{Grows}
use Rattle.office_core.specs.Settling.Settling.{MayReachAll, SettleNothing}
use Rattle.office_core.proofs.SettlingLemmas.SettledSlots.{FirstReached}
use Rattle.office_core.proofs.settling.slots.settle_slots.Given as goal

abbrev pub invariant-loop-i : goal.invariant-loop-i
invariant-loop-i g l =
    ((number : ℕ) (stood : List sessions.Slot) → MayReachAll l.moment l.fn.slots stood
    → FirstReached number l.moment l.event l.i l.slots stood
    × Grows (g.B.Books.ledger l.fn.books).holds (g.B.Books.ledger l.books).is_clean l.fn.draft l.draft
    (with_settled number l.moment l.event (take l.i stood)) (settled_notes number l.moment l.event (take l.i stood))
    × (SettleNothing number l.moment l.event stood → (l.books ≡ l.fn.books) × (l.draft ≡ l.fn.draft)))
    × Consults {T = Unit {0}} (g.B.Books.ledger l.fn.books) (g.B.Books.ledger l.books) (Ok tt)
