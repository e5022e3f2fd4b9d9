use Rattle.std.proofs.Common.{take, Ok}
use Rattle.office_books.specs.Readings.{with_registers}
use Rattle.office_books.specs.Notes.{registers_notes}
use Rattle.office_books.specs.Ledgers.{Consults}
use Rattle.office_core.specs.Settling.Drafts.{Grows}
use Rattle.office_core.specs.Settling.Replies.{words_of}
use Rattle.office_core.proofs.settling.outcomes.add_readings.Given as goal

abbrev pub invariant-loop-register : goal.invariant-loop-register
invariant-loop-register g l =
    Grows (g.B.Books.ledger l.fn.books).holds (g.B.Books.ledger l.books).is_clean l.fn.draft l.draft
    (with_registers l.at l.poll (words_of l.reply) (take l.register-index l.registers))
    (registers_notes l.at l.poll (words_of l.reply) (take l.register-index l.registers))
    × Consults {T = Unit {0}} (g.B.Books.ledger l.fn.books) (g.B.Books.ledger l.books) (Ok tt)
