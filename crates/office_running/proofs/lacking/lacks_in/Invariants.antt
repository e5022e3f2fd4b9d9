use Rattle.std.proofs.Common.{ℕ}
use Rattle.office_core.specs.Leaving.{BooksStand}
use Rattle.office_books.specs.History.{History}
use Rattle.office_program.specs.Texts.Passing.{Lasts}
use Rattle.office_running.proofs.lacking.lacks_in.Given as goal

abbrev pub invariant-loop-site : goal.invariant-loop-site
invariant-loop-site g l = record {
  stands : (past : History) → BooksStand (g.B.Books.ledger l.fn.books) past → BooksStand (g.B.Books.ledger l.books) past;
  lasts : Lasts (g.B.Books.ledger l.fn.books) (g.B.Books.ledger l.books);
}
