-- The proof of `AreTrue` for the records after any accepted events: each poll ended once or is
-- pending (without an outcome), and the energy of each meter comes from its valid (not voided)
-- entries.
use Rattle.office_books.specs.History.{History, facts_of}
use Rattle.office_books.specs.Refusals.{AreAccepted}
use Rattle.office_books.specs.Endings.{EachEndsOnce}
use Rattle.office_books.specs.Laws.{MetersAreKept, TruthIsRecorded, VoidsLeaveNoTrace}
use Rattle.office_books.specs.Lawfulness.{FactsAreLawful, NamesAreDistinct, BooksAreTrue}

-- The theorems from which `AreTrue` follows: after any accepted events, the polls and the energy of
-- meters in the records are correct.
pub record Laws : Type 0 where
  pub polls : (history : History) → AreAccepted history → EachEndsOnce history
  pub lawful : FactsAreLawful
  pub distinct : NamesAreDistinct
  pub kept : MetersAreKept
  pub untraced : VoidsLeaveNoTrace
  pub truth : TruthIsRecorded

pub books_are_true : Laws → BooksAreTrue
books_are_true laws history accepted planned =
    let h = laws.lawful history accepted planned in
    record {
      polls = laws.polls history accepted;
      lawful = h;
      distinct = laws.distinct (facts_of history) h;
      kept = λ opening recorded. laws.kept (facts_of history) opening h recorded;
      untraced = λ opening recorded. laws.untraced (facts_of history) opening h recorded;
      truth = λ opening first items recorded run. laws.truth (facts_of history) opening first items h recorded run;
    }
