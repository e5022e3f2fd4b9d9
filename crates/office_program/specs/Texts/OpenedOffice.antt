-- The result of opening an office (the event engine) over a store at the clock's time.
use Rattle.std.specs.Prelude.{ℕ, List, ◌∷◌, Option, Result, IfOk, IfErr, MatchResult}
use Rattle.std.specs.declared.io.Write as writers
use Rattle.mb_wire.specs.declared.sockets.clock.Clock as a_clock
use Rattle.command_io.specs.declared.status.ExitStatus.{ExitStatus}
use Rattle.command_io.specs.declared.status.ExitStatus.TheVariants.{Refused}
use Rattle.office_events.specs.declared.refusals.Refusal.{Refusal}
use Rattle.office_books.specs.History.{History, Opened}
use Rattle.office_books.specs.Ledgers.{Ledger}
use Rattle.office_books.specs.declared.books.Books as stores
use Rattle.office_core.specs.Leaving.{BooksStand}
use Rattle.office_core.specs.Reopening.{IsNotOpened}
use Rattle.office_core.specs.Standing.{Stands, books_in}
use Rattle.office_core.specs.declared.office.Office.{Office}
use Rattle.script_text.specs.AnswerText.{refused_line}
use Rattle.mb_wire.specs.Sockets.Clocks as clocks
use Rattle.office_program.specs.Texts.EndTexts.{IsReported}
use Rattle.office_program.specs.Texts.Passing.{Lasts}
use Rattle.office_program.specs.declared.texts.opened_office.Unopened.{Unopened}

-- True if the event engine was opened. The engine is in the state after the opening, and each poll
-- that was pending in the store has the outcome `lost`.
pub record Opens {B : Type 0} (ledger : B → Ledger) (past : History)
    (moments later : Option (List ℕ))
    (office : Office B) : Type 0 where
  pub at : ℕ
  pub timed : clocks.ReportsMoment moments later at
  pub stands : Stands ledger (Opened at ∷ past) office

-- States that the event engine was opened as `Opens` describes (each poll that was pending has the
-- outcome `lost`). States nothing if a wrong result of the store was used.
abbrev pub OpensWhereClean : {B : Type 0} → (B → Ledger) → (past : History)
    → (moments later : Option (List ℕ)) → Office B → Type 0
OpensWhereClean ledger past moments later office =
    (ledger (books_in office)).is_clean → Opens ledger past moments later office

-- True if the event engine was not opened, because the timestamp was refused, or the store or
-- memory failed. The reason was printed, and the store is unchanged.
pub record ReportsUnopened (past : History) (moments later : Option (List ℕ)) (old new : Ledger)
    (status : ExitStatus)
    (had holds : Option (List ℕ)) : Type 0 where
  pub at : ℕ
  pub timed : clocks.ReportsMoment moments later at
  pub why : Refusal
  pub refused : IsNotOpened past at old new why
  pub reported : IsReported (refused_line why) Refused status had holds

-- States that the event engine was not opened and the reason was printed, as `ReportsUnopened`
-- describes (the store is unchanged). States nothing if a wrong result of the store was used.
abbrev pub ReportsWhereClean : {B : Type 0} → (B → Ledger) → (past : History)
    → (moments later : Option (List ℕ)) → (books : B) → (had holds : Option (List ℕ))
    → Unopened B → Type 0
ReportsWhereClean ledger past moments later books had holds unopened =
    (ledger unopened.books).is_clean → ReportsUnopened past moments later (ledger books)
    (ledger unopened.books) unopened.status had holds

-- States that if the result is `Ok`, the event engine was opened, whatever accepted events the
-- store records.
abbrev pub OpensOver : {B C : Type 0} → stores.Ghosts B → a_clock.Ghosts C → (books : B)
    → (before after : C) → Result (Office B) (Unopened B) → Type 0
OpensOver b c books before after result =
    (past : History) → BooksStand (b.ledger books) past
    → IfOk result (OpensWhereClean b.ledger past (c.moments before) (c.moments after))

-- States that if the result is an error, the event engine was not opened and the reason was
-- printed, whatever accepted events the store records.
abbrev pub RefusesOver : {B C W : Type 0} → stores.Ghosts B → a_clock.Ghosts C → writers.Ghosts W
    → (books : B) → (before after : C) → (had holds : W) → Result (Office B) (Unopened B) → Type 0
RefusesOver b c w books before after had holds result =
    (past : History) → BooksStand (b.ledger books) past
    → IfErr result (ReportsWhereClean b.ledger past (c.moments before) (c.moments after) books
    (w.contents had) (w.contents holds))

-- True if two conditions hold, whether the event engine was opened or not. The store's time zone is
-- unchanged. A store that is clean after the attempt to open the engine was clean before it. A
-- store is clean if no wrong result of the store was used.
abbrev pub LastsInside : {B : Type 0} → (B → Ledger) → (books : B)
    → Result (Office B) (Unopened B) → Type 0
LastsInside ledger books result = MatchResult result
    (λ office. Lasts (ledger books) (ledger (books_in office)))
    (λ unopened. Lasts (ledger books) (ledger unopened.books))
