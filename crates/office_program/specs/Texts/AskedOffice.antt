-- The result of opening an office (the event engine) for queries. Opening uses the clock's time, or
-- the latest timestamp in the store if that timestamp is later.
use Rattle.std.specs.Prelude.{ℕ, List, ◌∷◌, Option, Result, IfOk, IfErr}
use Rattle.std.specs.declared.io.Write as writers
use Rattle.mb_wire.specs.declared.sockets.clock.Clock as a_clock
use Rattle.command_io.specs.declared.status.ExitStatus.{ExitStatus}
use Rattle.command_io.specs.declared.status.ExitStatus.TheVariants.{Refused}
use Rattle.office_events.specs.declared.refusals.Refusal.{Refusal}
use Rattle.office_books.specs.History.{History, Opened}
use Rattle.office_books.specs.Ledgers.{Ledger}
use Rattle.office_books.specs.declared.books.Books as stores
use Rattle.office_core.specs.Leaving.{BooksStand}
use Rattle.office_core.specs.Reopening.{IsNotOpened, asking_moment}
use Rattle.office_core.specs.Standing.{Stands, books_in}
use Rattle.office_core.specs.declared.office.Office.{Office}
use Rattle.script_text.specs.AnswerText.{refused_line}
use Rattle.mb_wire.specs.Sockets.Clocks as clocks
use Rattle.office_program.specs.Texts.EndTexts.{IsReported}
use Rattle.office_program.specs.declared.texts.opened_office.Unopened.{Unopened}

-- True if the event engine was opened for queries. The engine is in the state after the opening,
-- and each poll that was pending in the store has the outcome `lost`.
pub record OpensToAsk {B : Type 0} (ledger : B → Ledger) (past : History)
    (moments later : Option (List ℕ)) (office : Office B) : Type 0 where
  pub reported : ℕ
  pub timed : clocks.ReportsMoment moments later reported
  pub stands : Stands ledger (Opened (asking_moment past reported) ∷ past) office

-- States that the event engine was opened for queries as `OpensToAsk` describes (each poll that was
-- pending has the outcome `lost`). States nothing if a wrong result of the store was used.
abbrev pub OpensToAskWhereClean : {B : Type 0} → (B → Ledger) → (past : History)
    → (moments later : Option (List ℕ)) → Office B → Type 0
OpensToAskWhereClean ledger past moments later office =
    (ledger (books_in office)).is_clean → OpensToAsk ledger past moments later office

-- True if the event engine was not opened, because the timestamp was refused, or the store or
-- memory failed. The reason was printed, and the store is unchanged.
pub record ReportsUnasked (past : History) (moments later : Option (List ℕ)) (old new : Ledger)
    (status : ExitStatus) (had holds : Option (List ℕ)) : Type 0 where
  pub reported : ℕ
  pub timed : clocks.ReportsMoment moments later reported
  pub why : Refusal
  pub refused : IsNotOpened past (asking_moment past reported) old new why
  pub printed : IsReported (refused_line why) Refused status had holds

-- States that the event engine was not opened and the reason was printed, as `ReportsUnasked`
-- describes (the store is unchanged). States nothing if a wrong result of the store was used.
abbrev pub ReportsUnaskedWhereClean : {B : Type 0} → (B → Ledger) → (past : History)
    → (moments later : Option (List ℕ)) → (books : B) → (had holds : Option (List ℕ))
    → Unopened B → Type 0
ReportsUnaskedWhereClean ledger past moments later books had holds unopened =
    (ledger unopened.books).is_clean → ReportsUnasked past moments later (ledger books)
    (ledger unopened.books) unopened.status had holds

-- States that if the result is `Ok`, the event engine was opened for queries, whatever accepted
-- events the store records.
abbrev pub OpensToAskOver : {B C : Type 0} → stores.Ghosts B → a_clock.Ghosts C → (books : B)
    → (before after : C) → Result (Office B) (Unopened B) → Type 0
OpensToAskOver b c books before after result =
    (past : History) → BooksStand (b.ledger books) past
    → IfOk result (OpensToAskWhereClean b.ledger past (c.moments before) (c.moments after))

-- States that if the result is an error, the event engine was not opened and the reason was
-- printed, whatever accepted events the store records.
abbrev pub RefusesToAskOver : {B C W : Type 0} → stores.Ghosts B → a_clock.Ghosts C
    → writers.Ghosts W → (books : B) → (before after : C) → (had holds : W)
    → Result (Office B) (Unopened B) → Type 0
RefusesToAskOver b c w books before after had holds result =
    (past : History) → BooksStand (b.ledger books) past
    → IfErr result (ReportsUnaskedWhereClean b.ledger past (c.moments before) (c.moments after) books
    (w.contents had) (w.contents holds))
