-- Defines what the command `report` prints over several successive database files.
use Rattle.std.specs.Prelude.{◌≡◌, ℕ, List, [], ◌∷◌, true, false, Option, Some, None, IsTrue}
use Rattle.std.specs.Borrow.{Bor}
use Rattle.std.specs.Io.KnownBytes.{Keeps}
use Rattle.std.specs.declared.io.Write as writers
use Rattle.sqlite.specs.Store.{Ghosts}
use Rattle.sqlite.specs.Held.{Held}
use Rattle.interval_core.specs.declared.day_range.DayRange.{DayRange}
use Rattle.command_words.specs.declared.line.FormWords.{FormWords}
use Rattle.energy_report.specs.Days.{IsRange}
use Rattle.energy_report.specs.declared.form.ReportForm.{ReportForm}
use Rattle.energy_report.specs.declared.form.StatementForm.{StatementForm}
use Rattle.office_books.specs.History.{History, facts_of}
use Rattle.command_io.specs.declared.status.ExitStatus.{ExitStatus}
use Rattle.carried_books.specs.declared.joining.keeping.Keeping as keepings
use Rattle.carried_books.specs.declared.joining.files.JoinedFiles.{JoinedFiles}
use Rattle.carried_books.specs.declared.joining.statements.JoinedStatement.{JoinedStatement}
use Rattle.office_core.specs.DayRange.{span_of}
use Rattle.carried_books.specs.Joining.Files.{DoesNotJoin, HasJoined}
use Rattle.carried_books.specs.Joining.Reports.{ReportsJoined}
use Rattle.carried_books.specs.Joining.Statements.{DoesNotGoOn, HasStated, StatesJoined}
use Rattle.stored_files.specs.BooksFound.{HasPast}
use Rattle.stored_files.specs.Ends.Endings.{ending_of}
use Rattle.stored_files.specs.Joins.Stored.{JoinsOffice}
use Rattle.stored_files.specs.declared.ends.ending.Ending.{Ending}
use Rattle.stored_files.specs.declared.ends.ending.Ending.TheVariants.{Fine}
use Rattle.stored_files.specs.declared.joins.stored.JoinedOffice.{JoinedOffice}
use Rattle.file_commands.specs.Forms.{form_of, statement_of}

module _ {K : Type 0} (k : keepings.Ghosts K) {S : Type 0} (g : Ghosts S)
    (opens : List ℕ → Held S → Type 0) where
  -- States that the database file at a path was opened, and that its data was added to the merged
  -- report on the earlier files. `past` is the history of the file.
  pub record JoinsPath (range : DayRange) (register path : List ℕ)
      (before : Option (JoinedOffice K)) (new : JoinedOffice K) : Type 0 where
    pub opened : Held S
    pub is_opened : opens path opened
    pub joins : (past : History) → (has : HasPast g opened past)
        → JoinsOffice k g opened has.zone range register (facts_of past) before new

  -- States that the database files at the given paths were opened one after another, and that the
  -- data of each was added to the merged report, in this order.
  abbrev pub JoinsPaths : DayRange → (register : List ℕ) → (paths : List (Bor (List ℕ)))
      → (before after : Option (JoinedOffice K)) → Type 0
  JoinsPaths range register [] before after = after ≡ before
  JoinsPaths range register (path ∷ paths) before after =
      (next : JoinedOffice K) × JoinsPath range register path.now before next
      × JoinsPaths range register paths (Some next) after

-- The last path in a list, or an empty path if the list is empty.
abbrev pub last_path : List (Bor (List ℕ)) → List ℕ
last_path [] = []
last_path (path ∷ []) = path.now
last_path (path ∷ next ∷ paths) = last_path (next ∷ paths)

-- States that a given claim is true if a command ended with success (`Fine`). States nothing for
-- any other ending.
abbrev pub IfFine : Type 0 → Ending → Type 0
IfFine claim Fine = claim
IfFine claim _ = Unit {0}

-- States what the data of a merged report contain after files were added, and why a file cannot be
-- added.
abbrev pub files_kept : keepings.Ghosts JoinedFiles
files_kept = record {
  keeps = λ zone range. HasJoined zone (span_of range);
  parts = λ range. DoesNotJoin (span_of range);
}

-- States what the data of a merged statement (billing report) contain after files were added, and
-- why a file cannot be added.
abbrev pub statement_kept : keepings.Ghosts JoinedStatement
statement_kept = record { keeps = HasStated; parts = λ range. DoesNotGoOn }

-- The model in which a writer is its contents: the bytes that were written to it.
abbrev pub itself : writers.Ghosts (Option (List ℕ))
itself = record { contents = λ held. held }

-- States that, if the command `report` over several files ended with success, the merged report was
-- printed and a file has the accounting register (a named counter).
abbrev pub ReportsOne : Option (JoinedOffice JoinedFiles) → ReportForm
    → (had holds : Option (List ℕ)) → Ending → Type 0
ReportsOne None form had holds Fine = ⊥
ReportsOne (Some joined) form had holds Fine = IsTrue joined.kept.is_recorded
    × (status : ExitStatus) × ReportsJoined itself joined.kept form had holds status
    × (ending_of status ≡ Fine)
ReportsOne joined form had holds _ = Unit {0}

-- States that, if the command `report` over several files ended with success, the merged statement
-- (billing report) was printed.
abbrev pub StatesOne : JoinedStatement → StatementForm → (had holds : Option (List ℕ)) → Ending
    → Type 0
StatesOne joined form had holds Fine = (status : ExitStatus)
    × StatesJoined itself joined form had holds status × (ending_of status ≡ Fine)
StatesOne joined form had holds _ = Unit {0}

-- States that, if the command `report` over several files ended with success, the merged statement
-- (billing report) was printed and a file has the accounting register (a named counter).
abbrev pub StatesRecorded : Option (JoinedOffice JoinedStatement) → StatementForm
    → (had holds : Option (List ℕ)) → Ending → Type 0
StatesRecorded None form had holds Fine = ⊥
StatesRecorded (Some joined) form had holds Fine = IsTrue joined.kept.is_recorded
    × StatesOne joined.kept form had holds Fine
StatesRecorded joined form had holds _ = Unit {0}

module _ {S : Type 0} (g : Ghosts S) (opens : List ℕ → Held S → Type 0)
    (paths : List (Bor (List ℕ))) (register : List ℕ) where
  -- States that the merged report on an accounting register (a named counter), over the database
  -- files at the given paths, was printed.
  pub record ReportsRegister (form : ReportForm) (had holds : Option (List ℕ)) : Type 0 where
    pub joined : Option (JoinedOffice JoinedFiles)
    pub joins : JoinsPaths files_kept g opens form.range register paths None joined
    pub reports : ReportsOne joined form had holds Fine

  -- States that the merged statement (billing report) on an accounting register (a named counter),
  -- over the database files at the given paths, was printed.
  pub record StatesRegister (form : StatementForm) (had holds : Option (List ℕ)) : Type 0 where
    pub joined : Option (JoinedOffice JoinedStatement)
    pub joins : JoinsPaths statement_kept g opens form.range register paths None joined
    pub states : StatesRecorded joined form had holds Fine

  -- States that the merged report or the merged statement was printed, as the options request. The
  -- options `--from` and `--till` select the days of `range`.
  pub record PrintsForm (words : FormWords) (had holds : Option (List ℕ)) : Type 0 where
    pub range : DayRange
    pub is_range : IsRange words.from words.till range
    pub report : words.statement ≡ false → ReportsRegister (form_of words range) had holds
    pub statement : words.statement ≡ true → StatesRegister (statement_of words range) had holds

  -- States that the command `report` over several files printed the output that the options
  -- request, and then flushed it.
  pub record PrintsReport (words : FormWords) (had holds : Option (List ℕ)) : Type 0 where
    pub printed : Option (List ℕ)
    pub prints : PrintsForm words had printed
    pub flushed : Keeps printed holds

  -- States that the command `report` over several database files ends with success only if it
  -- printed the output that the options request.
  abbrev pub EndsReportFiles : FormWords → (had holds : Option (List ℕ)) → Ending → Type 0
  EndsReportFiles words had holds ending = IfFine (PrintsReport words had holds) ending
