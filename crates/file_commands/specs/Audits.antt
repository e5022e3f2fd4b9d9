-- Defines what the command `audit` prints about a database file, and when it reports success.
use Rattle.std.specs.Prelude.{◌≡◌, ◌↔◌, ◌⊎◌, ℕ, Bool, true, false, List, [], Option, Some, Result, Ok, Err, IsTrue}
use Rattle.std.specs.Borrow.{Bor}
use Rattle.std.specs.Io.KnownBytes.{Appends}
use Rattle.sqlite.specs.Store.{Ghosts}
use Rattle.sqlite.specs.Held.{Held, state}
use Rattle.sqlite.specs.State.{HasCleanDisk}
use Rattle.store_tables.specs.Content.{Content}
use Rattle.table_audit.specs.FileMark.{ReportsMark}
use Rattle.table_audit.specs.Looking.{HoldsRows}
use Rattle.table_audit.specs.Polls.{ReportsTables as ReportsFindings}
use Rattle.table_audit.specs.JsonTexts.{with_json}
use Rattle.table_audit.specs.Texts.{with_findings}
use Rattle.table_audit.specs.declared.findings.Findings.{Findings}
use Rattle.table_seals.specs.Checking.{IsAsSealed, ReportsTables as ReportsChecked}
use Rattle.table_seals.specs.Reading.{IsSealText}
use Rattle.table_seals.specs.Sealed.{SealedTables, sealed_tables_of}
use Rattle.table_seals.specs.Sealing.{SealsTables}
use Rattle.table_seals.specs.Texts.{seal_text, checked_text}
use Rattle.table_seals.specs.declared.checks.Checked.{Checked}
use Rattle.table_seals.specs.declared.seals.Seal.{Seal}
use Rattle.command_words.specs.declared.line.Sealing.{Sealing}
use Rattle.command_words.specs.declared.line.Sealing.TheVariants as sealing
use Rattle.store_tables.specs.declared.open_faults.OpenFault.{OpenFault}
use Rattle.store_tables.specs.declared.open_faults.OpenFault.TheVariants as opening
use Rattle.stored_files.specs.declared.audits.AuditFault.{AuditFault}
use Rattle.stored_files.specs.declared.audits.AuditFault.TheVariants as fault
use Rattle.stored_files.specs.declared.ends.ending.Ending.{Ending}
use Rattle.stored_files.specs.declared.ends.ending.Ending.TheVariants.{Fine, Refused, Failed}
use Rattle.stored_files.specs.declared.ends.failure.Failure.{Failure}

-- States that an audit printed its findings: a line for each of the first differences between the
-- tables and those that the program would write, the number of further differences, and a last
-- line. `fine` is true if and only if there is no difference.
pub record PrintsFindings (content : Content) (had holds : Option (List ℕ)) (fine : Bool) : Type 0
  where
    pub findings : Findings
    pub reported : ReportsFindings content findings
    pub printed : Appends had holds (with_findings [] findings)
    pub verdict : IsTrue fine ↔ (findings.first.items ≡ [])

-- States that an audit printed all its findings about the tables as JSON: an object for each
-- difference, and a verdict. `fine` is true if and only if there is no difference.
pub record PrintsJson (content : Content) (had holds : Option (List ℕ)) (fine : Bool) : Type 0 where
  pub findings : Findings
  pub reported : ReportsFindings content findings
  pub printed : Appends had holds (with_json [] findings)
  pub verdict : IsTrue fine ↔ (findings.first.items ≡ [])

-- States that an audit found differences in the tables, and printed them.
abbrev pub PrintsDifferences : Content → (had holds : Option (List ℕ)) → (fine : Bool) → Type 0
PrintsDifferences content had holds fine = PrintsFindings content had holds fine × (fine ≡ false)

-- States that an audit found no difference between the tables and those that the program would
-- write.
pub record FindsNone (content : Content) : Type 0 where
  pub findings : Findings
  pub reported : ReportsFindings content findings
  pub none : findings.first.items ≡ []

-- States that the seal of the tables (digests of their rows) was printed.
pub record PrintsSeal (content : Content) (had holds : Option (List ℕ)) (fine : Bool) : Type 0 where
  pub seal : Seal
  pub seals : SealsTables content (Some seal)
  pub printed : Appends had holds (seal_text (sealed_tables_of seal))
  pub verdict : fine ≡ true

-- States that the tables were compared with the seal (digests of earlier rows) whose text is
-- `text`, and that the result was printed. `fine` is true if and only if the tables match the seal.
pub record PrintsChecked (content : Content) (text : List ℕ) (had holds : Option (List ℕ))
    (fine : Bool) : Type 0 where
  pub seal : SealedTables
  pub is_text : IsSealText seal text
  pub checked : Checked
  pub reported : ReportsChecked seal content checked
  pub printed : Appends had holds (checked_text checked)
  pub verdict : IsTrue fine ↔ IsAsSealed checked

-- The printed text of an audit's findings, as JSON if the arguments request JSON.
abbrev pub findings_text : Sealing → Findings → List ℕ
findings_text sealing.Json findings = with_json [] findings
findings_text sealing.Nothing findings = with_findings [] findings
findings_text sealing.Print findings = with_findings [] findings
findings_text (sealing.Against text) findings = with_findings [] findings

-- States what an audit prints about the tables of one database file, and whether the audit
-- succeeds. The audit prints its findings, as text or as JSON. If a seal is requested or given, and
-- no difference was found, the audit instead prints the seal, or the result of the comparison with
-- the given seal.
abbrev pub Audits : Content → Sealing → (had holds : Option (List ℕ)) → (fine : Bool) → Type 0
Audits content sealing.Nothing had holds fine = PrintsFindings content had holds fine
Audits content sealing.Json had holds fine = PrintsJson content had holds fine
Audits content sealing.Print had holds fine =
    PrintsDifferences content had holds fine
    ⊎ (FindsNone content × PrintsSeal content had holds fine)
Audits content (sealing.Against text) had holds fine =
    PrintsDifferences content had holds fine
    ⊎ (FindsNone content × PrintsChecked content text.now had holds fine)

-- States that the table `meta` has the row of a database file of this program version, and that the
-- tables were audited (`Audits`).
pub record AuditsTables (content : Content) (seal : Sealing) (had holds : Option (List ℕ))
    (fine : Bool) : Type 0 where
  pub marked : ReportsMark content true
  pub audits : Audits content seal had holds fine

-- The fault that the audit of several files reports if it can't read the time zone of a file.
abbrev pub zone_fault : OpenFault → AuditFault
zone_fault opening.NotOurs = fault.NotOurs
zone_fault opening.Zone = fault.NoText
zone_fault opening.Store = fault.Store
zone_fault opening.Memory = fault.Memory

-- The ending of the command `audit`: success if the audit found no difference (from what the
-- program would write, or from a given seal), a refusal if it found one, or the failure.
abbrev pub ending_of_audit : Result Bool Failure → Ending
ending_of_audit (Ok true) = Fine
ending_of_audit (Ok false) = Refused
ending_of_audit (Err failure) = Failed failure

module _ {S : Type 0} (g : Ghosts S) where
  -- States that the database of a connection was audited. The claim holds if all reads of the disk
  -- returned what was written to it.
  pub record AuditsDatabase (opened : Held S) (seal : Sealing) (had holds : Option (List ℕ))
      (fine : Bool) : Type 0 where
    pub left : Held S
    pub audits : HasCleanDisk (state g left) → (content : Content) → HoldsRows g opened content
        → AuditsTables content seal had holds fine

module _ {S : Type 0} (g : Ghosts S) (opens : List ℕ → Held S → Type 0) where
  -- States that the database file at a path was opened and audited.
  pub record AuditsFile (path : List ℕ) (seal : Sealing) (had holds : Option (List ℕ))
      (fine : Bool) : Type 0 where
    pub opened : Held S
    pub is_opened : opens path opened
    pub audits : AuditsDatabase g opened seal had holds fine

  -- States that the database file at a path was compared with a seal (digests of earlier rows). The
  -- definition does not state from which file the text of the seal was read.
  pub record AuditsAgainst (path : List ℕ) (had holds : Option (List ℕ)) (fine : Bool) : Type 0
    where
      pub text : Bor (List ℕ)
      pub audits : AuditsFile path (sealing.Against text) had holds fine

  -- States that the database file at a path was audited as the arguments request. The argument of
  -- `Against` (a comparison with a seal, a digest) is the path of the file with the seal.
  abbrev pub AuditsAs : (path : List ℕ) → Sealing → (had holds : Option (List ℕ)) → (fine : Bool)
      → Type 0
  AuditsAs path sealing.Nothing had holds fine = AuditsFile path sealing.Nothing had holds fine
  AuditsAs path sealing.Json had holds fine = AuditsFile path sealing.Json had holds fine
  AuditsAs path sealing.Print had holds fine = AuditsFile path sealing.Print had holds fine
  AuditsAs path (sealing.Against file) had holds fine = AuditsAgainst path had holds fine

  -- States how the command `audit` ends: with success (`Fine`) only if the audit found no
  -- difference (from what the program would write, or from a given seal). It ends with a refusal
  -- only if the audit found one. Any other ending reports a failure.
  abbrev pub EndsAudit : (path : List ℕ) → Sealing → (had holds : Option (List ℕ)) → Ending → Type 0
  EndsAudit path seal had holds Fine = AuditsAs path seal had holds true
  EndsAudit path seal had holds Refused = AuditsAs path seal had holds false
  EndsAudit path seal had holds _ = Unit {0}
