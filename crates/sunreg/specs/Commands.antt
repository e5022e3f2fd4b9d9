-- Defines when commands on database files end with exit status 0 or 1.
use Rattle.std.specs.Prelude.{◌≡◌, ℕ, List, [], ◌∷◌, Option}
use Rattle.std.specs.Borrow.{Bor}
use Rattle.sqlite.specs.Store.{Ghosts}
use Rattle.sqlite.specs.Held.{Held}
use Rattle.command_words.specs.declared.line.CommandLine.{CommandLine}
use Rattle.command_words.specs.declared.line.CommandLine.TheVariants.{Audit, Carry, ReportFiles}
use Rattle.command_words.specs.declared.line.FormWords.{FormWords}
use Rattle.command_words.specs.declared.line.Sealing.{Sealing}
use Rattle.stored_files.specs.Ends.Endings.{ending_number}
use Rattle.stored_files.specs.declared.ends.ending.Ending.{Ending}
use Rattle.file_commands.specs.Audits.{EndsAudit}
use Rattle.file_commands.specs.JoinedAudits.{EndsSeveral}
use Rattle.file_commands.specs.JoinedReports.{EndsReportFiles}
use Rattle.file_commands.specs.Rollovers.{EndsCarry}

module _ {S : Type 0} (g : Ghosts S) (opens : List ℕ → Held S → Type 0) where
  -- States how the command `audit` ends for one database file, or for several database files.
  abbrev pub EndsAudits : (paths : List (Bor (List ℕ))) → Sealing → (had holds : Option (List ℕ))
      → Ending → Type 0
  EndsAudits (path ∷ []) seal had holds ending = EndsAudit g opens path.now seal had holds ending
  EndsAudits paths seal had holds ending = EndsSeveral g opens paths had holds ending

  -- States how the command `audit` ends, for some text `had` in its output before the command and
  -- some text `holds` after it. Nothing is stated of which output this is.
  pub record EndsAudited (paths : List (Bor (List ℕ))) (seal : Sealing) (ending : Ending) :
      Type 0 where
    pub had : Option (List ℕ)
    pub holds : Option (List ℕ)
    pub audits : EndsAudits paths seal had holds ending

  -- States that the command `audit` ends with this exit status.
  pub record AuditsWith (paths : List (Bor (List ℕ))) (seal : Sealing) (status : ℕ) : Type 0 where
    pub ending : Ending
    pub audits : EndsAudited paths seal ending
    pub number : status ≡ ending_number ending

  -- States that the command `carry` (a file rollover) ends with the exit status `status`.
  pub record CarriesWith (path : List ℕ) (until : Option ℕ) (status : ℕ) : Type 0 where
    pub ending : Ending
    pub carries : EndsCarry g opens path until ending
    pub number : status ≡ ending_number ending

  -- States that the command `report` over several files ends with the exit status `status`.
  pub record ReportsWith (paths : List (Bor (List ℕ))) (register : List ℕ) (form : FormWords)
      (status : ℕ) : Type 0 where
    pub had : Option (List ℕ)
    pub holds : Option (List ℕ)
    pub ending : Ending
    pub reports : EndsReportFiles g opens paths register form had holds ending
    pub number : status ≡ ending_number ending

  -- States that each of the commands `audit` and `carry`, and `report` over several files, ends
  -- with the exit status that its contract states for the command's result. Nothing is stated of
  -- the other commands.
  abbrev pub EndsCommand : CommandLine → (status : ℕ) → Type 0
  EndsCommand (Audit dbs seal) status = AuditsWith dbs.items seal status
  EndsCommand (Carry from to until) status = CarriesWith from.now until status
  EndsCommand (ReportFiles files register form) status =
      ReportsWith files.items register.now form status
  EndsCommand _ status = Unit {0}
