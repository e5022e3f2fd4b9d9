-- Defines the output and the exit status of the command that prints the read plan (the planned
-- Modbus reads) of a point list.
use Rattle.std.specs.Prelude.{◌≡◌, ◌≢◌, ◌<◌, ◌≤◌, ℕ, List, [], length, flat_map}
use Rattle.point_list.specs.declared.fault.FaultyRow.{FaultyRow}
use Rattle.point_list.specs.declared.point.ListedPoint.{ListedPoint}
use Rattle.point_list.specs.Lists.{SpellsList, list_faults, rows_read}
use Rattle.command_io.specs.Input.{most_bytes, too_long}
use Rattle.sunspec_text.specs.Lists.PlanText.{PlanPrints}
use Rattle.script_text.specs.AnswerText.{fault_line}
use Rattle.command_io.specs.declared.status.ExitStatus.{ExitStatus}
use Rattle.command_io.specs.declared.status.ExitStatus.TheVariants.{Fine, Refused, Failed}

-- The faulty rows of a point list, from its CSV text.
abbrev pub faults_of : List ℕ → List FaultyRow
faults_of text = list_faults (rows_read text)

-- States that the output is the read plan (the planned Modbus reads) of the point list, or one line
-- for each faulty row.
abbrev pub TextPrints : (text printed : List ℕ) → ExitStatus → Type 0
TextPrints text printed Fine =
    (list : List ListedPoint) × SpellsList text list × PlanPrints list printed
TextPrints text printed Refused =
    (faults_of text ≢ []) × (printed ≡ flat_map fault_line (faults_of text))
TextPrints text printed Failed = ⊥

-- States the output of the command that prints the read plan of a point list, for a complete input.
-- If the input is too long, the output is `too long`, otherwise the output is for the point list in
-- the input.
pub record ListPrints (input printed : List ℕ) (status : ExitStatus) : Type 0 where
  pub long : most_bytes < length input → (status ≡ Refused) × (printed ≡ too_long)
  pub text : length input ≤ most_bytes → TextPrints input printed status
