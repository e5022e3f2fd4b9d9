-- Defines the output and the exit status of a scan of a SunSpec device.
use Rattle.std.specs.Prelude.{◌≡◌, ◌≢◌, ◌⊎◌, ℕ, List, [], flat_map}
use Rattle.std.specs.declared.option.Option.{Option}
use Rattle.command_io.specs.Printing.{PrintsOn}
use Rattle.command_io.specs.declared.printer.Printer as printers
use Rattle.command_io.specs.declared.status.ExitStatus.{ExitStatus}
use Rattle.command_io.specs.declared.status.ExitStatus.TheVariants.{Fine, Refused, Failed}
use Rattle.sun_chain.specs.Scanning.Scans.{Scans}
use Rattle.point_list.specs.ChainPoints.{chain_faults, points_from}
use Rattle.point_list.specs.declared.fault.FaultyRow.{FaultyRow}
use Rattle.point_list.specs.RowTexts.{list_text}
use Rattle.script_text.specs.AnswerText.{fault_line}
use Rattle.sun_chain.specs.Chain.{IsChain}
use Rattle.sun_chain.specs.Image.{Words}
use Rattle.sun_chain.specs.declared.model.Model.{Model}
use Rattle.sunspec_text.specs.Chains.ChainText.{WordsPrint}
use Rattle.sunspec_text.specs.declared.scans.scan_printout.ScanForm.{ScanForm}
use Rattle.sunspec_text.specs.declared.scans.scan_printout.ScanForm.TheVariants as form

-- States that a device's Modbus registers contain a chain of SunSpec models, and that these models
-- have the property `P`.
abbrev pub WithChain : Words → (List Model → Type 0) → Type 0
WithChain word P =
    (base : ℕ) × (models : List Model) × (end : ℕ) × IsChain word base models end × P models

-- States that the output is the faults of a SunSpec chain that has more points than a point list
-- may have.
abbrev pub PrintsTooMany : Words → (printed : List ℕ) → List Model → Type 0
PrintsTooMany word printed models =
    (chain_faults (points_from word 1 models) ≢ [])
    × (printed ≡ flat_map fault_line (chain_faults (points_from word 1 models)))

-- States that the output explains why a device has no point list. The device's Modbus registers
-- contain no SunSpec chain, or a chain with too many points.
abbrev pub PrintsNoList : Words → (printed : List ℕ) → Type 0
PrintsNoList word printed =
    WordsPrint word printed Refused ⊎ WithChain word (PrintsTooMany word printed)

-- States that the output is the point list of the SunSpec chain in a device's Modbus registers, or
-- a fault.
abbrev pub ListPrints : Words → (printed : List ℕ) → ExitStatus → Type 0
ListPrints word printed Fine =
    WithChain word (λ models. printed ≡ list_text (points_from word 1 models))
ListPrints word printed Refused = PrintsNoList word printed
ListPrints word printed Failed = ⊥

-- States the output of a scan for setup lines (script lines that add the device to `sunreg`). With
-- status `Fine`, the device has a SunSpec chain, and the text of the lines is not specified. With
-- `Refused`, the output explains why the device has no point list.
abbrev pub SetupPrints : Words → (printed : List ℕ) → ExitStatus → Type 0
SetupPrints word printed Fine = WithChain word (λ models. Unit {0})
SetupPrints word printed Refused = PrintsNoList word printed
SetupPrints word printed Failed = ⊥

-- States that the output is one line for each faulty row of a point list, with status `Refused`.
abbrev pub RowsPrint : List FaultyRow → (printed : List ℕ) → ExitStatus → Type 0
RowsPrint rows printed Fine = ⊥
RowsPrint rows printed Refused = printed ≡ flat_map fault_line rows
RowsPrint rows printed Failed = ⊥

-- States that the exit status is `Fine`, and allows any setup lines (which add a device to
-- `sunreg`) as output. Only tests check the text of setup lines.
abbrev pub LinesPrint : (printed : List ℕ) → ExitStatus → Type 0
LinesPrint printed Fine = Unit {0}
LinesPrint printed Refused = ⊥
LinesPrint printed Failed = ⊥

-- States that the output for a device's Modbus registers has the requested form: a SunSpec chain, a
-- point list, or setup lines (which add the device to `sunreg`).
abbrev pub FormPrints : ScanForm → Words → (printed : List ℕ) → ExitStatus → Type 0
FormPrints form.Chain word printed status = WordsPrint word printed status
FormPrints form.List word printed status = ListPrints word printed status
FormPrints (form.Setup site) word printed status = SetupPrints word printed status

-- States that a scan read a device's Modbus registers over a connection and wrote the requested
-- output, or that the scan failed.
pub record ScanPrints {P : Type 0} (p : printers.Ghosts P) (unit : ℕ) (form : ScanForm)
    (old_bytes old_given new_bytes new_given : Option (List ℕ)) (old new : P) (status : ExitStatus)
    : Type 0 where
  pub word : Words
  pub scans : Scans unit old_bytes old_given new_bytes new_given word
  pub prints : PrintsOn p (FormPrints form word) status old new
