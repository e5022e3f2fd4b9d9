-- Defines the output and the exit status of the command that prints the chain of SunSpec models in
-- a device's words. A word is the content of one Modbus register.
use Rattle.std.specs.Prelude.{◌≡◌, ◌≢◌, ◌<◌, ◌≤◌, ℕ, List, [], ◌++◌, length, flat_map, codes, Ok, Err}
use Rattle.std.specs.Fmt.{decimal}
use Rattle.std.specs.declared.result.Result.{Result}
use Rattle.sun_chain.specs.declared.chain.Chain.{Chain}
use Rattle.sun_chain.specs.Image.{Words}
use Rattle.sun_chain.specs.Chain.{IsChain, base_of, end_of, models_of, words_of}
use Rattle.sun_chain.specs.Fault.{chain_fault_number}
use Rattle.sun_chain.specs.Points.{Named, points_in, value_text}
use Rattle.sun_chain.specs.Walk.{Fails}
use Rattle.sun_chain.specs.declared.model.Model.{Model}
use Rattle.sun_chain.specs.declared.fault.ChainFault.{ChainFault}
use Rattle.sun_chain.specs.declared.fault.ChainFault.TheVariants.{NoMark, Unreadable, PastEnd, TooMany, Memory}
use Rattle.sunspec_text.specs.Chains.ImageLines.{nothing_read, words_reported}
use Rattle.command_io.specs.Input.{most_bytes, too_long}
use Rattle.command_io.specs.Lines.{speaking_lines}
use Rattle.script_text.specs.AnswerText.{bad_line}
use Rattle.command_io.specs.declared.status.ExitStatus.{ExitStatus}
use Rattle.command_io.specs.declared.status.ExitStatus.TheVariants.{Fine, Refused, Failed}

-- The line `point NAME VALUE` for a point of a SunSpec model.
abbrev pub point_line : Named → List ℕ
point_line point =
    codes "point " ++ point.name ++ codes " " ++ value_text point.value point.scale ++ codes "\n"

-- The line `model ADDRESS ID LENGTH` for a SunSpec model.
abbrev pub model_line : Model → List ℕ
model_line model =
    codes "model " ++ decimal model.address ++ codes " " ++ decimal model.id ++ codes " "
    ++ decimal model.length ++ codes "\n"

-- The line of a SunSpec model, followed by one line for each of its points.
abbrev pub model_lines : Words → Model → List ℕ
model_lines word model = model_line model ++ flat_map point_line (points_in word model)

-- The lines that are printed for a SunSpec chain: its base address, its models, and the address of
-- its end.
abbrev pub chain_lines : Words → ℕ → List Model → ℕ → List ℕ
chain_lines word base models end =
    codes "base " ++ decimal base ++ codes "\n" ++ flat_map (model_lines word) models
    ++ codes "end "
    ++ decimal end ++ codes "\n"

-- The lines that are printed for a SunSpec chain that was parsed from a device's Modbus registers.
abbrev pub lines_of : Chain → List ℕ
lines_of chain =
    chain_lines (words_of chain) (base_of chain) (models_of chain) (end_of chain)

-- The part of a printed fault that names the faulty Modbus address, after a space. Empty if the
-- fault concerns no single address.
abbrev pub place_text : ChainFault → List ℕ
place_text NoMark = []
place_text (Unreadable address) = codes " " ++ decimal address
place_text PastEnd = []
place_text TooMany = []
place_text Memory = []

-- The line that reports why a device has no complete chain of SunSpec models. The line has the
-- fault's numeric code, and for some faults an address.
abbrev pub fault_line : ChainFault → List ℕ
fault_line fault =
    codes "fault " ++ decimal (chain_fault_number fault) ++ place_text fault ++ codes "\n"

-- States that a device's Modbus registers have the given fault of the SunSpec chain. False for
-- `Memory`, because running out of memory is no fault of the registers.
abbrev pub IsWrong : Words → ChainFault → Type 0
IsWrong word Memory = ⊥
IsWrong word NoMark = Fails word NoMark
IsWrong word (Unreadable address) = Fails word (Unreadable address)
IsWrong word PastEnd = Fails word PastEnd
IsWrong word TooMany = Fails word TooMany

-- States that the output is the line that reports a fault of a SunSpec model chain, and that the
-- exit status is `Refused`. False for `Memory`, because running out of memory prints no line.
abbrev pub FaultPrints : ChainFault → (printed : List ℕ) → ExitStatus → Type 0
FaultPrints fault printed Fine = ⊥
FaultPrints fault printed Refused = (fault ≢ Memory) × (printed ≡ fault_line fault)
FaultPrints fault printed Failed = ⊥

-- States that the output is the lines of the SunSpec chain in a device's Modbus registers. If the
-- registers contain no complete chain, the output is the fault's line.
abbrev pub WordsPrint : Words → (printed : List ℕ) → ExitStatus → Type 0
WordsPrint word printed Fine =
    (base : ℕ) × (models : List Model) × (end : ℕ) × IsChain word base models end
    × (printed ≡ chain_lines word base models end)
WordsPrint word printed Refused =
    (fault : ChainFault) × IsWrong word fault × (printed ≡ fault_line fault)
WordsPrint word printed Failed = ⊥

-- States the output of the command that prints a SunSpec chain, for the Modbus registers that the
-- input lines describe. If a line is malformed, the output is `bad line N` with the first such
-- line's number.
abbrev pub LinesPrint : Result Words ℕ → (printed : List ℕ) → ExitStatus → Type 0
LinesPrint (Err number) printed status = (status ≡ Refused) × (printed ≡ bad_line number)
LinesPrint (Ok word) printed status = WordsPrint word printed status

-- States the output of the command that prints a SunSpec chain, for a complete input, which
-- describes Modbus registers. The output is `too long` if the input exceeds the maximum length.
pub record ChainPrints (input printed : List ℕ) (status : ExitStatus) : Type 0 where
  pub long : most_bytes < length input → (status ≡ Refused) × (printed ≡ too_long)
  pub lines : length input ≤ most_bytes
      → LinesPrint (words_reported nothing_read (speaking_lines input)) printed status
