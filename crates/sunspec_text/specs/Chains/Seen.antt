-- Defines the contracts for parsing lines `ADDRESS HEX` into an image of a device's Modbus
-- registers.
use Rattle.std.specs.Prelude.{◌≡◌, ℕ, List, None, Ok, Err}
use Rattle.std.specs.declared.result.Result.{Result}
use Rattle.sun_chain.specs.Image.{Words, word_in}
use Rattle.sun_chain.specs.declared.image.Image.{Image}
use Rattle.command_io.specs.Lines.{Line, speaking_lines}
use Rattle.sunspec_text.specs.Chains.ImageLines.{Put, nothing_read, words_after, words_reported}
use Rattle.sunspec_text.specs.declared.chains.image_lines.Put.{Put as LoadedPut}
use Rattle.sunspec_text.specs.declared.chains.image_lines.LoadFault.{LoadFault}
use Rattle.sunspec_text.specs.declared.chains.image_lines.LoadFault.TheVariants.{BadLine, Memory}

-- The logical model of a parsed line `ADDRESS HEX`. It has the address, and the words as a list.
abbrev pub seen_put : LoadedPut → Put
seen_put put = record { address = put.address; words = put.words.items }

-- States that the register image has exactly the values that the lines of the text contain.
abbrev pub ReportsImage : (text : List ℕ) → Image → Type 0
ReportsImage text image = words_reported nothing_read (speaking_lines text) ≡ Ok (word_in image)

-- States that a line `ADDRESS HEX` is malformed or extends past address 65,535, and that `number`
-- is the line's number.
pub record IsBad (word : Words) (line : Line) (number : ℕ) : Type 0 where
  pub number_of : number ≡ line.number
  pub wrong : words_after word line.text ≡ None

-- States that the fault explains why a line was not added to the register image. The line is
-- malformed, or memory ran out.
abbrev pub ExplainsLine : LoadFault → Words → Line → Type 0
ExplainsLine (BadLine number) word line = IsBad word line number
ExplainsLine Memory word line = Unit {0}

-- States that the fault explains why the lines describe no register image: a line is malformed (the
-- fault has the first such line's number), or memory ran out.
abbrev pub Explains : LoadFault → Result Words ℕ → Type 0
Explains (BadLine number) reported = reported ≡ Err number
Explains Memory reported = Unit {0}

-- States that the fault explains why the lines of a text describe no register image.
abbrev pub ExplainsText : (text : List ℕ) → LoadFault → Type 0
ExplainsText text fault = Explains fault (words_reported nothing_read (speaking_lines text))
