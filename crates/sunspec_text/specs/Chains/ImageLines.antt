-- Defines the register image that lines `ADDRESS HEX` describe. HEX has the 16-bit words of the
-- Modbus registers from ADDRESS on.
use Rattle.std.specs.Prelude.{ℕ, ◌+◌, ◌%◌, ◌==◌, nat_le, if◌then◌else◌, List, [], ◌∷◌, length, Some, None, Ok, Err, option_and_then, option_map, ◌≡◌, Vec}
use Rattle.std.specs.declared.option.Option.{Option}
use Rattle.std.specs.declared.result.Result.{Result}
use Rattle.mb_wire.specs.Bytes.{words_of as words_spelled}
use Rattle.sun_chain.specs.Image.{Words, add_words}
use Rattle.command_io.specs.Lines.{Line}
use Rattle.script_text.specs.LineWords.Words.{words_of}
use Rattle.script_text.specs.LineWords.Values.{bytes_of, number_of}

-- The content of a line `ADDRESS HEX`: the 16-bit words of some Modbus registers, and the address
-- of the first register.
pub record Put : Type 0 where
  pub address : ℕ
  pub words : List ℕ

-- The 16-bit words that an even number of bytes encode, high byte first. `None` for an odd number
-- of bytes.
abbrev pub words_of_bytes : List ℕ → Option (List ℕ)
words_of_bytes bytes = if length bytes % 2 == 0 then Some (words_spelled bytes) else None

-- The 16-bit words that hexadecimal digits spell, four digits a word.
abbrev pub words_of_hex : List ℕ → Option (List ℕ)
words_of_hex hex = option_and_then words_of_bytes (bytes_of hex)

-- States that the result is the 16-bit words that the hexadecimal digits spell, or `None` if they
-- spell none.
abbrev pub SpellsWords : {Z : Type 0} → (hex : List ℕ) → (found : Option (Vec ℕ Z)) → Type 0
SpellsWords hex found = option_map (λ words. words.items) found ≡ words_of_hex hex

-- The given number as a Modbus address, or `None` if the number exceeds 65,535.
abbrev pub register_address : ℕ → Option ℕ
register_address number = if nat_le number 65535 then Some number else None

-- The Modbus address that a decimal number in a line spells, or `None` if it spells none.
abbrev pub address_of : List ℕ → Option ℕ
address_of word = option_and_then register_address (number_of word)

-- The parsed words of a line with their first address. `None` if the words or the address are
-- malformed.
abbrev pub append_at : Option ℕ → Option (List ℕ) → Option Put
append_at None words = None
append_at (Some address) None = None
append_at (Some address) (Some words) = Some (record { address = address; words = words })

-- The address and the Modbus registers in a line `ADDRESS HEX` of a register image, whose words are
-- given. A line without hexadecimal digits is valid and adds no registers. None if the line is
-- malformed.
abbrev pub write_said : List (List ℕ) → Option Put
write_said [] = None
write_said (address ∷ []) = append_at (address_of address) (Some [])
write_said (address ∷ hex ∷ []) = append_at (address_of address) (words_of_hex hex)
write_said (address ∷ hex ∷ more ∷ rest) = None

-- The content of a line `ADDRESS HEX`, or `None` if the line is malformed.
abbrev pub write_of : List ℕ → Option Put
write_of line = write_said (words_of line)

-- The register image after adding the registers of one line. `None` if these registers extend past
-- address 65,535.
abbrev pub words_after_put : Words → Put → Option Words
words_after_put word put =
    if nat_le (put.address + length put.words) 65536
    then Some (add_words word put.address put.words)
    else None

-- The register image after reading one line, or `None` if the line is malformed.
abbrev pub words_after : Words → List ℕ → Option Words
words_after word line = option_and_then (words_after_put word) (write_of line)

-- Applies the next parsing step to a register image. If there is no image because a line was
-- malformed, returns the number of this line.
abbrev pub or_bad_line : Option Words → ℕ → (Words → Result Words ℕ) → Result Words ℕ
or_bad_line None number goes_on = Err number
or_bad_line (Some word) number goes_on = goes_on word

-- The register image after reading all lines. If a line is malformed, the result is the number of
-- the first such line.
abbrev pub words_reported : Words → List Line → Result Words ℕ
words_reported word [] = Ok word
words_reported word (line ∷ lines) =
    or_bad_line (words_after word line.text) line.number (λ later. words_reported later lines)

-- The register image before the first line is read: no register has a value.
abbrev pub nothing_read : Words
nothing_read address = None
