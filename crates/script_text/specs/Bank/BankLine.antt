-- Defines the results of the private functions that parse a setup line of the Modbus simulator. The
-- file `Forms` defines which words spell a setup line.
use Rattle.std.specs.Prelude.{ℕ, nat_le, if◌then◌else◌, List, [], ◌∷◌, Option, Some, None, codes}
use Rattle.std.specs.Str.{bytes_eq}
use Rattle.mb_device.specs.declared.kinds.Kind.{Kind}
use Rattle.mb_device.specs.declared.kinds.Kind.TheVariants as kind
use Rattle.script_text.specs.LineWords.Fields.{Number, first_value, end_of_words, ◌>>=◌}
use Rattle.script_text.specs.LineWords.Meanings.{meaning_in}
use Rattle.script_text.specs.declared.bank.bank.BankLine.{BankLine}
use Rattle.script_text.specs.declared.bank.bank.BankLine.TheVariants as line
use Rattle.mb_device.specs.declared.trick.Trick.{Trick}
use Rattle.mb_device.specs.declared.trick.Trick.TheVariants as trick

-- The table of the kinds of Modbus addresses (coil, discrete input, holding and input register), by
-- name.
abbrev pub kinds : List (List ℕ × Kind)
kinds =
    (codes "coil", kind.Coil)
    ∷ (codes "discrete", kind.Discrete)
    ∷ (codes "holding", kind.Holding)
    ∷ (codes "input", kind.Input)
    ∷ []

-- The kind of Modbus addresses with the given name, such as `coil` or `holding`.
abbrev pub kind_of : List ℕ → Option Kind
kind_of word = meaning_in kinds word

-- The two numbers that the given words spell. `None` if the words are not exactly two numbers.
abbrev pub two_said : List (List ℕ) → Option (ℕ × ℕ)
two_said words =
    first_value Number words >>= λ a. first_value Number a.1 >>= λ b. end_of_words b.1 >>= λ none.
    Some (a.0, b.0)

-- The kind of Modbus addresses and the two numbers that the given words spell. `None` if the words
-- are not exactly a kind and two numbers.
abbrev pub three_said : List (List ℕ) → Option (Kind × ℕ × ℕ)
three_said [] = None
three_said (word ∷ words) =
    kind_of word >>= λ kind. two_said words >>= λ two. Some (kind, two.0, two.1)

-- The table of the faults that the simulated device can inject and that take no argument, by name.
abbrev pub tricks : List (List ℕ × Trick)
tricks =
    (codes "drop", trick.Drop)
    ∷ (codes "twice", trick.Twice)
    ∷ (codes "later", trick.Later)
    ∷ (codes "id", trick.Id)
    ∷ (codes "unit", trick.Unit)
    ∷ (codes "garble", trick.Garble)
    ∷ []

-- The fault with the given name that the simulated device can inject and that takes no argument.
-- `None` for other names.
abbrev pub plain_of : List ℕ → Option Trick
plain_of word = meaning_in tricks word

-- The injected fault that cuts a simulated device's response to its first K bytes. `None` unless
-- the words are exactly one number K of at most 259.
abbrev pub cut_said : List (List ℕ) → Option Trick
cut_said words =
    first_value Number words >>= λ count. end_of_words count.1 >>= λ none. if nat_le count.0 259
    then Some (trick.Cut count.0) else None

-- The injected fault of a simulated device that the given words spell: the fault's name, or `cut`
-- and a number of bytes. `None` for other words.
abbrev pub trick_said : List (List ℕ) → Option Trick
trick_said [] = None
trick_said (word ∷ words) =
    if bytes_eq word (codes "cut") then cut_said words
    else (plain_of word >>= λ trick. end_of_words words >>= λ none. Some trick)

-- The setup line that injects a fault into the simulator's response to one numbered frame, parsed
-- from the words after `trick`.
abbrev pub frame_said : List (List ℕ) → Option BankLine
frame_said words =
    first_value Number words >>= λ frame. trick_said frame.1 >>= λ trick.
    Some (line.Trick frame.0 trick)

-- The setup line that adds a range of Modbus addresses to the simulator's register map.
abbrev pub area_said : List (List ℕ) → Option BankLine
area_said words =
    three_said words >>= λ v. Some (line.Area (record { kind = v.0; start = v.1; count = v.2 }))

-- The setup line that sets the value at a Modbus address of the simulator.
abbrev pub set_said : List (List ℕ) → Option BankLine
set_said words =
    three_said words >>= λ v. Some (line.Set (record { kind = v.0; address = v.1; value = v.2 }))

-- The setup line of a simulated device that the given words spell, or `None` if the words spell no
-- setup line.
abbrev pub bank_said : List (List ℕ) → Option BankLine
bank_said [] = None
bank_said (word ∷ words) =
    if bytes_eq word (codes "area") then area_said words
    else if bytes_eq word (codes "set") then set_said words
    else if bytes_eq word (codes "trick") then frame_said words
    else None
