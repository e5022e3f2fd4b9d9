-- Defines the fields of each kind of line that sets up a simulated device. The words of the line
-- spell these fields in order.
use Rattle.std.specs.Prelude.{ℕ, ◌≤◌, List, [], ◌∷◌, codes}
use Rattle.mb_device.specs.declared.kinds.Kind.{Kind}
use Rattle.mb_device.specs.declared.kinds.Kind.TheVariants as kind
use Rattle.script_text.specs.LineWords.Fields.{Field, Number, Of, Spell, Word}
use Rattle.script_text.specs.declared.bank.bank.BankLine.{BankLine}
use Rattle.script_text.specs.declared.bank.bank.BankLine.TheVariants as line
use Rattle.mb_device.specs.declared.trick.Trick.{Trick}
use Rattle.mb_device.specs.declared.trick.Trick.TheVariants as trick

-- The name of a kind of Modbus addresses, such as `coil` or `holding`.
abbrev pub kind_word : Kind → List ℕ
kind_word kind.Coil = codes "coil"
kind_word kind.Discrete = codes "discrete"
kind_word kind.Holding = codes "holding"
kind_word kind.Input = codes "input"

-- The fields of a line that name an injected fault of a simulated device.
abbrev pub trick_form : Trick → List Field
trick_form trick.Drop = Word (codes "drop") ∷ []
trick_form trick.Twice = Word (codes "twice") ∷ []
trick_form trick.Later = Word (codes "later") ∷ []
trick_form trick.Id = Word (codes "id") ∷ []
trick_form trick.Unit = Word (codes "unit") ∷ []
trick_form trick.Garble = Word (codes "garble") ∷ []
trick_form (trick.Cut count) = Word (codes "cut") ∷ Of Number count ∷ []

-- The fields of a line that sets up a simulated device.
abbrev pub bank_form : BankLine → List Field
bank_form (line.Area area) =
    Word (codes "area") ∷ Word (kind_word area.kind) ∷ Of Number area.start ∷ Of Number area.count
    ∷ []
bank_form (line.Set cell) =
    Word (codes "set") ∷ Word (kind_word cell.kind) ∷ Of Number cell.address ∷ Of Number cell.value
    ∷ []
bank_form (line.Trick frame trick) = Word (codes "trick") ∷ Of Number frame ∷ trick_form trick

-- States that an injected fault that cuts a response keeps at most 259 bytes of the response, fewer
-- than the longest Modbus TCP frame has. States nothing for other faults.
abbrev pub IsPart : Trick → Type 0
IsPart (trick.Cut count) = count ≤ 259
IsPart trick = Unit {0}

-- States that if the setup line of a simulated device injects the fault of a cut response, the
-- response keeps at most 259 bytes. States nothing for other lines.
abbrev pub CanBe : BankLine → Type 0
CanBe (line.Trick frame trick) = IsPart trick
CanBe line = Unit {0}

-- States that the given words spell the given setup line of a simulated device. If the line injects
-- a fault that cuts a response, at most 259 bytes of the response are kept.
pub record IsBankLine (words : List (List ℕ)) (line : BankLine) : Type 0 where
  pub form : Spell words (bank_form line)
  pub can : CanBe line
