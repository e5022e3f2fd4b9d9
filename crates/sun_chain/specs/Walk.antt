-- Defines the fault of a memory image (the words read from a device) without a complete chain of
-- models.
use Rattle.std.specs.Prelude.{◌≡◌, ℕ, ◌+◌, ◌≤◌, ◌==◌, nat_le, nat_lt, if◌then◌else◌, List, length, Some, None}
use Rattle.std.specs.declared.option.Option.{Option}
use Rattle.sun_chain.specs.Image.{Words}
use Rattle.sun_chain.specs.Chain.{base_in, IsLawful}
use Rattle.sun_chain.specs.declared.model.Model.{Model}
use Rattle.sun_chain.specs.declared.fault.ChainFault.{ChainFault}
use Rattle.sun_chain.specs.declared.fault.ChainFault.TheVariants.{NoMark, Unreadable, PastEnd, TooMany, Memory}

-- The fault `PastEnd` if a model of the given length ends past address 65535, otherwise `None`.
abbrev pub end_lack : ℕ → ℕ → Option ChainFault
end_lack address length = if nat_lt 65536 (address + 2 + length) then Some PastEnd else None

-- The fault of a model's length word, or `None`. A length word that was not read is the fault
-- `Unreadable`. A model that ends past address 65535 has the fault `PastEnd`.
abbrev pub length_lack : ℕ → Option ℕ → Option ChainFault
length_lack address None = Some (Unreadable (address + 1))
length_lack address (Some length) = end_lack address length

-- The first fault of a model's ID word and length word, or `None`. A 65th model is reported before
-- its length is read.
abbrev pub id_lack : Words → ℕ → ℕ → Option ℕ → Option ChainFault
id_lack word count address None = Some (Unreadable address)
id_lack word count address (Some id) =
    if id == 0xFFFF then None
    else if nat_le 64 count then Some TooMany
    else if nat_lt 65535 (address + 1) then Some PastEnd
    else length_lack address (word (address + 1))

-- The first fault at an address after the given number of models. `None` if a model without such a
-- fault begins there, or if the chain ends there.
abbrev pub first_lack : Words → ℕ → ℕ → Option ChainFault
first_lack word count address =
    if nat_lt 65535 address then Some PastEnd else id_lack word count address (word address)

-- True if the given fault is at the address after the longest list of models that follows the
-- `SunS` mark without gaps and has at most 64 models.
pub record Lacks (word : Words) (fault : ChainFault) : Type 0 where
  pub base : ℕ
  pub models : List Model
  pub next : ℕ
  pub lawful : IsLawful word base models next
  pub longest : (others : List Model) (other_next : ℕ) → IsLawful word base others other_next
      → length others ≤ length models
  pub lack : first_lack word (length models) next ≡ Some fault

-- True if the words read from a device have the given fault. Lack of memory may occur with any
-- words.
abbrev pub Fails : Words → ChainFault → Type 0
Fails word NoMark = base_in word ≡ None
Fails word (Unreadable address) = Lacks word (Unreadable address)
Fails word PastEnd = Lacks word PastEnd
Fails word TooMany = Lacks word TooMany
Fails word Memory = Unit {0}
