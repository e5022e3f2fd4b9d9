-- The statements of the theorems about complete chains of SunSpec models and about their faults,
-- for all memory images (the words read from a device).
use Rattle.std.specs.Prelude.{◌≡◌, ◌≢◌, ℕ, ◌⊎◌, List}
use Rattle.sun_chain.specs.Image.{Words}
use Rattle.sun_chain.specs.Chain.{IsChain}
use Rattle.sun_chain.specs.Walk.{Fails}
use Rattle.sun_chain.specs.declared.model.Model.{Model}
use Rattle.sun_chain.specs.declared.fault.ChainFault.{ChainFault}
use Rattle.sun_chain.specs.declared.fault.ChainFault.TheVariants.{Memory}

-- True if the words read from a device contain a complete chain of SunSpec models.
abbrev pub HasChain : Words → Type 0
HasChain word = (base : ℕ) × (models : List Model) × (end : ℕ) × IsChain word base models end

-- True if the words read from a device have a fault of the SunSpec chain other than lack of memory.
abbrev pub HasFault : Words → Type 0
HasFault word = (fault : ChainFault) × (fault ≢ Memory) × Fails word fault

-- The statement that the words read from a device always contain a complete chain or have a fault.
abbrev pub ChainOrFault : Type 0
ChainOrFault = (word : Words) → HasChain word ⊎ HasFault word

-- The statement that the words read from a device contain at most one complete chain.
abbrev pub ChainIsOne : Type 0
ChainIsOne = (word : Words) (base other_base : ℕ) (models others : List Model) (end other_end : ℕ)
    → IsChain word base models end → IsChain word other_base others other_end
    → (base ≡ other_base) × (models ≡ others) × (end ≡ other_end)

-- The statement that, if the words read from a device contain a complete chain of SunSpec models,
-- no fault of a chain applies to them except lack of memory.
abbrev pub ChainHasNoFault : Type 0
ChainHasNoFault = (word : Words) (base : ℕ) (models : List Model) (end : ℕ) (fault : ChainFault)
    → IsChain word base models end → Fails word fault → fault ≡ Memory

-- The statement that the search for a SunSpec chain in the words read from a device can fail with
-- at most one fault, apart from lack of memory.
abbrev pub FaultIsOne : Type 0
FaultIsOne = (word : Words) (fault other : ChainFault) → fault ≢ Memory → other ≢ Memory
    → Fails word fault → Fails word other → fault ≡ other
