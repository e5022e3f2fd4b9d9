-- Defines the numeric codes of the faults of a memory image (the words read from a device) and of a
-- chain.
use Rattle.std.specs.Prelude.{ℕ}
use Rattle.sun_chain.specs.declared.fault.ImageFault.{ImageFault}
use Rattle.sun_chain.specs.declared.fault.ImageFault.TheVariants as image
use Rattle.sun_chain.specs.declared.fault.ChainFault.{ChainFault}
use Rattle.sun_chain.specs.declared.fault.ChainFault.TheVariants as chain

-- The numeric code of each fault of a write into a memory image (the words read from a device).
abbrev pub image_fault_number : ImageFault → ℕ
image_fault_number image.PastEnd = 1
image_fault_number image.Memory = 2

-- The numeric code that the command `chain` prints for each fault.
abbrev pub chain_fault_number : ChainFault → ℕ
chain_fault_number chain.NoMark = 1
chain_fault_number (chain.Unreadable address) = 2
chain_fault_number chain.PastEnd = 3
chain_fault_number chain.TooMany = 4
chain_fault_number chain.Memory = 5
