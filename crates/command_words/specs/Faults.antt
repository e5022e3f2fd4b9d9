-- Defines the faults for arguments that form no valid command line.
use Rattle.std.specs.Prelude.{◌≡◌, ◌≢◌, ⊤}
use Rattle.clap.specs.declared.error.kind.ErrorKind.{ErrorKind}
use Rattle.clap.specs.declared.error.kind.ErrorKind.TheVariants.{DisplayHelp, DisplayVersion, OutOfMemory}
use Rattle.command_words.specs.declared.faults.ValueFault.{ValueFault}
use Rattle.command_words.specs.declared.faults.ValueFault.TheVariants as value
use Rattle.command_words.specs.declared.faults.WordsFault.{WordsFault}
use Rattle.command_words.specs.declared.faults.WordsFault.TheVariants.{Wrong, Help, Version, Memory}

-- States which faults the program may report when the argument parser `clap` returns an error of
-- the given kind. `Help` and `Version` are allowed only if the user requested them. `Memory` (out
-- of memory) is always allowed.
abbrev pub IsRefusal : ErrorKind → WordsFault → Type 0
IsRefusal kind (Wrong text) =
    (kind ≢ DisplayHelp) × (kind ≢ DisplayVersion) × (kind ≢ OutOfMemory)
IsRefusal kind (Help text) = kind ≡ DisplayHelp
IsRefusal kind Version = kind ≡ DisplayVersion
IsRefusal kind Memory = ⊤

-- States which faults the program may report when an option's value is missing or invalid. Only
-- `Wrong` (invalid arguments) and `Memory` (out of memory) are allowed.
abbrev pub IsMisreading : ValueFault → WordsFault → Type 0
IsMisreading fault (Wrong text) = fault ≢ value.Memory
IsMisreading fault (Help text) = ⊥
IsMisreading fault Version = ⊥
IsMisreading fault Memory = ⊤
