-- Defines the result of parsing the program's arguments.
use Rattle.std.specs.Prelude.{◌≡◌, ◌≢◌, ◌⊎◌, ⊤, List, [], ◌∷◌, Option, None, Some}
use Rattle.std.specs.Borrow.{Bor}
use Rattle.clap.specs.Words.{IsAmong, Kinds, Text, fault_of, subcommand_of, subcommand_rows_of}
use Rattle.clap.specs.declared.parser.matches.ArgMatches.{ArgMatches}
use Rattle.clap.specs.declared.error.kind.ErrorKind.{ErrorKind}
use Rattle.clap.specs.declared.error.kind.ErrorKind.TheVariants.{DisplayHelp, DisplayVersion}
use Rattle.command_words.specs.ClapTable.Table.{texts}
use Rattle.command_words.specs.Lines.{Line, line_in, seen}
use Rattle.command_words.specs.Program.{program}
use Rattle.command_words.specs.declared.line.CommandLine.{CommandLine}
use Rattle.command_words.specs.declared.faults.WordsFault.{WordsFault}
use Rattle.command_words.specs.declared.faults.WordsFault.TheVariants.{Wrong, Help, Version, Memory}

-- States that `found` has the command and the option values that `clap` parses from the arguments
-- `words`.
abbrev pub IsFound : List (Bor Text) → ArgMatches → Type 0
IsFound words found = subcommand_rows_of found ≡ subcommand_of program (texts words)

-- The command line that results from the arguments, or None if an option value is invalid.
abbrev pub line_of : List Text → Option Line
line_of words = line_in (subcommand_of program words)

-- The kinds of errors that `clap` may report for the arguments, or an empty list if `clap` accepts
-- them.
abbrev pub errors_of : List Text → Kinds
errors_of words = fault_of program words

-- States that a `clap` error is a real error. `clap` also reports requests for help or for the
-- version as errors.
abbrev pub IsFault : ErrorKind → Type 0
IsFault kind = (kind ≢ DisplayHelp) × (kind ≢ DisplayVersion)

-- States that one of the `clap` errors is a real error. `clap` also reports requests for help or
-- for the version as errors.
abbrev pub HasFault : Kinds → Type 0
HasFault [] = ⊥
HasFault (kind ∷ kinds) = IsFault kind ⊎ HasFault kinds

-- States that `clap` accepts the arguments, and that the command line `line` results from the
-- arguments.
abbrev pub Spells : List (Bor Text) → CommandLine → Type 0
Spells words line = (errors_of (texts words) ≡ []) × (Some (seen line) ≡ line_of (texts words))

-- States which faults the program may report for the arguments. `Wrong` (invalid arguments) is
-- allowed only for a real error of `clap` or an invalid option value. `Help` and `Version` are
-- allowed only if the user requested them.
abbrev pub IsFaultOf : List (Bor Text) → WordsFault → Type 0
IsFaultOf words (Wrong text) =
    HasFault (errors_of (texts words))
    ⊎ ((errors_of (texts words) ≡ []) × (None ≡ line_of (texts words)))
IsFaultOf words (Help text) = IsAmong DisplayHelp (errors_of (texts words))
IsFaultOf words Version = IsAmong DisplayVersion (errors_of (texts words))
IsFaultOf words Memory = ⊤
