-- Defines the `clap` commands and options that a program's tables describe.
use Rattle.std.specs.Prelude.{◌≡◌, ℕ, Some, List, Result, true, fold, map}
use Rattle.std.specs.Borrow.{Bor}
use Rattle.clap.specs.Words.{App, FailsBy, Rule, Text, fault_of, new_app, new_rule, subcommand_of, subcommand_rows_of, with_rule, with_subcommand}
use Rattle.clap.specs.declared.builder.action.ArgAction.TheVariants.{Append, SetTrue}
use Rattle.clap.specs.declared.error.Error.{Error}
use Rattle.clap.specs.declared.parser.matches.ArgMatches.{ArgMatches}
use Rattle.command_words.specs.declared.clap_table.tables.CommandText.{CommandText}
use Rattle.command_words.specs.declared.clap_table.tables.OptionText.{OptionText}
use Rattle.command_words.specs.declared.clap_table.tables.ProgramText.{ProgramText}
use Rattle.command_words.specs.declared.clap_table.tables.Value.{Value}
use Rattle.command_words.specs.declared.clap_table.tables.Value.TheVariants as value

-- The `clap` rule of an option `--name`, with the name as its identifier.
abbrev pub long_rule : Text → Rule
long_rule name = record (new_rule name) { long = Some name }

-- The `clap` rule of a required option with a value.
abbrev pub required_option : Text → Rule
required_option name = record (long_rule name) { value_names = 1; required = true }

-- The `clap` rule of an option that has a value and need not be given.
abbrev pub optional_option : Text → Rule
optional_option name = record (long_rule name) { value_names = 1 }

-- The `clap` rule of an option that need not be given, and may be given several times.
abbrev pub repeated_option : Text → Rule
repeated_option name = record (long_rule name) { value_names = 1; action = Some Append }

-- The `clap` rule of an option that must be given, and may be given several times.
abbrev pub several_option : Text → Rule
several_option name =
    record (long_rule name) { value_names = 1; required = true; action = Some Append }

-- The `clap` rule of a flag: an option without a value.
abbrev pub flag : Text → Rule
flag name = record (long_rule name) { action = Some SetTrue }

-- The `clap` rule of a flag that also has a short form of one letter.
abbrev pub lettered_flag : ℕ → Text → Rule
lettered_flag letter name = record (flag name) { short = Some letter }

-- The `clap` rule of a required positional argument.
abbrev pub word : Text → Rule
word name = record (new_rule name) { value_names = 1; required = true }

-- A `clap` command with the name `name` and the given options.
abbrev pub command_with : Text → List Rule → App
command_with name options = fold with_rule (new_app name) options

-- The program `a`, with two settings for `clap`: the arguments do not begin with the program's
-- name, and the flag `--version` is accepted.
abbrev pub as_program : App → App
as_program a = record a { top = record a.top { no_binary_name = true; has_version = true } }

-- The program `a` with the subcommands `commands`.
abbrev pub with_apps : App → List App → App
with_apps a commands = fold (λ a c. with_subcommand a c.top) a commands

-- A program with the name `name`. Its subcommands are those of the list `commands`, followed by
-- those of the list `later`.
abbrev pub program_with : Text → (commands later : List App) → App
program_with name commands later =
    as_program (with_apps (with_apps (new_app name) commands) later)

-- Definitions that convert the rows of a program's option tables to `clap` rules and commands.

-- The `clap` rule of the option `name`, for the kind of option that the table of a program's
-- commands and options states.
abbrev pub rule_by : Text → Value → Rule
rule_by name (value.Required shown) = required_option name
rule_by name (value.Optional shown) = optional_option name
rule_by name (value.Chosen shown choices) = optional_option name
rule_by name (value.Repeated shown) = repeated_option name
rule_by name (value.Several shown) = several_option name
rule_by name value.Absent = flag name
rule_by name (value.Letter letter) = lettered_flag letter name
rule_by name (value.Word shown choices) = word name

-- The `clap` rule of an option that is described in the table of a program's commands and options.
abbrev pub option_rule : OptionText → Rule
option_rule o = rule_by o.name.now o.value

-- The command `a` with one more option from the table of a program's commands and options.
abbrev pub with_option : App → OptionText → App
with_option a o = with_rule a (option_rule o)

-- The command `a` with several more options from the table of a program's commands and options.
abbrev pub with_options : App → List OptionText → App
with_options a options = fold with_option a options

-- The `clap` command for a command that is described in the table of a program's commands and
-- options.
abbrev pub command_app : CommandText → App
command_app c = with_options (new_app c.name.now) c.options.now

-- The program `a` with one more command from the table of the program's commands and options.
abbrev pub with_command : App → CommandText → App
with_command a c = with_subcommand a (command_app c).top

-- The `clap` definition `a` of a program, with several more commands from the program's table of
-- commands and options.
abbrev pub with_commands : App → List CommandText → App
with_commands a commands = fold with_command a commands

-- The `clap` definition of the program that a table of commands and options describes.
abbrev pub program_app : ProgramText → App
program_app p =
    as_program (with_commands (with_commands (new_app p.name.now) p.commands.now) p.later.now)

-- Definitions of the results of parsing arguments with `clap`.

-- The bytes of each command-line argument.
abbrev pub texts : List (Bor Text) → List Text
texts words = map (λ word. word.now) words

-- States that `found` has the subcommand and the option values that `clap` parses from the
-- arguments `words`.
abbrev pub IsFound : ProgramText → List (Bor Text) → ArgMatches → Type 0
IsFound program words found =
    subcommand_rows_of found ≡ subcommand_of (program_app program) (texts words)

-- States that, if parsing fails, `clap` is allowed to report the returned error for the given
-- arguments.
abbrev pub Fails : {T : Type 0} → ProgramText → List (Bor Text) → Result T Error → Type 0
Fails program words result = FailsBy (fault_of (program_app program) (texts words)) result
