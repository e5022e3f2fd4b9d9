use Rattle.std.proofs.Common.{◌≡◌, false, take}
use Rattle.std.specs.Prelude.{fold}
use Rattle.clap.specs.Words.{app_of}
use Rattle.clap.specs.declared.builder.command.Command.TheViews.{out-Command as fields_of}
use Rattle.command_words.specs.ClapTable.Table.{with_option}
use Rattle.command_words.proofs.clap_table.clap_command.with_options.Given as goal

abbrev pub invariant-loop-option : goal.invariant-loop-option
invariant-loop-option l =
    (app_of l.command ≡ fold with_option (app_of l.fn.command) (take l.option-index l.options))
    × ((fields_of l.command).has_globals ≡ false)
