use Rattle.std.proofs.Common.{◌≡◌, take}
use Rattle.std.specs.Prelude.{fold}
use Rattle.clap.specs.Words.{app_of}
use Rattle.command_words.specs.ClapTable.Table.{with_command}
use Rattle.command_words.proofs.clap_table.clap_command.with_commands.Given as goal

abbrev pub invariant-loop-command : goal.invariant-loop-command
invariant-loop-command l =
    app_of l.program ≡ fold with_command (app_of l.fn.program) (take l.command-index l.commands)
