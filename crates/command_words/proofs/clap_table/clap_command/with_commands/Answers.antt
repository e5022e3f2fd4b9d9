use Rattle.command_words.specs.ClapTable.Table.{with_command}
use Rattle.command_words.proofs.ClapTableLemmas.Folds.{fold_more}
use Rattle.command_words.proofs.clap_table.clap_command.with_commands.Goals as goal

pub loop-command-preserved : goal.loop-command-preserved
loop-command-preserved c =
    fold_more with_command _ c.args.commands.now c.loop-command.command-index _ _ _ c.loop-command-test.true
    c.loop-command.invariant c.in_ok-program.ensures
