use Rattle.command_words.specs.ClapTable.Table.{with_option}
use Rattle.command_words.proofs.ClapTableLemmas.Folds.{fold_more}
use Rattle.command_words.proofs.clap_table.clap_command.with_options.Goals as goal

pub loop-option-preserved : goal.loop-option-preserved
loop-option-preserved c = (
  fold_more with_option _ c.args.options.now c.loop-option.option-index _ _ _ c.loop-option-test.true
      c.loop-option.invariant.0 c.in_ok-command.ensures.app,
  c.in_ok-command.ensures.local,
)
