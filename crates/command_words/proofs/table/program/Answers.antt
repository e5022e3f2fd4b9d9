use Rattle.std.proofs.Common.{◌∙◌, ap, codes}
use Rattle.clap.specs.Words.{new_app}
use Rattle.command_words.specs.ClapTable.Table.{as_program, with_apps, with_commands}
use Rattle.command_words.specs.Program.{commands}
use Rattle.command_words.proofs.table.program.Goals as goal

pub returns : goal.returns
returns c =
    ap (λ app. as_program (with_commands app c.later_commands.result.now)) (c.commands.ensures (new_app (codes "sunreg")))
    ∙ ap as_program (c.later_commands.ensures (with_apps (new_app (codes "sunreg")) commands))
