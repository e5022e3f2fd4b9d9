use Rattle.std.proofs.Common.{refl}
use Rattle.command_words.proofs.table.commands.Goals as goal

pub returns : goal.returns
returns c = λ app. refl
