use Rattle.std.proofs.Common.{lit<}
use Rattle.command_words.proofs.ValuesLemmas.Cuts.{first_cut}
use Rattle.command_words.proofs.values.devices.around_equals.Goals as goal

pub returns : goal.returns
returns c = first_cut 61 c.args.part.now c.split_once.result c.split_once.ensures.cases (lit< tt)
