use Rattle.std.proofs.Common.{lit<}
use Rattle.command_words.proofs.ValuesLemmas.Cuts.{last_cut}
use Rattle.command_words.proofs.values.devices.around_colon.Goals as goal

pub returns : goal.returns
returns c = last_cut 58 c.args.address.now c.rsplit_once.result (lit< tt) c.rsplit_once.ensures.cases
