use Rattle.std.proofs.Common.{◌∙◌, ◌/◌, ap, sym, length}
use Rattle.mb_wire.proofs.Words.{length-words_of}
use Rattle.mb_device.specs.Maps.{are_there}
use Rattle.mb_device.proofs.Gathering.{there_fits}
use Rattle.mb_device.proofs.answer.has_words.Goals as goal

pub returns-clause-value : goal.returns-clause-value
returns-clause-value c =
    c.has_all.ensures ∙ ap (are_there c.args.table.now c.args.address) (sym (length-words_of c.args.bytes.now))

pub returns-clause-fits : goal.returns-clause-fits
returns-clause-fits c = λ there. there_fits c.args.table.now c.args.address (length c.args.bytes.now / 2) (sym c.has_all.ensures ∙ there)
