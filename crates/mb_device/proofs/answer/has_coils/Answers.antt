use Rattle.std.proofs.Common.{◌∙◌, ap, sym}
use Rattle.mb_wire.proofs.Packing.{length-coils_of-whole}
use Rattle.mb_device.specs.Maps.{are_there}
use Rattle.mb_device.proofs.Gathering.{there_fits}
use Rattle.mb_device.proofs.answer.has_coils.Goals as goal

pub returns-clause-value : goal.returns-clause-value
returns-clause-value c =
    c.has_all.ensures ∙ ap (are_there c.args.table.now c.args.address) (sym (length-coils_of-whole c.args.quantity c.args.bytes.now c.requires))

pub returns-clause-fits : goal.returns-clause-fits
returns-clause-fits c = λ there. there_fits c.args.table.now c.args.address c.args.quantity (sym c.has_all.ensures ∙ there)
