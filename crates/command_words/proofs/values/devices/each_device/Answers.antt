use Rattle.command_words.proofs.ValuesLemmas.Parts.{devices_more, devices_none}
use Rattle.command_words.proofs.values.devices.each_device.Goals as goal

pub returns-in_default : goal.returns-in_default
returns-in_default c = devices_none c.args.parts.now c.loop-part.part-index _ c.loop-part-test.true c.in_default.ensures

pub loop-part-preserved : goal.loop-part-preserved
loop-part-preserved c =
    devices_more c.args.parts.now c.loop-part.part-index _ _ _ c.in-Some.device c.loop-part-test.true c.loop-part.invariant
    c.in-Some.ensures c.in_ok-push.ensures.items
