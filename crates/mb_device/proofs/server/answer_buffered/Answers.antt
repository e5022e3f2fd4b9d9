use Rattle.mb_device.proofs.Streams.{buffered_answered, buffered_broken_off, buffered_course}
use Rattle.mb_device.proofs.server.answer_buffered.Goals as goal

pub returns-in-Ok-clause-answered : goal.returns-in-Ok-clause-answered
returns-in-Ok-clause-answered g c =
    buffered_answered c.args.sender.now c.frame.result c.args.reader.now.frame c.in-Some.frame _ _ c.requires.going c.frame.ensures c.in-Some.is c.in-Ok.ensures.given c.answer_frame.ensures.maps

pub returns-in-Err-clause-answered : goal.returns-in-Err-clause-answered
returns-in-Err-clause-answered g c =
    buffered_broken_off c.args.sender.now c.frame.result c.args.reader.now.frame c.in-Some.frame _ _ c.frame.ensures c.in-Some.is c.in-Err.ensures.given c.answer_frame.ensures.maps

pub returns-in-Ok-clause-after : goal.returns-in-Ok-clause-after
returns-in-Ok-clause-after g c =
    buffered_course c.args.sender.now c.answer_frame.new.sender c.frame.result c.args.reader.now.frame c.in-Some.frame c.args.bank.now c.frame.ensures c.in-Some.is c.answer_frame.ensures.after

pub returns-in-Err-clause-after : goal.returns-in-Err-clause-after
returns-in-Err-clause-after g c =
    buffered_course c.args.sender.now c.answer_frame.new.sender c.frame.result c.args.reader.now.frame c.in-Some.frame c.args.bank.now c.frame.ensures c.in-Some.is c.answer_frame.ensures.after
