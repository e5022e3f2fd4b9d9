use Rattle.std.proofs.Common.{[]}
use Rattle.mb_device.specs.Tricks.{begun}
use Rattle.mb_device.proofs.stand_in.connections.answer_one.Goals as goal

pub returns-clause-serves : goal.returns-clause-serves
returns-clause-serves g c = record {
  left = c.serve.new.self;
  serves = c.serve.ensures.serving [] (begun c.args.tricks.now) c.tricked-server.ensures;
}
