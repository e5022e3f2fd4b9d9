use Rattle.std.proofs.Common.{arith}
use Rattle.std.proofs.lemmas.Option.{slice_get-get_or}
use Rattle.run_schedule.proofs.HttpClientsLemmas.Oldest.{of_all, one_more}
use Rattle.run_schedule.proofs.http_clients.choice.oldest_silent.Goals as goal

pub loop-i-preserved : goal.loop-i-preserved
loop-i-preserved c =
    rw c.older-oldest.ensures
    (one_more c.args.places.now c.loop-i.i c.loop-i.oldest _ (slice_get-get_or c.args.places.now c.loop-i.i _ c.loop-i-test.true) c.loop-i.invariant)

pub returns : goal.returns
returns c = of_all c.args.places.now c.loop-i.i c.loop-i.oldest (omega arith) c.loop-i.invariant
