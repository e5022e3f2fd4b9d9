use Rattle.run_http.proofs.ReplyLemmas.Voids.{one_more}
use Rattle.run_http.proofs.voids.keep_voided.Goals as goal

pub loop-entry-preserved : goal.loop-entry-preserved
loop-entry-preserved c =
    one_more c.args.piece.now c.loop-entry.entry-index _ c.args.kept.now.items c.loop-entry.kept.items c.keep_if_voided.new.kept.items
    c.loop-entry-test.true c.loop-entry.invariant c.in_ok-keep_if_voided.ensures
