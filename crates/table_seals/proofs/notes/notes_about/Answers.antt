use Rattle.table_seals.proofs.Noted.{next_noted}
use Rattle.table_seals.proofs.notes.notes_about.Goals as goal

pub loop-void-preserved : goal.loop-void-preserved
loop-void-preserved c =
    next_noted c.args.zone.now c.args.sealed.now c.args.voids.now c.loop-void.void-index _ c.loop-void.notes.items c.push.new.self.items c.note_of.result
    c.loop-void-test.true c.in_ok-push.ensures.items c.loop-void.invariant c.note_of.ensures
