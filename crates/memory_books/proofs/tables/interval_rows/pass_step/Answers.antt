use Rattle.std.proofs.Common.{◌≡◌, ◌∷◌, ap, arith}
use Rattle.interval_core.specs.Account.{energy_of}
use Rattle.interval_core.specs.Share.{shares_of}
use Rattle.meter_journal.proofs.Joining.{first_and_rest}
use Rattle.memory_books.specs.Tables.IntervalRows.{TakesWithin}
use Rattle.memory_books.proofs.TablesLemmas.Waiting.{goes_by_next, goes_by_whole}
use Rattle.memory_books.proofs.tables.interval_rows.pass_step.Goals as goal

pub loop-share-preserved : goal.loop-share-preserved
loop-share-preserved g c =
    let left : c.loop-share.shares ≡ c.in-Some.share ∷ c.next.new.self = c.in-Some.ensures.steps in
    record {
      can = tt;
      finite = tt;
      goes = goes_by_next (TakesWithin g.K.RowSink.takes c.args.span) c.args.sink.now c.loop-share.sink c.pass_share.new.sink c.args.waits.now c.loop-share.waits c.pass_share.new.waits
          (shares_of c.args.step.now) c.loop-share.shares c.next.new.self c.in-Some.share left c.loop-share.invariant.goes c.pass_share.ensures.passes;
      within = omega (arith, ap energy_of left, first_and_rest c.in-Some.share c.next.new.self, c.pass_share.ensures.energy, c.loop-share.invariant.within);
    }

pub returns-clause-passes : goal.returns-clause-passes
returns-clause-passes g c =
    goes_by_whole c.shares_add_up.ensures (TakesWithin g.K.RowSink.takes c.args.span) c.args.sink.now c.loop-share.sink c.args.waits.now c.loop-share.waits c.args.step.now
    c.loop-share.shares c.in_default.ensures.steps.0 c.requires.forward c.loop-share.invariant.goes
