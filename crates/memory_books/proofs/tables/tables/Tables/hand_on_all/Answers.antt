use Rattle.std.proofs.Common.{◌++◌, List, sym, subst}
use Rattle.interval_core.specs.declared.shares.Share.{Share}
use Rattle.office_books.specs.Rows.{TakesAll}
use Rattle.office_books.proofs.Handing.{takes_both}
use Rattle.memory_books.specs.Tables.IntervalRows.{TakesWithin}
use Rattle.memory_books.proofs.TablesLemmas.Joined.{next_place}
use Rattle.memory_books.proofs.tables.tables.Tables.hand_on_all.Goals as goal

pub loop-place-preserved : goal.loop-place-preserved
loop-place-preserved g c =
    let so_far = c.loop-place.invariant.some in
    let more = c.hand_on_at.ensures.some in
    record {
      whole = λ known is lawful whole.
          let P : List Share → Type 0 = λ rows. TakesAll (TakesWithin g.K.RowSink.takes c.args.span) c.args.sink.now rows c.hand_on_at.new.sink in
          subst P (sym (next_place known c.args.facts.now c.args.places.now c.loop-place.place-index _ c.loop-place-test.true))
          (takes_both (TakesWithin g.K.RowSink.takes c.args.span) c.args.sink.now c.loop-place.sink c.hand_on_at.new.sink _ _ (c.loop-place.invariant.whole known is lawful whole)
          (c.hand_on_at.ensures.whole known is lawful whole));
      some = (so_far.0 ++ more.0, takes_both (TakesWithin g.K.RowSink.takes c.args.span) c.args.sink.now c.loop-place.sink c.hand_on_at.new.sink so_far.0 more.0 so_far.1 more.1);
    }
