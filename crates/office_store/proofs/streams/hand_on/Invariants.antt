use Rattle.std.proofs.Common.{◌≡◌}
use Rattle.sqlite.specs.Values.{bound}
use Rattle.office_store.proofs.StreamsLemmas.Handed.{Stands}
use Rattle.office_store.proofs.streams.hand_on.Given as goal

abbrev pub invariant-rows : goal.invariant-rows
invariant-rows g l = record {
  reference : l.rows.conn.ghost_name ≡ l.initial.rows.conn.ghost_name;
  stands : Stands g.S.Store l.sql (bound l.params) (g.R.RowReader.reads l.reader) g.R.RowReader.is_row l.fn.conn g.K.RowSink.takes l.fn.sink l.rows.conn.now l.sink l._taken;
}
