use Rattle.std.proofs.Common.{sym, ◌∙◌, ap, slice_get}
use Rattle.std.specs.Option.{option_copied}
use Rattle.store_tables.specs.Answer.{IsFound}
use Rattle.store_tables.specs.Entries.Rows.{IsRow, IsSoundEntered, entry_columns, entry_shown, is_entry}
use Rattle.store_tables.specs.Entries.Trees.{entries}
use Rattle.office_store.proofs.VoidsLemmas.Asking.{not_answered, not_read, none_reported, some_reported}
use Rattle.office_store.proofs.voids.entries.entry_at.Goals as goal

pub returns-in_err-rows-clause-does : goal.returns-in_err-rows-clause-does
returns-in_err-rows-clause-does g c =
    not_answered _ g.S.Store c.args.tx.now.conn.now c.entry_rows_at.new.tx.conn.now c.in_err-rows.field-0.0 c.from_residual.result entries entry_columns (IsFound (is_entry c.args.meter.now c.args.place) IsRow)
    c.in_err-rows.ensures.asks c.from_residual.ensures.1

pub returns-in-None-clause-does : goal.returns-in-None-clause-does
returns-in-None-clause-does g c =
    none_reported (is_entry c.args.meter.now c.args.place) entry_shown g.S.Store c.args.tx.now.conn.now c.entry_rows_at.new.tx.conn.now entries entry_columns c.in_ok-rows.rows c.in_ok-rows.rows.items IsRow c.in_ok-rows.ensures.asks c.in_ok-rows.ensures.shows
    (ap (λ xs. slice_get xs 0) (sym c.deref.ensures.value) ∙ (sym c.first.ensures.value ∙ ap option_copied c.in-None.is))

pub returns-in_err-read_entry-in-Some-clause-does : goal.returns-in_err-read_entry-in-Some-clause-does
returns-in_err-read_entry-in-Some-clause-does g c =
    not_read _ g.S.Store c.args.tx.now.conn.now c.entry_rows_at.new.tx.conn.now _ c.from_residual-in_err-read_entry-in-Some.result entries entry_columns (IsFound (is_entry c.args.meter.now c.args.place) IsRow)
    c.in_ok-rows.ensures.asks c.from_residual-in_err-read_entry-in-Some.ensures.1

pub returns-clause-does : goal.returns-clause-does
returns-clause-does g c =
    some_reported (is_entry c.args.meter.now c.args.place) entry_shown g.S.Store c.args.tx.now.conn.now c.entry_rows_at.new.tx.conn.now entries entry_columns c.in_ok-rows.rows c.in_ok-rows.rows.items c.in-Some.row.now
    c.in_ok-read_entry-in-Some.field-0 IsRow IsSoundEntered c.in_ok-rows.ensures.asks c.in_ok-rows.ensures.shows
    (ap (λ xs. slice_get xs 0) (sym c.deref.ensures.value) ∙ (sym c.first.ensures.value ∙ ap option_copied c.in-Some.is)) c.in_ok-read_entry-in-Some.ensures.read
