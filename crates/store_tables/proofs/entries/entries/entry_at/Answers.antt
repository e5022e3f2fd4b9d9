use Rattle.std.proofs.Common.{sym, ◌∙◌, ap, slice_get, Ok}
use Rattle.std.specs.Option.{option_copied}
use Rattle.store_tables.specs.Answer.{AnyOrder}
use Rattle.store_tables.proofs.Selects.{found_none, found_some}
use Rattle.store_tables.proofs.LookUps.{looked_none, looked_some, looked_fault, refused}
use Rattle.store_tables.specs.Entries.Rows.{IsRow, IsSoundEntered, entry_columns, entry_shown, is_entry}
use Rattle.store_tables.specs.Entries.Trees.{entries}
use Rattle.store_tables.proofs.EntriesLemmas.ReadRows as reading
use Rattle.store_tables.proofs.entries.entries.entry_at.Goals as goal

pub returns-in-None-clause-finds : goal.returns-in-None-clause-finds
returns-in-None-clause-finds g c =
    looked_none g.S.Store c.args.conn.now c.rows_at.new.conn entries entry_columns IsSoundEntered c.in_ok-rows.ensures.asks (is_entry c.args.meter.now c.args.place) (AnyOrder) entry_shown c.in_ok-rows.rows.items c.in_ok-rows.ensures.shows _
    (ap (λ xs. slice_get xs 0) (sym c.deref.ensures.value) ∙ (sym c.first.ensures.value ∙ ap option_copied c.in-None.is)) (λ xs found are is. found_none (is_entry c.args.meter.now c.args.place) IsRow (AnyOrder) xs found are is)

pub returns-in_err-entry-in-Some-clause-finds : goal.returns-in_err-entry-in-Some-clause-finds
returns-in_err-entry-in-Some-clause-finds g c =
    looked_fault g.S.Store c.args.conn.now c.rows_at.new.conn entries entry_columns IsSoundEntered c.in_ok-rows.ensures.asks (is_entry c.args.meter.now c.args.place) (AnyOrder) entry_shown c.in_ok-rows.rows.items c.in_ok-rows.ensures.shows _
    IsRow c.in-Some.row.now c.in_err-entry-in-Some.field-0.0 c.from_residual-in_err-entry-in-Some.result
    (ap (λ xs. slice_get xs 0) (sym c.deref.ensures.value) ∙ (sym c.first.ensures.value ∙ ap option_copied c.in-Some.is)) (reading.reads_entry c.in-Some.row.now _ c.in_err-entry-in-Some.ensures) c.from_residual-in_err-entry-in-Some.ensures.1

pub returns-clause-finds : goal.returns-clause-finds
returns-clause-finds g c =
    looked_some g.S.Store c.args.conn.now c.rows_at.new.conn entries entry_columns IsSoundEntered c.in_ok-rows.ensures.asks (is_entry c.args.meter.now c.args.place) (AnyOrder) entry_shown c.in_ok-rows.rows.items c.in_ok-rows.ensures.shows _
    IsRow c.in-Some.row.now c.in_ok-entry-in-Some.field-0 (ap (λ xs. slice_get xs 0) (sym c.deref.ensures.value) ∙ (sym c.first.ensures.value ∙ ap option_copied c.in-Some.is))
    (reading.reads_entry c.in-Some.row.now _ c.in_ok-entry-in-Some.ensures) (λ xs found x are is seen. found_some (is_entry c.args.meter.now c.args.place) IsRow (AnyOrder) xs found x _ are is seen)

pub returns-clause-sound : goal.returns-clause-sound
returns-clause-sound g c = reading.sound_entry c.in-Some.row.now (Ok c.in_ok-entry-in-Some.field-0) c.in_ok-entry-in-Some.ensures

pub returns-in_err-rows-clause-finds : goal.returns-in_err-rows-clause-finds
returns-in_err-rows-clause-finds g c =
    refused g.S.Store c.args.conn.now c.rows_at.new.conn entries entry_columns IsSoundEntered _ c.in_err-rows.ensures.asks c.in_err-rows.field-0.0 c.from_residual.result c.in_err-rows.ensures.shows c.from_residual.ensures.1
