use Rattle.std.proofs.Common.{sym, ◌∙◌, ap, slice_get}
use Rattle.std.specs.Option.{option_copied}
use Rattle.store_tables.specs.Entries.Rows.{voided_columns, voided_shown}
use Rattle.store_tables.specs.Entries.Trees.{voids}
use Rattle.office_store.specs.Voids.Places.{is_void, ReportsVoided}
use Rattle.office_store.proofs.VoidsLemmas.Asking.{not_answered, no_one_reported, one_reported}
use Rattle.office_store.proofs.voids.entries.is_voided.Goals as goal

pub returns-in_err-rows-clause-does : goal.returns-in_err-rows-clause-does
returns-in_err-rows-clause-does g c =
    not_answered _ g.S.Store c.args.tx.now.conn.now c.void_rows_at.new.tx.conn.now c.in_err-rows.field-0.0 c.from_residual.result voids voided_columns (ReportsVoided c.args.meter.now c.args.place)
    c.in_err-rows.ensures.asks c.from_residual.ensures.1

pub returns-in-None-clause-does : goal.returns-in-None-clause-does
returns-in-None-clause-does g c =
    no_one_reported (is_void c.args.meter.now c.args.place) voided_shown g.S.Store c.args.tx.now.conn.now c.void_rows_at.new.tx.conn.now voids voided_columns c.in_ok-rows.rows c.in_ok-rows.rows.items c.in_ok-rows.ensures.asks c.in_ok-rows.ensures.shows
    (ap (λ xs. slice_get xs 0) (sym c.deref.ensures.value) ∙ (sym c.first.ensures.value ∙ ap option_copied c.in-None.is))

pub returns-clause-does : goal.returns-clause-does
returns-clause-does g c =
    one_reported (is_void c.args.meter.now c.args.place) voided_shown g.S.Store c.args.tx.now.conn.now c.void_rows_at.new.tx.conn.now voids voided_columns c.in_ok-rows.rows c.in_ok-rows.rows.items _ c.in_ok-rows.ensures.asks c.in_ok-rows.ensures.shows
    (ap (λ xs. slice_get xs 0) (sym c.deref.ensures.value) ∙ (sym c.first.ensures.value ∙ ap option_copied c.in-Some.is))
