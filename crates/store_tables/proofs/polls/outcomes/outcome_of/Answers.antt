use Rattle.std.proofs.Common.{sym, ◌∙◌, ap, slice_get, Ok}
use Rattle.std.specs.Option.{option_copied}
use Rattle.store_tables.specs.Answer.{AnyOrder}
use Rattle.store_tables.proofs.Selects.{found_none, found_some}
use Rattle.store_tables.proofs.LookUps.{looked_none, looked_some, looked_fault, refused}
use Rattle.store_tables.specs.Polls.Rows.{IsOutcome, IsSoundOutcome, is_outcome_of, outcome_columns, outcome_shown}
use Rattle.store_tables.specs.Polls.Trees.{outcomes}
use Rattle.store_tables.proofs.PollsLemmas.ReadRows as reading
use Rattle.store_tables.proofs.polls.outcomes.outcome_of.Goals as goal

pub returns-in-None-clause-finds : goal.returns-in-None-clause-finds
returns-in-None-clause-finds g c =
    looked_none g.S.Store c.args.conn.now c.rows_of.new.conn outcomes outcome_columns IsSoundOutcome c.in_ok-rows.ensures.asks (is_outcome_of c.args.poll) (AnyOrder) outcome_shown c.in_ok-rows.rows.items c.in_ok-rows.ensures.shows _
    (ap (λ xs. slice_get xs 0) (sym c.deref.ensures.value) ∙ (sym c.first.ensures.value ∙ ap option_copied c.in-None.is)) (λ xs found are is. found_none (is_outcome_of c.args.poll) IsOutcome (AnyOrder) xs found are is)

pub returns-in_err-outcome-in-Some-clause-finds : goal.returns-in_err-outcome-in-Some-clause-finds
returns-in_err-outcome-in-Some-clause-finds g c =
    looked_fault g.S.Store c.args.conn.now c.rows_of.new.conn outcomes outcome_columns IsSoundOutcome c.in_ok-rows.ensures.asks (is_outcome_of c.args.poll) (AnyOrder) outcome_shown c.in_ok-rows.rows.items c.in_ok-rows.ensures.shows _
    IsOutcome c.in-Some.row.now c.in_err-outcome-in-Some.field-0.0 c.from_residual-in_err-outcome-in-Some.result
    (ap (λ xs. slice_get xs 0) (sym c.deref.ensures.value) ∙ (sym c.first.ensures.value ∙ ap option_copied c.in-Some.is)) (reading.reads_outcome c.in-Some.row.now _ c.in_err-outcome-in-Some.ensures) c.from_residual-in_err-outcome-in-Some.ensures.1

pub returns-clause-finds : goal.returns-clause-finds
returns-clause-finds g c =
    looked_some g.S.Store c.args.conn.now c.rows_of.new.conn outcomes outcome_columns IsSoundOutcome c.in_ok-rows.ensures.asks (is_outcome_of c.args.poll) (AnyOrder) outcome_shown c.in_ok-rows.rows.items c.in_ok-rows.ensures.shows _
    IsOutcome c.in-Some.row.now c.in_ok-outcome-in-Some.field-0 (ap (λ xs. slice_get xs 0) (sym c.deref.ensures.value) ∙ (sym c.first.ensures.value ∙ ap option_copied c.in-Some.is))
    (reading.reads_outcome c.in-Some.row.now _ c.in_ok-outcome-in-Some.ensures) (λ xs found x are is seen. found_some (is_outcome_of c.args.poll) IsOutcome (AnyOrder) xs found x _ are is seen)

pub returns-clause-sound : goal.returns-clause-sound
returns-clause-sound g c = reading.sound_outcome c.in-Some.row.now (Ok c.in_ok-outcome-in-Some.field-0) c.in_ok-outcome-in-Some.ensures

pub returns-in_err-rows-clause-finds : goal.returns-in_err-rows-clause-finds
returns-in_err-rows-clause-finds g c =
    refused g.S.Store c.args.conn.now c.rows_of.new.conn outcomes outcome_columns IsSoundOutcome _ c.in_err-rows.ensures.asks c.in_err-rows.field-0.0 c.from_residual.result c.in_err-rows.ensures.shows c.from_residual.ensures.1
