use Rattle.std.proofs.Common.{sym, ◌∙◌, ap, slice_get}
use Rattle.std.specs.Option.{option_copied}
use Rattle.store_tables.specs.Answer.{AnyOrder}
use Rattle.store_tables.proofs.Selects.{found_none, found_some}
use Rattle.store_tables.proofs.LookUps.{looked_none, looked_some, looked_fault, refused}
use Rattle.store_tables.specs.Polls.Rows.{IsSoundStarted, IsStarted, is_poll, poll_columns, poll_shown}
use Rattle.store_tables.specs.Polls.Trees.{polls}
use Rattle.store_tables.proofs.polls.polls.poll_at.Goals as goal

pub returns-in-None-clause-finds : goal.returns-in-None-clause-finds
returns-in-None-clause-finds g c =
    looked_none g.S.Store c.args.conn.now c.rows_at.new.conn polls poll_columns IsSoundStarted c.in_ok-rows.ensures.asks (is_poll c.args.number) (AnyOrder) poll_shown c.in_ok-rows.rows.items c.in_ok-rows.ensures.shows _
    (ap (λ xs. slice_get xs 0) (sym c.deref.ensures.value) ∙ (sym c.first.ensures.value ∙ ap option_copied c.in-None.is)) (λ xs found are is. found_none (is_poll c.args.number) IsStarted (AnyOrder) xs found are is)

pub returns-in_err-read_poll-in-Some-clause-finds : goal.returns-in_err-read_poll-in-Some-clause-finds
returns-in_err-read_poll-in-Some-clause-finds g c =
    looked_fault g.S.Store c.args.conn.now c.rows_at.new.conn polls poll_columns IsSoundStarted c.in_ok-rows.ensures.asks (is_poll c.args.number) (AnyOrder) poll_shown c.in_ok-rows.rows.items c.in_ok-rows.ensures.shows _
    IsStarted c.in-Some.row.now c.in_err-read_poll-in-Some.field-0.0 c.from_residual-in_err-read_poll-in-Some.result
    (ap (λ xs. slice_get xs 0) (sym c.deref.ensures.value) ∙ (sym c.first.ensures.value ∙ ap option_copied c.in-Some.is)) c.in_err-read_poll-in-Some.ensures.read c.from_residual-in_err-read_poll-in-Some.ensures.1

pub returns-clause-finds : goal.returns-clause-finds
returns-clause-finds g c =
    looked_some g.S.Store c.args.conn.now c.rows_at.new.conn polls poll_columns IsSoundStarted c.in_ok-rows.ensures.asks (is_poll c.args.number) (AnyOrder) poll_shown c.in_ok-rows.rows.items c.in_ok-rows.ensures.shows _
    IsStarted c.in-Some.row.now c.in_ok-read_poll-in-Some.field-0 (ap (λ xs. slice_get xs 0) (sym c.deref.ensures.value) ∙ (sym c.first.ensures.value ∙ ap option_copied c.in-Some.is))
    c.in_ok-read_poll-in-Some.ensures.read (λ xs found x are is seen. found_some (is_poll c.args.number) IsStarted (AnyOrder) xs found x _ are is seen)

pub returns-in_err-rows-clause-finds : goal.returns-in_err-rows-clause-finds
returns-in_err-rows-clause-finds g c =
    refused g.S.Store c.args.conn.now c.rows_at.new.conn polls poll_columns IsSoundStarted _ c.in_err-rows.ensures.asks c.in_err-rows.field-0.0 c.from_residual.result c.in_err-rows.ensures.shows c.from_residual.ensures.1
