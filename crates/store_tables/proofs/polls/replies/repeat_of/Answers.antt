use Rattle.std.proofs.Common.{sym, ◌∙◌, ap, slice_get}
use Rattle.std.specs.Option.{option_copied}
use Rattle.store_tables.specs.Answer.{AnyOrder}
use Rattle.store_tables.proofs.Selects.{found_none, found_some}
use Rattle.store_tables.proofs.LookUps.{looked_none, looked_some, looked_fault, refused}
use Rattle.store_tables.specs.Polls.Rows.{IsRepeat, IsSoundKept, is_reply, reply_columns, reply_shown}
use Rattle.store_tables.specs.Polls.Trees.{replies}
use Rattle.store_tables.proofs.PollsLemmas.ReadRows as reading
use Rattle.store_tables.proofs.polls.replies.repeat_of.Goals as goal

pub returns-in-None : goal.returns-in-None
returns-in-None g c =
    looked_none g.S.Store c.args.conn.now c.rows_of.new.conn replies reply_columns IsSoundKept c.in_ok-rows.ensures.asks (is_reply c.args.caller.now c.args.number) (AnyOrder) reply_shown c.in_ok-rows.rows.items c.in_ok-rows.ensures.shows _
    (ap (λ xs. slice_get xs 0) (sym c.deref.ensures.value) ∙ (sym c.first.ensures.value ∙ ap option_copied c.in-None.is)) (λ xs found are is. found_none (is_reply c.args.caller.now c.args.number) (IsRepeat c.args.request.now) (AnyOrder) xs found are is)

pub returns-in_err-repeat-in-Some : goal.returns-in_err-repeat-in-Some
returns-in_err-repeat-in-Some g c =
    looked_fault g.S.Store c.args.conn.now c.rows_of.new.conn replies reply_columns IsSoundKept c.in_ok-rows.ensures.asks (is_reply c.args.caller.now c.args.number) (AnyOrder) reply_shown c.in_ok-rows.rows.items c.in_ok-rows.ensures.shows _
    (IsRepeat c.args.request.now) c.in-Some.row.now c.in_err-repeat-in-Some.field-0.0 c.from_residual-in_err-repeat-in-Some.result
    (ap (λ xs. slice_get xs 0) (sym c.deref.ensures.value) ∙ (sym c.first.ensures.value ∙ ap option_copied c.in-Some.is)) (reading.reads_repeat c.args.request.now c.in-Some.row.now _ c.in_err-repeat-in-Some.ensures) c.from_residual-in_err-repeat-in-Some.ensures.1

pub returns : goal.returns
returns g c =
    looked_some g.S.Store c.args.conn.now c.rows_of.new.conn replies reply_columns IsSoundKept c.in_ok-rows.ensures.asks (is_reply c.args.caller.now c.args.number) (AnyOrder) reply_shown c.in_ok-rows.rows.items c.in_ok-rows.ensures.shows _
    (IsRepeat c.args.request.now) c.in-Some.row.now c.in_ok-repeat-in-Some.field-0 (ap (λ xs. slice_get xs 0) (sym c.deref.ensures.value) ∙ (sym c.first.ensures.value ∙ ap option_copied c.in-Some.is))
    (reading.reads_repeat c.args.request.now c.in-Some.row.now _ c.in_ok-repeat-in-Some.ensures) (λ xs found x are is seen. found_some (is_reply c.args.caller.now c.args.number) (IsRepeat c.args.request.now) (AnyOrder) xs found x _ are is seen)

pub returns-in_err-rows : goal.returns-in_err-rows
returns-in_err-rows g c =
    refused g.S.Store c.args.conn.now c.rows_of.new.conn replies reply_columns IsSoundKept _ c.in_err-rows.ensures.asks c.in_err-rows.field-0.0 c.from_residual.result c.in_err-rows.ensures.shows c.from_residual.ensures.1
