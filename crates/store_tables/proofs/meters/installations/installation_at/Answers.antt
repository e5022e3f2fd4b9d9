use Rattle.std.proofs.Common.{sym, ◌∙◌, ap, slice_get}
use Rattle.std.specs.Option.{option_copied}
use Rattle.store_tables.specs.Answer.{LastFirst}
use Rattle.store_tables.proofs.Selects.{found_none, last_some}
use Rattle.store_tables.proofs.LookUps.{looked_none, looked_some, looked_fault, refused}
use Rattle.store_tables.specs.Meters.Rows.{IsInstalled, IsSoundInstalled, installed_columns, installed_place, installed_shown, is_at}
use Rattle.store_tables.specs.Meters.Trees.{installations}
use Rattle.store_tables.proofs.meters.installations.installation_at.Goals as goal

pub returns-in-None-clause-finds : goal.returns-in-None-clause-finds
returns-in-None-clause-finds g c =
    looked_none g.S.Store c.args.conn.now c.rows_at.new.conn installations installed_columns IsSoundInstalled c.in_ok-rows.ensures.asks (is_at c.args.register.now) (LastFirst installed_place) installed_shown c.in_ok-rows.rows.items c.in_ok-rows.ensures.shows _
    (ap (λ xs. slice_get xs 0) (sym c.deref.ensures.value) ∙ (sym c.first.ensures.value ∙ ap option_copied c.in-None.is)) (λ xs found are is. found_none (is_at c.args.register.now) IsInstalled (LastFirst installed_place) xs found are is)

pub returns-in_err-read_installation-in-Some-clause-finds : goal.returns-in_err-read_installation-in-Some-clause-finds
returns-in_err-read_installation-in-Some-clause-finds g c =
    looked_fault g.S.Store c.args.conn.now c.rows_at.new.conn installations installed_columns IsSoundInstalled c.in_ok-rows.ensures.asks (is_at c.args.register.now) (LastFirst installed_place) installed_shown c.in_ok-rows.rows.items c.in_ok-rows.ensures.shows _
    IsInstalled c.in-Some.row.now c.in_err-read_installation-in-Some.field-0.0 c.from_residual-in_err-read_installation-in-Some.result
    (ap (λ xs. slice_get xs 0) (sym c.deref.ensures.value) ∙ (sym c.first.ensures.value ∙ ap option_copied c.in-Some.is)) c.in_err-read_installation-in-Some.ensures.read c.from_residual-in_err-read_installation-in-Some.ensures.1

pub returns-clause-finds : goal.returns-clause-finds
returns-clause-finds g c =
    looked_some g.S.Store c.args.conn.now c.rows_at.new.conn installations installed_columns IsSoundInstalled c.in_ok-rows.ensures.asks (is_at c.args.register.now) (LastFirst installed_place) installed_shown c.in_ok-rows.rows.items c.in_ok-rows.ensures.shows _
    IsInstalled c.in-Some.row.now c.in_ok-read_installation-in-Some.field-0 (ap (λ xs. slice_get xs 0) (sym c.deref.ensures.value) ∙ (sym c.first.ensures.value ∙ ap option_copied c.in-Some.is))
    c.in_ok-read_installation-in-Some.ensures.read (λ xs found x are is seen. last_some (is_at c.args.register.now) IsInstalled installed_place xs found x _ are is seen)

pub returns-in_err-rows-clause-finds : goal.returns-in_err-rows-clause-finds
returns-in_err-rows-clause-finds g c =
    refused g.S.Store c.args.conn.now c.rows_at.new.conn installations installed_columns IsSoundInstalled _ c.in_err-rows.ensures.asks c.in_err-rows.field-0.0 c.from_residual.result c.in_err-rows.ensures.shows c.from_residual.ensures.1
