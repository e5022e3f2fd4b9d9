use Rattle.std.proofs.Common.{◌≡◌, ◌∙◌, length, arith}
use Rattle.std.specs.Vec.{vec_len}
use Rattle.sqlite.specs.Held.{state}
use Rattle.store_tables.specs.Failing.{IsStoreError}
use Rattle.store_tables.specs.Answer.{AnyOrder}
use Rattle.store_tables.specs.Devices.Rows.{is_register_of, register_place_shown, IsRegisterCount}
use Rattle.store_tables.proofs.Failures.{failed_on}
use Rattle.store_tables.proofs.DevicesLemmas.Counts.{counted}
use Rattle.store_tables.proofs.devices.registers.register_count.Goals as goal

pub returns-clause-counts : goal.returns-clause-counts
returns-clause-counts g c clean content has rows of =
    let same : vec_len c.in_ok-rows.rows ≡ length c.in_ok-rows.rows.items = omega arith in
    c.len.ensures ∙ (same ∙ counted (is_register_of c.args.device.now) AnyOrder register_place_shown rows c.in_ok-rows.rows.items (c.in_ok-rows.ensures.shows clean content has rows of))

pub returns-in_err-rows-clause-counts : goal.returns-in_err-rows-clause-counts
returns-in_err-rows-clause-counts g c clean content has rows of =
    failed_on (IsRegisterCount c.args.device.now rows) (IsStoreError (state g.S.Store c.args.conn.now) (state g.S.Store c.places_of.new.conn)) c.in_err-rows.field-0.0 c.from_residual.result c.from_residual.ensures.1 (c.in_err-rows.ensures.shows clean content has rows of)
