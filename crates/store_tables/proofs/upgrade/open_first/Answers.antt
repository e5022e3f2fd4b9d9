use Rattle.std.proofs.Common.{subst, sym, arith}
use Rattle.sqlite.specs.State.{HasCleanDisk}
use Rattle.sqlite.specs.Held.{state}
use Rattle.store_tables.specs.declared.layouts.Layout.TheVariants.{First}
use Rattle.store_tables.specs.Upgrade.{IsFile, BringsFirst}
use Rattle.store_tables.proofs.Brought.{after_question, ended, transacted, seen}
use Rattle.store_tables.proofs.upgrade.open_first.Goals as goal

pub returns-in_err-meters-clause-opened : goal.returns-in_err-meters-clause-opened
returns-in_err-meters-clause-opened g c clean zone content it =
    let old = state g.S.Store c.args.conn.now in
    let file = seen First zone content old it in
    ended First zone content old (state g.S.Store c.meter_rows.new.conn) c.from_residual.result _ c.from_residual.ensures.1 (c.in_err-meters.ensures.kept clean content file.tables) (c.in_err-meters.ensures.survives content file.tables)

pub returns-clause-opened : goal.returns-clause-opened
returns-clause-opened g c clean zone content it =
    let old = state g.S.Store c.args.conn.now in
    let mid = state g.S.Store c.meter_rows.new.conn in
    let end = state g.S.Store c.add_ranges.new.conn in
    let file = seen First zone content old it in
    let early : HasCleanDisk mid = omega (arith, c.add_ranges.ensures.does.survives.clean) in
    let shown = c.in_ok-meters.ensures.shows early content file.tables in
    let done = rw (c.deref.ensures.value) at c.add_ranges.ensures.does in
    after_question First zone content old mid end c.add_ranges.result shown.0 (c.in_ok-meters.ensures.survives content file.tables)
    (transacted First zone content mid end c.add_ranges.result (BringsFirst c.in_ok-meters.meters.items) clean done (λ db goes. goes zone content (subst (λ d. IsFile First zone d content) (sym shown.0.0.now_is) file) shown.1))
