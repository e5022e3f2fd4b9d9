use Rattle.std.proofs.Common.{◌≡◌, ◌+◌, ◌<◌, sym, subst, length, get_or, arith}
use Rattle.store_tables.specs.Meters.Rows.{installed_shown, IsInstalled, IsSoundInstalled}
use Rattle.office_store.proofs.FindingLemmas.ReadRows.{HasReadSome, read_more, unreadable, read_all}
use Rattle.office_store.proofs.metering.register_meters.installed_in.Goals as goal

pub loop-row-preserved : goal.loop-row-preserved
loop-row-preserved c =
    subst (HasReadSome c.args.rows.now.items installed_shown IsInstalled (c.loop-row.row-index + 1)) (sym c.in_ok-push_item.ensures.put)
    (read_more c.args.rows.now.items installed_shown IsInstalled c.loop-row.row-index c.row-item.result (subst (λ rows. c.loop-row.row-index < length rows) c.deref-row-items.ensures.value c.loop-row-test.true)
    (subst (λ rows. c.row-item.result ≡ get_or rows c.loop-row.row-index c.row-item.result) c.deref-row-items.ensures.value c.row-item.is) IsSoundInstalled c.loop-row.installed.items c.in_ok-installation.installation c.in_ok-installation.ensures.read c.loop-row.invariant)

pub returns-in_err-installation : goal.returns-in_err-installation
returns-in_err-installation c =
    unreadable c.args.rows.now.items installed_shown IsInstalled c.loop-row.row-index c.row-item.result (subst (λ rows. c.loop-row.row-index < length rows) c.deref-row-items.ensures.value c.loop-row-test.true)
    (subst (λ rows. c.row-item.result ≡ get_or rows c.loop-row.row-index c.row-item.result) c.deref-row-items.ensures.value c.row-item.is) IsSoundInstalled (λ v. v.items) c.in_err-installation.field-0.0 c.from_residual.result c.in_err-installation.ensures.read
    c.from_residual.ensures.1

pub returns : goal.returns
returns c = read_all c.args.rows.now.items installed_shown IsInstalled IsSoundInstalled (λ v. v.items) c.loop-row.installed c.loop-row.row-index (omega arith) c.loop-row.invariant
