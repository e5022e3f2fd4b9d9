use Rattle.std.proofs.Common.{◌≡◌, ◌+◌, ◌<◌, sym, subst, length, get_or, arith}
use Rattle.store_tables.specs.Devices.Rows.{register_shown}
use Rattle.office_store.specs.Finding.Reading.{IsRegisterOf}
use Rattle.office_store.specs.Finding.Sound.{IsReadableRegister}
use Rattle.office_store.proofs.FindingLemmas.ReadRows.{HasReadSome, read_more, unreadable, read_all}
use Rattle.office_store.proofs.finding.register_rows.registers_in.Goals as goal

pub loop-row-preserved : goal.loop-row-preserved
loop-row-preserved c =
    subst (HasReadSome c.args.rows.now.items register_shown IsRegisterOf (c.loop-row.row-index + 1)) (sym c.in_ok-push_item.ensures.put)
    (read_more c.args.rows.now.items register_shown IsRegisterOf c.loop-row.row-index c.row-item.result (subst (λ rows. c.loop-row.row-index < length rows) c.deref-row-items.ensures.value c.loop-row-test.true)
    (subst (λ rows. c.row-item.result ≡ get_or rows c.loop-row.row-index c.row-item.result) c.deref-row-items.ensures.value c.row-item.is) IsReadableRegister c.loop-row.registers.items c.in_ok-register.register c.in_ok-register.ensures c.loop-row.invariant)

pub returns-in_err-register : goal.returns-in_err-register
returns-in_err-register c =
    unreadable c.args.rows.now.items register_shown IsRegisterOf c.loop-row.row-index c.row-item.result (subst (λ rows. c.loop-row.row-index < length rows) c.deref-row-items.ensures.value c.loop-row-test.true)
    (subst (λ rows. c.row-item.result ≡ get_or rows c.loop-row.row-index c.row-item.result) c.deref-row-items.ensures.value c.row-item.is) IsReadableRegister (λ v. v.items) c.in_err-register.field-0.0 c.from_residual.result c.in_err-register.ensures
    c.from_residual.ensures.1

pub returns : goal.returns
returns c = read_all c.args.rows.now.items register_shown IsRegisterOf IsReadableRegister (λ v. v.items) c.loop-row.registers c.loop-row.row-index (omega arith) c.loop-row.invariant
