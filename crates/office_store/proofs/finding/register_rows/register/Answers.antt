use Rattle.std.proofs.Common.{Some, None, sym, ap, ◌∙◌}
use Rattle.office_books.specs.Facts.{register_of}
use Rattle.store_tables.proofs.ReadLemmas.{less_sound}
use Rattle.office_store.specs.Finding.Sound.{HasReadableRegisters}
use Rattle.office_store.proofs.FindingLemmas.Found.{answered, become, unread}
use Rattle.office_store.proofs.FindingLemmas.Facts.{no_register, this_register, register_fault}
use Rattle.office_store.proofs.finding.register_rows.register.Goals as goal

pub returns-in-None : goal.returns-in-None
returns-in-None g c =
    answered g.S.Store c.args.conn.now c.row_of.new.conn None None _ _ _ _ (become g.S.Store c.args.conn.now c.row_of.new.conn _ None _ _ c.in-None.is c.in_ok-row_of.ensures)
    (λ facts h. no_register facts c.in_ok-name.name.now h ∙ ap (register_of facts) c.in_ok-name.ensures.text)

pub returns-in_err-register_from-in-Some : goal.returns-in_err-register_from-in-Some
returns-in_err-register_from-in-Some g c =
    unread g.S.Store c.args.conn.now c.row_of.new.conn (Some c.in-Some.row) c.in_err-register_from-in-Some.field-0.0 c.from_residual-in_err-register_from-in-Some.result _ _ _ _
    (become g.S.Store c.args.conn.now c.row_of.new.conn _ (Some c.in-Some.row) _ _ c.in-Some.is c.in_ok-row_of.ensures)
    (λ facts h. less_sound _ (HasReadableRegisters facts) (λ sound. sound.1) c.in_err-register_from-in-Some.field-0.0 (register_fault facts c.in_ok-name.name.now c.in-Some.row c.in_err-register_from-in-Some.field-0.0 (sym c.in_err-register_from-in-Some.ensures) h))
    c.from_residual-in_err-register_from-in-Some.ensures.1

pub returns-in_ok-register_from-in-Some : goal.returns-in_ok-register_from-in-Some
returns-in_ok-register_from-in-Some g c =
    answered g.S.Store c.args.conn.now c.row_of.new.conn (Some c.in-Some.row) (Some c.in_ok-register_from-in-Some.field-0) _ _ _ _
    (become g.S.Store c.args.conn.now c.row_of.new.conn _ (Some c.in-Some.row) _ _ c.in-Some.is c.in_ok-row_of.ensures)
    (λ facts h. this_register facts c.in_ok-name.name.now c.in-Some.row c.in_ok-register_from-in-Some.field-0 (sym c.in_ok-register_from-in-Some.ensures) h ∙ ap (register_of facts) c.in_ok-name.ensures.text)
