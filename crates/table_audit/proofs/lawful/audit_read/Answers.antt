use Rattle.std.proofs.Common.{rules, ◌≡◌, ◌-◌, ◌∷◌, List, take, drop, length, sym, ap, ◌∙◌}
use Rattle.meter_journal.specs.declared.audit.rows.TableRow.{TableRow}
use Rattle.table_audit.proofs.Agreeing.{all_later, where_some, where_none, not_reported, rest_is_lawful, lawful_rest}
use Rattle.table_audit.proofs.Found.{never, reported_too}
use Rattle.table_audit.proofs.lawful.audit_read.Goals as goal

pub returns-in-Some-2-clause-fine : goal.returns-in-Some-2-clause-fine
returns-in-Some-2-clause-fine c =
    let later : List TableRow = take (length c.args.entries.now - 1) (drop 1 c.args.entries.now) in
    let begins : c.args.entries.now ≡ c.in-Some.first.now ∷ drop 1 c.args.entries.now = search rules in
    let first = begins ∙ ap (λ (rows : List TableRow). c.in-Some.first.now ∷ rows) (sym (all_later c.args.entries.now)) in
    never _ (not_reported c.args.range c.args.row.now c.args.voids.now c.args.entries.now c.args.shares.now c.in-Some-opened.meter
    c.in-Some.first.now later first c.in-Some-opened.ensures.opened
    (where_some _ _ c.in_ok-refused.field-0 c.in-Some-2.refused c.in-Some-2.is c.in_ok-refused.ensures.gone))

pub returns-clause-fine : goal.returns-clause-fine
returns-clause-fine c =
    let later : List TableRow = take (length c.args.entries.now - 1) (drop 1 c.args.entries.now) in
    let begins : c.args.entries.now ≡ c.in-Some.first.now ∷ drop 1 c.args.entries.now = search rules in
    let first = begins ∙ ap (λ (rows : List TableRow). c.in-Some.first.now ∷ rows) (sym (all_later c.args.entries.now)) in
    let gone = where_none _ _ c.in_ok-refused.field-0 c.in_default-2.is c.in_ok-refused.ensures.gone in
    reported_too c.append_rest.result c.append_rest.ensures.agrees
    (rest_is_lawful c.finished_is_fine.ensures c.args.range c.args.row.now c.args.voids.now c.args.entries.now c.args.shares.now
    c.in-Some-opened.meter c.in-Some.first.now later c.go_over.new.progress first c.in-Some-opened.ensures.may
    c.in-Some-opened.ensures.opened gone)
    (lawful_rest c.finished_is_fine.ensures c.args.range c.args.row.now c.args.voids.now c.args.entries.now c.args.shares.now
    c.in-Some-opened.meter c.in-Some.first.now later c.go_over.new.progress first c.in-Some-opened.ensures.opened gone)
