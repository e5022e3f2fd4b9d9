use Rattle.std.proofs.Common.{rules, ◌≡◌, List, Option, Some, None, subst}
use Rattle.meter_journal.specs.declared.audit.rows.TableRow.{TableRow}
use Rattle.table_seals.specs.Months.{HasMonths}
use Rattle.table_seals.specs.Sealed.{SealedMonth}
use Rattle.table_seals.specs.Tables.{RowsAreRead, TermsAreRead}
use Rattle.table_seals.specs.declared.tables.ReadRows.{ReadRows}
use Rattle.table_seals.specs.declared.tables.Terms.{Terms}
use Rattle.table_seals.proofs.Read.{no_months}
use Rattle.table_seals.proofs.sealing.seal_of.Goals as goal

pub returns-in-None-3 : goal.returns-in-None-3
returns-in-None-3 c =
    let entries : c.as_slice-entries.result.now ≡ c.in-Some-2.read.entries.items = search rules in
    let none : (months : List SealedMonth)
    → HasMonths c.args.zone.now c.in-Some-2.read.range c.in-Some.terms.ceiling c.as_slice-entries.result.now months → ⊥ =
    rw c.in-None-3.is at c.in_ok-months.ensures in
    no_months c.args.zone.now c.args.row.now c.args.rows.now _ _ _ _ _ _ _
    (subst (λ (o : Option Terms). TermsAreRead c.args.row.now o) c.in-Some.is c.in_ok-terms.ensures)
    (subst (λ (o : Option ReadRows). RowsAreRead c.args.rows.now o) c.in-Some-2.is c.in_ok-read.ensures.read)
    (subst (λ (es : List TableRow). (months : List SealedMonth) → HasMonths c.args.zone.now c.in-Some-2.read.range c.in-Some.terms.ceiling es months → ⊥)
    entries none)
