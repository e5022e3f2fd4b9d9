use Rattle.std.proofs.Common.{◌≡◌, ◌<◌, List, ◌∷◌, drop, length, refl, sym, subst, arith}
use Rattle.std.specs.Prelude.{string_bytes}
use Rattle.std.proofs.lemmas.Str.{IsUtf8-string_bytes}
use Rattle.meter_journal.specs.declared.audit.rows.TableRow.{TableRow}
use Rattle.sqlite.specs.Order.{column}
use Rattle.table_audit.specs.Reading.{IsTextIn}
use Rattle.table_seals.specs.Tables.{HasRead, RowsAreRead}
use Rattle.table_seals.proofs.FiledMeters.{opened_by}
use Rattle.table_seals.proofs.filing.filed_of.Goals as goal

pub returns-in_default : goal.returns-in_default
returns-in_default c = λ filed h.
    subst (λ found. IsTextIn (column c.args.row.now 1) found) c.in_default.is c.in_ok-meter.ensures (string_bytes filed.meter)
    (IsUtf8-string_bytes filed.meter) h.meter_is

pub returns-in_default-2 : goal.returns-in_default-2
returns-in_default-2 c = λ filed h.
    subst (λ found. IsTextIn (column c.args.row.now 2) found) c.in_default-2.is c.in_ok-register.ensures (string_bytes filed.register)
    (IsUtf8-string_bytes filed.register) h.register_is

pub returns-in-None : goal.returns-in-None
returns-in-None c = λ filed h.
    subst (RowsAreRead c.args.rows.now) c.in-None.is c.in_ok-read.ensures.read filed.installed.range h.voids (h.opening ∷ h.later) h.read

pub returns : goal.returns
returns c =
    let entries : List TableRow = c.in-Some-3.read.entries.items in
    let some : 0 < length entries = omega (arith, c.len.ensures) in
    let first : entries ≡ c.index.result.now ∷ drop 1 entries = opened_by entries c.index.result.now some c.index.ensures in (
      refl,
      record {
        meter_is = subst (λ found. IsTextIn (column c.args.row.now 1) found) c.in-Some.is c.in_ok-meter.ensures;
        register_is = subst (λ found. IsTextIn (column c.args.row.now 2) found) c.in-Some-2.is c.in_ok-register.ensures;
        installation = c.in-Ok.installed;
        installation_read = sym c.in-Ok.ensures;
        ceiling_is = refl;
        stands = c.standing_of.ensures;
        voids = c.in-Some-3.read.voids.items;
        opening = c.index.result.now;
        later = drop 1 entries;
        read = subst (HasRead c.args.rows.now c.in-Some-3.read.range c.in-Some-3.read.voids.items) first
            (subst (RowsAreRead c.args.rows.now) c.in-Some-3.is c.in_ok-read.ensures.read);
        opened = c.shown_by.ensures;
      },
    )
