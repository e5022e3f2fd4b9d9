use Rattle.std.proofs.Common.{sym, subst}
use Rattle.std.proofs.lemmas.Str.{IsUtf8-string_bytes}
use Rattle.sqlite.specs.Order.{column}
use Rattle.table_audit.specs.Reading.{IsTextIn}
use Rattle.table_seals.proofs.tables.terms_of.Goals as goal

pub returns : goal.returns
returns c = record {
  meter_is = subst (λ found. IsTextIn (column c.args.row.now 1) found) c.in-Some.is c.in_ok-meter.ensures;
  register_is = subst (λ found. IsTextIn (column c.args.row.now 2) found) c.in-Some-2.is c.in_ok-register.ensures;
  ceiling_is = sym c.in-Ok.ensures.read;
  place_is = sym c.in-Ok-whole.ensures.read;
  meter_text = IsUtf8-string_bytes c.in-Some.meter;
  register_text = IsUtf8-string_bytes c.in-Some-2.register;
}
