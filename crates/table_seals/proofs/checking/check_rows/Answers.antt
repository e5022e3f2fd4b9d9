use Rattle.std.proofs.Common.{rules, ◌≡◌, Bool, true, Option, Some, None, IsTrue, sym, subst}
use Rattle.table_seals.specs.Checking.{CheckedMeter, HasSealedAs}
use Rattle.table_seals.specs.Installed.{ChecksRows, ReportsInstalled}
use Rattle.table_seals.specs.Sealed.{sealed_of}
use Rattle.table_seals.specs.Tables.{RowsAreRead}
use Rattle.table_seals.specs.declared.tables.ReadRows.{ReadRows}
use Rattle.table_seals.proofs.InstalledTerms.{is_sealed, not_read}
use Rattle.table_seals.proofs.checking.check_rows.Goals as goal

pub returns-in-None : goal.returns-in-None
returns-in-None c =
    subst (λ (k : CheckedMeter). ChecksRows c.args.known.now c.args.zone.now c.args.rows.now (sealed_of c.args.seal.now) k) (sym c.differs-in-None.ensures)
    (not_read c.args.known.now c.args.zone.now c.args.rows.now (sealed_of c.args.seal.now)
    (subst (λ (o : Option ReadRows). RowsAreRead c.args.rows.now o) c.in-None.is c.in_ok-read.ensures.read))

pub returns : goal.returns
returns c =
    let installed : c.in_ok-is_installed.field-0 ≡ true = search rules in
    let sealed : c.in_ok-has_sealed.field-0 ≡ true = search rules in
    let there : ReportsInstalled c.args.known.now (sealed_of c.args.seal.now) true =
    subst (λ (b : Bool). ReportsInstalled c.args.known.now (sealed_of c.args.seal.now) b) installed c.in_ok-is_installed.ensures in
    is_sealed c.args.known.now c.args.zone.now c.args.rows.now c.in-Some.read (sealed_of c.args.seal.now) c.in_ok-notes.notes.items there
    (subst (λ (o : Option ReadRows). RowsAreRead c.args.rows.now o) c.in-Some.is c.in_ok-read.ensures.read)
    (c.in_ok-has_sealed.ensures.0 sealed) c.in_ok-notes.ensures
