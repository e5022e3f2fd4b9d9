use Rattle.std.proofs.Common.{Option, subst}
use Rattle.table_seals.specs.Tables.{TermsAreRead}
use Rattle.table_seals.specs.declared.tables.Terms.{Terms}
use Rattle.table_seals.proofs.InstalledTerms.{with_terms, without_terms}
use Rattle.table_seals.proofs.installed.add_row.Goals as goal

pub returns-in_ok-add-in-Some : goal.returns-in_ok-add-in-Some
returns-in_ok-add-in-Some c =
    with_terms c.args.row.now c.in-Some.terms c.args.known.now c.add.new.known
    (subst (λ (read : Option Terms). TermsAreRead c.args.row.now read) c.in-Some.is c.in_ok-terms.ensures) c.in_ok-add-in-Some.ensures

pub returns-in-None : goal.returns-in-None
returns-in-None c =
    without_terms c.args.row.now c.args.known.now
    (subst (λ (read : Option Terms). TermsAreRead c.args.row.now read) c.in-None.is c.in_ok-terms.ensures)
