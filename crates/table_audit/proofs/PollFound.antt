-- The lemma about the audit of polls: it reports the discrepancies of all polls up to the greatest
-- poll number in the tables.
use Rattle.std.proofs.Common.{◌≡◌, ℕ, [], Option, Result, Ok, Err, unwrap_or, sym, subst}
use Rattle.store_tables.specs.Content.{Content}
use Rattle.store_tables.specs.declared.faults.RowFault.{RowFault}
use Rattle.table_audit.specs.declared.findings.Findings.{Findings}
use Rattle.table_audit.specs.Polls.{ReportsRuns, ReportsUpTo, counting_polls}

pub reports_runs : (found : Result (Option ℕ) RowFault) (o : Option ℕ) (last : ℕ) (old mid new : Findings) (content : Content)
    → found ≡ Ok o → last ≡ unwrap_or o 0 → mid ≡ counting_polls last old → ReportsRuns last mid new content → ReportsUpTo found old new content
reports_runs found o last old mid new content is n m runs =
    subst (λ (r : Result (Option ℕ) RowFault). ReportsUpTo r old new content) (sym is)
    (subst (λ (k : ℕ). ReportsRuns k (counting_polls k old) new content) n (subst (λ (f : Findings). ReportsRuns last f new content) m runs))

pub reports_fault : (found : Result (Option ℕ) RowFault) (e : RowFault) (old new : Findings) (content : Content)
    → found ≡ Err e → (new.first.items ≡ [] → ⊥) → ReportsUpTo found old new content
reports_fault found e old new content is reported = subst (λ (r : Result (Option ℕ) RowFault). ReportsUpTo r old new content) (sym is) reported
