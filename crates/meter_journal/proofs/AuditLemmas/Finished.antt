-- Lemmas about a meter whose entry rows all passed the check of its tables: the tables are
-- consistent if and only if their other values agree with the state of the check.
use Rattle.std.proofs.Common.{◌≡◌, ℕ, Bool, List, [], ◌∷◌, ◌++◌, Err, refl, sym, ap, subst, ◌∙◌}
use Rattle.energy_core.specs.declared.entries.Last.{Last}
use Rattle.interval_core.specs.declared.shares.Share.{Share}
use Rattle.meter_journal.specs.declared.lines.Installed.{Installed}
use Rattle.meter_journal.specs.declared.audit.checks.Check.{Check}
use Rattle.meter_journal.specs.declared.audit.progress.Progress.{Progress}
use Rattle.meter_journal.specs.declared.audit.rows.TableRow.{TableRow}
use Rattle.meter_journal.specs.Audit.Rows.{opening_row, later_rows}
use Rattle.meter_journal.specs.Audit.Fitting.{Tables, tables_of, AreFine}
use Rattle.meter_journal.specs.Audit.Passing.{passed}
use Rattle.meter_journal.specs.Audit.Laws.{check_after}
use Rattle.meter_journal.specs.Audit.Going.{HasGone, Agrees, FinishedIsFine, RefusedIsNotFine}
use Rattle.meter_journal.proofs.AuditLemmas.Apart.{rows_are_distinct, refused_below, same_tail, same_head}

-- If two lists with the same last element are equal, their other elements are equal.
same_but_last : {X : Type 0} (xs ys : List X) (z : X) → xs ++ z ∷ [] ≡ ys ++ z ∷ [] → xs ≡ ys
same_but_last [] [] z h = refl
same_but_last [] (y ∷ []) z h = absurd (let t = same_tail z y [] (z ∷ []) h in cc)
same_but_last [] (y ∷ y' ∷ ys) z h = absurd (let t = same_tail z y [] (y' ∷ ys ++ z ∷ []) h in cc)
same_but_last (x ∷ []) [] z h = absurd (let t = same_tail x z (z ∷ []) [] h in cc)
same_but_last (x ∷ x' ∷ xs) [] z h = absurd (let t = same_tail x z (x' ∷ xs ++ z ∷ []) [] h in cc)
same_but_last (x ∷ xs) (y ∷ ys) z h =
    ap (λ v. v ∷ xs) (same_head x y (xs ++ z ∷ []) (ys ++ z ∷ []) h)
    ∙ ap (λ vs. y ∷ vs) (same_but_last xs ys z (same_tail x y (xs ++ z ∷ []) (ys ++ z ∷ []) h))

abbrev tables_with : List TableRow → List Share → Last → (total : ℕ) → Bool → Tables
tables_with entries intervals last total ended =
    record { entries = entries; intervals = intervals; last = last; total = total; ended = ended }

same_tables : (es es' : List TableRow) (is is' : List Share) (l l' : Last) (t t' : ℕ) (e e' : Bool)
    → es ≡ es' → is ≡ is' → l ≡ l' → t ≡ t' → e ≡ e' → tables_with es is l t e ≡ tables_with es' is' l' t' e'
same_tables es es' is is' l l' t t' e e' h1 h2 h3 h4 h5 =
    ap (λ x. tables_with x is l t e) h1 ∙ ap (λ x. tables_with es' x l t e) h2 ∙ ap (λ x. tables_with es' is' x t e) h3
    ∙ ap (λ x. tables_with es' is' l' x e) h4 ∙ ap (λ x. tables_with es' is' l' t' x) h5

agrees_where_fine : (meter : Installed) (reported : List TableRow) (done : List Share) (progress : Progress) (tables : Tables)
    → HasGone meter reported done progress → tables.entries ≡ reported ++ opening_row meter.opening ∷ []
    → AreFine meter tables → Agrees tables done progress
agrees_where_fine meter reported done progress tables gone entries fine =
    let both : reported ++ opening_row meter.opening ∷ [] ≡ later_rows meter fine.rows ++ opening_row meter.opening ∷ [] =
    sym entries ∙ ap (λ (t : Tables). t.entries) fine.are in
    let same : later_rows meter fine.rows ≡ later_rows meter gone.rows =
    sym (same_but_last reported (later_rows meter fine.rows) (opening_row meter.opening) both) ∙ gone.reported_is in
    let rows : fine.rows ≡ gone.rows = rows_are_distinct meter fine.rows gone.rows fine.fit gone.taken.fit same in
    let are : tables ≡ tables_of meter gone.rows = fine.are ∙ ap (tables_of meter) rows in
    let check : progress.check ≡ check_after meter gone.rows = gone.taken.check_is in
    record {
      intervals = ap (λ (t : Tables). t.intervals) are ∙ sym gone.intervals;
      last = ap (λ (t : Tables). t.last) are ∙ sym (ap (λ (c : Check). c.last) check);
      total = ap (λ (t : Tables). t.total) are ∙ sym (ap (λ (c : Check). c.total) check);
      ended = ap (λ (t : Tables). t.ended) are ∙ sym (ap (λ (c : Check). c.is_ended) check);
    }

fine_where_agrees : (meter : Installed) (reported : List TableRow) (done : List Share) (progress : Progress) (tables : Tables)
    → HasGone meter reported done progress → tables.entries ≡ reported ++ opening_row meter.opening ∷ []
    → Agrees tables done progress → AreFine meter tables
fine_where_agrees meter reported done progress tables gone entries h =
    let check : progress.check ≡ check_after meter gone.rows = gone.taken.check_is in
    record {
      rows = gone.rows;
      fit = gone.taken.fit;
      are = same_tables tables.entries _ tables.intervals _ tables.last _ tables.total _ tables.ended _
          (entries ∙ ap (λ (ts : List TableRow). ts ++ opening_row meter.opening ∷ []) gone.reported_is)
          (h.intervals ∙ gone.intervals)
          (h.last ∙ ap (λ (c : Check). c.last) check)
          (h.total ∙ ap (λ (c : Check). c.total) check)
          (h.ended ∙ ap (λ (c : Check). c.is_ended) check);
    }

pub finished_is_fine : FinishedIsFine
finished_is_fine meter reported done progress tables gone entries =
    (agrees_where_fine meter reported done progress tables gone entries, fine_where_agrees meter reported done progress tables gone entries)

pub refused_is_not_fine : RefusedIsNotFine
refused_is_not_fine meter reported newer done progress row fault well gone h all =
    refused_below meter gone.rows row fault newer all.rows well gone.taken.fit
    (subst (λ (c : Check). passed meter c row ≡ Err fault) gone.taken.check_is h) all.fit
    (ap (λ (ts : List TableRow). newer ++ row ∷ ts) (sym gone.reported_is) ∙ all.reported_is)
