-- Lemmas that a meter's rows have no discrepancy if and only if the values read from them follow
-- from a history that the rules for meter entries accept.
use Rattle.std.proofs.Common.{◌≡◌, ◌↔◌, ℕ, Bool, false, List, [], ◌∷◌, Option, Some, None, Result, Ok, Err, Vec, IfOk, IsTrue, sym, ap, subst, ◌∙◌}
use Rattle.interval_core.specs.declared.shares.Share.{Share}
use Rattle.meter_journal.specs.declared.audit.rows.TableRow.{TableRow}
use Rattle.meter_journal.proofs.AuditLemmas.Apart.{same_head}
use Rattle.sqlite.specs.Order.{Row}
use Rattle.store_tables.specs.declared.faults.RowFault.{RowFault}
use Rattle.store_tables.specs.declared.meters.rows.InstallationRow.{InstallationRow}
use Rattle.store_tables.proofs.ReadLemmas.{ok_is}
use Rattle.table_audit.specs.declared.rows.MeterRows.{MeterRows}
use Rattle.table_audit.specs.declared.rows.VoidRow.{VoidRow}
use Rattle.table_audit.specs.Reading.{entry_in, void_in, share_in, range_in, all_in, AreRead}
use Rattle.table_audit.specs.Lawful.{IsLawful}
use Rattle.table_audit.specs.Fine.{IsFine}

-- If a property never holds, then the Boolean `false` is the correct report of whether it holds.
pub never : (P : Type 0) → (P → ⊥) → IsTrue false ↔ P
never P none = (λ f. absurd (let e : false ≡ Rattle.std.proofs.Common.true = f in cc), λ h. absurd (none h))

-- If a Boolean is true exactly when a property holds, then it is also true exactly when an
-- equivalent property holds.
pub reported_by : {E P Q : Type 0} (r : Result Bool E) → IfOk r (λ b. IsTrue b ↔ P) → ((b : Bool) → IsTrue b ↔ P → IsTrue b ↔ Q)
    → IfOk r (λ b. IsTrue b ↔ Q)
reported_by (Ok b) h both = both b h
reported_by (Err e) h both = tt

pub reported_too : {E P Q : Type 0} (r : Result Bool E) → IfOk r (λ b. IsTrue b ↔ P) → (P → Q) → (Q → P) → IfOk r (λ b. IsTrue b ↔ Q)
reported_too r h to from = reported_by r h (λ b same. (λ is. to (same.0 is), λ q. same.1 (from q)))

-- If parsing a list of rows succeeded, then the result has the values of all given rows.
pub what_was_read : {X Z : Type 0} (read : Row → Result X RowFault) (given rows : List Row) (o : Option (Vec X Z)) (found : Vec X Z)
    → given ≡ rows → o ≡ Some found → AreRead read given o → all_in read rows ≡ Ok found.items
what_was_read read given rows o found same is h = ap (all_in read) (sym same) ∙ subst (AreRead read given) is h

module _ (row : InstallationRow) (rows : MeterRows) where
  pub no_range : ((n : ℕ) → (all_in range_in rows.ranges.items ≡ Ok (n ∷ [])) ↔ (None ≡ Some n)) → IsFine row rows → ⊥
  no_range none fine = let f : None ≡ Some fine.range = (none fine.range).0 fine.range_read in absurd (cc)

  pub no_voids : ((xs : List VoidRow) → all_in void_in rows.voids.items ≡ Ok xs → ⊥) → IsFine row rows → ⊥
  no_voids none fine = none fine.voids fine.voids_read

  pub no_shares : ((xs : List Share) → all_in share_in rows.intervals.items ≡ Ok xs → ⊥) → IsFine row rows → ⊥
  no_shares none fine = none fine.shares fine.shares_read

  same_voids : (voids : List VoidRow) → all_in void_in rows.voids.items ≡ Ok voids → (fine : IsFine row rows) → fine.voids ≡ voids
  same_voids voids v fine = ok_is (sym fine.voids_read ∙ v)

  pub no_entries : (voids : List VoidRow) → all_in void_in rows.voids.items ≡ Ok voids
      → ((xs : List TableRow) → all_in (entry_in voids) rows.entries.items ≡ Ok xs → ⊥) → IsFine row rows → ⊥
  no_entries voids v none fine =
      none fine.entries (ap (λ (vs : List VoidRow). all_in (entry_in vs) rows.entries.items) (sym (same_voids voids v fine)) ∙ fine.entries_read)

  pub fine_as_read : (range : ℕ) (voids : List VoidRow) (entries : List TableRow) (shares : List Share) (b : Bool)
      → all_in range_in rows.ranges.items ≡ Ok (range ∷ []) → all_in void_in rows.voids.items ≡ Ok voids
      → all_in (entry_in voids) rows.entries.items ≡ Ok entries → all_in share_in rows.intervals.items ≡ Ok shares
      → IsTrue b ↔ IsLawful range row voids entries shares → IsTrue b ↔ IsFine row rows
  fine_as_read range voids entries shares b r v e s reported = (
    λ is.
        record {
          range = range;
          voids = voids;
          entries = entries;
          shares = shares;
          range_read = r;
          voids_read = v;
          entries_read = e;
          shares_read = s;
          lawful = reported.0 is;
        },
    λ fine.
        let same_range : fine.range ≡ range = same_head fine.range range [] [] (ok_is (sym fine.range_read ∙ r)) in
        let voided : fine.voids ≡ voids = same_voids voids v fine in
        let same_entries : fine.entries ≡ entries =
        ok_is (sym fine.entries_read ∙ ap (λ (vs : List VoidRow). all_in (entry_in vs) rows.entries.items) voided ∙ e) in
        let same_shares : fine.shares ≡ shares = ok_is (sym fine.shares_read ∙ s) in
        reported.1
        (subst (λ ss. IsLawful range row voids entries ss) same_shares
        (subst (λ es. IsLawful range row voids es fine.shares) same_entries
        (subst (λ vs. IsLawful range row vs fine.entries fine.shares) voided
        (subst (λ n. IsLawful n row fine.voids fine.entries fine.shares) same_range fine.lawful)))),
  )

  -- If a Boolean reports correctly whether the values parsed from a meter's rows follow the rules
  -- for meter entries, then it also reports correctly whether the rows follow these rules. The
  -- check may use copies of the values.
  pub fine_found : (range : ℕ) (voids named vs : List VoidRow) (entries es : List TableRow) (shares ss : List Share) (b : Bool)
      → named ≡ voids → vs ≡ voids → es ≡ entries → ss ≡ shares
      → all_in range_in rows.ranges.items ≡ Ok (range ∷ []) → all_in void_in rows.voids.items ≡ Ok voids
      → all_in (entry_in named) rows.entries.items ≡ Ok entries → all_in share_in rows.intervals.items ≡ Ok shares
      → IsTrue b ↔ IsLawful range row vs es ss → IsTrue b ↔ IsFine row rows
  fine_found range voids named vs entries es shares ss b n_is v_is e_is s_is r v e s reported =
      fine_as_read range voids entries shares b r v (ap (λ (xs : List VoidRow). all_in (entry_in xs) rows.entries.items) (sym n_is) ∙ e) s
      (subst (λ x. IsTrue b ↔ IsLawful range row voids entries x) s_is
      (subst (λ x. IsTrue b ↔ IsLawful range row voids x ss) e_is
      (subst (λ x. IsTrue b ↔ IsLawful range row x es ss) v_is reported)))
