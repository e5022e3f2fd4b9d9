-- Proofs of what opening a file reports about the row of the table `meta` (the file's version and
-- time zone).
use Rattle.std.proofs.Common.{◌≡◌, ◌⊎◌, ◌≢◌, ◌≤◌, inl, inr, ℕ, length, IsSome, IsTrue, ◌==◌, eqb-true, eq-eqb, true, false, Ok, Err, Result, OnOk, IfOk, IfErr, IsErrAnd, refl, sym, ap, subst, ◌∙◌, arith}
use Rattle.std.proofs.lemmas.Result.{IfOk-weaker}
use Rattle.std.specs.Prelude.{IsUtf8}
use Rattle.sqlite.specs.State.{State, KeepsCommit, IsUnchanged}
use Rattle.interval_core.specs.declared.zone.Zone.{Zone}
use Rattle.interval_core.specs.Zone.{HasRule}
use Rattle.store_tables.specs.declared.open_faults.OpenFault.{OpenFault}
use Rattle.store_tables.specs.declared.open_faults.OpenFault.TheVariants.{NotOurs, Zone as NoZone, Store, Memory}
use Rattle.store_tables.specs.declared.layouts.Layout.{Layout}
use Rattle.store_tables.specs.declared.layouts.Layout.TheVariants.{First, Second, Third}
use Rattle.std.proofs.lemmas.Bool.{cases_Bool}
use Rattle.store_tables.specs.Content.{Content, AreTablesIn}
use Rattle.store_tables.specs.Layouts.{names_of, schema_of, version_of}
use Rattle.store_tables.specs.Upgrade.{IsOpenTo}
use Rattle.store_tables.specs.Meta.{Meta, IsMarked}
use Rattle.store_tables.specs.Zones.{IsZone}
use Rattle.sqlite.specs.declared.error.Error.{Error}
use Rattle.store_tables.specs.Failing.{IsStoreError, StateAfterCall}
use Rattle.store_tables.proofs.Failures.{later_failed}
use Rattle.store_tables.proofs.StepLemmas.{kept_then}
use Rattle.store_tables.specs.Faults.{fault_of, IsOwnFault}
use Rattle.store_tables.specs.OpenedFile.{ReadsMeta, ReportsOpening}

apart_from : (e d f g : OpenFault) → (e ≡ d) ⊎ (e ≡ f) → d ≢ g → f ≢ g → e ≢ g
apart_from e d f g (inl is) off away same = off (sym is ∙ same)
apart_from e d f g (inr is) off away same = away (sym is ∙ same)

-- Lemmas: if the database itself fails while a file is opened, the reported fault is `Store` or
-- `Memory`.

own_kind : (a b : State) (e : OpenFault) → IsOwnFault a b e → (e ≡ Store) ⊎ (e ≡ Memory)
own_kind a b Store own = inl refl
own_kind a b Memory own = inr refl
own_kind a b NotOurs own = absurd own
own_kind a b NoZone own = absurd own

is_store : (a b : State) (e : OpenFault) → (e ≡ Store) ⊎ (e ≡ Memory) → IsOwnFault a b Store → IsOwnFault a b e
is_store a b e (inl is) own = subst (IsOwnFault a b) (sym is) own
is_store a b e (inr is) own = subst (IsOwnFault a b) (sym is) tt

-- If a call to the database fails, the reported fault is about the database itself, not about the
-- file's content.
pub own_fault : (a b : State) (error : Error) (e : OpenFault) → e ≡ fault_of error → (e ≡ Store) ⊎ (e ≡ Memory) → a.faults ≤ b.faults → IsStoreError a b error → IsOwnFault a b e
own_fault a b error e is kind up (inl want) = subst (IsOwnFault a b) (sym (is ∙ ap fault_of want)) tt
own_fault a b error e is kind up (inr (inl failed)) = is_store a b e kind (up, inl failed)
own_fault a b error e is kind up (inr (inr stopped)) = is_store a b e kind (up, inr stopped.1)

pub later_own : (a b c : State) (e : OpenFault) → StateAfterCall a b → IsOwnFault b c e → IsOwnFault a c e
later_own a b c Store goes own = (omega (arith, goes.faults, own.0), elim own.1 [ inl failed ↦ inl (later_failed a b c goes own.0 failed) | inr limit ↦ inr (subst IsSome goes.limit limit) ])
later_own a b c Memory goes own = tt
later_own a b c NotOurs goes own = absurd own
later_own a b c NoZone goes own = absurd own

-- Lemmas on the result of opening a file, given the version and the time zone in the file's table
-- `meta`.

-- If the database itself fails, the contract of opening a file is satisfied, whatever version and
-- time zone the file has.
pub reports_fault : (version : ℕ) (m : Meta) (a b : State) (e : OpenFault) → IsOwnFault a b e → KeepsCommit a b → ReportsOpening version m a b (Err e)
reports_fault version m a b e own kept =
    let is = own_kind a b e own in
    let no_zone : e ≢ NoZone = apart_from e Store Memory NoZone is (λ s. absurd cc) (λ s. absurd cc) in
    record {
      other = λ off. (tt, inr own);
      ours = λ same. apart_from e Store Memory NotOurs is (λ s. absurd cc) (λ s. absurd cc);
      zone = tt;
      rule = λ text is_zone. no_zone;
      none = λ out. (tt, λ same. inr own);
      sound = λ same last text zone. own;
      kept = kept;
    }

pub reports_err : (version : ℕ) (m : Meta) (a b : State) (e : OpenFault) (r : Result Zone OpenFault) → IsErrAnd r (λ d. d ≡ e) → ReportsOpening version m a b (Err e) → ReportsOpening version m a b r
reports_err version m a b e (Ok z) fails it = absurd fails
reports_err version m a b e (Err d) fails it = subst (λ f. ReportsOpening version m a b (Err f)) (sym fails) it

-- If the checks accept a database file, and a later call of the database then fails, the result of
-- opening the file is the fault of this call.
pub reports_later : (version : ℕ) (m : Meta) (a b c : State) (z : Zone) (e : OpenFault) (r : Result Zone OpenFault) → (version ≡ 3 → ⊥) → ReportsOpening version m a b (Ok z) → (e ≡ Store) ⊎ (e ≡ Memory) → IsErrAnd r (λ d. d ≡ e) → KeepsCommit a c → ReportsOpening version m a c r
reports_later version m a b c z e (Ok y) earlier it is fails kept = absurd fails
reports_later version m a b c z e (Err d) earlier it is fails kept =
    let kind : (d ≡ Store) ⊎ (d ≡ Memory) = subst (λ f. (f ≡ Store) ⊎ (f ≡ Memory)) (sym fails) is in
    record {
      other = λ off. absurd (it.other off).0;
      ours = λ same. apart_from d Store Memory NotOurs kind (λ s. absurd cc) (λ s. absurd cc);
      zone = tt;
      rule = λ text is_zone. apart_from d Store Memory NoZone kind (λ s. absurd cc) (λ s. absurd cc);
      none = λ out. absurd (it.none out).0;
      sound = λ same last text zone. absurd (earlier last);
      kept = kept;
    }

pub reports_well : (version : ℕ) (m : Meta) (a b c : State) (z : Zone) → ReportsOpening version m a b (Ok z) → ReportsOpening version m a c (Ok z)
reports_well version m a b c z it = record {
  other = λ off. ((it.other off).0, tt);
  ours = λ same. tt;
  zone = it.zone;
  rule = λ text is_zone. tt;
  none = λ out. ((it.none out).0, λ same. tt);
  sound = λ same last text zone. tt;
  kept = tt;
}

-- If a call that commits nothing runs before the query of the table `meta`, the call and the query
-- together satisfy the contract of opening the file.
pub reports_since : (version : ℕ) (m : Meta) (a b c : State) (r : Result Zone OpenFault) → StateAfterCall a b → KeepsCommit a b → ReportsOpening version m b c r → ReportsOpening version m a c r
reports_since version m a b c (Ok z) goes kept it = record {
  other = λ off. ((it.other off).0, tt);
  ours = λ same. tt;
  zone = it.zone;
  rule = λ text is_zone. tt;
  none = λ out. ((it.none out).0, λ same. tt);
  sound = λ same last text zone. tt;
  kept = tt;
}
reports_since version m a b c (Err e) goes kept it = record {
  other = λ off. (tt, elim (it.other off).1 [ inl is ↦ inl is | inr own ↦ inr (later_own a b c e goes own) ]);
  ours = it.ours;
  zone = tt;
  rule = it.rule;
  none = λ out. (tt, λ same. elim ((it.none out).1 same) [ inl is ↦ inl is | inr own ↦ inr (later_own a b c e goes own) ]);
  sound = λ same last text zone. later_own a b c e goes (it.sound same last text zone);
  kept = kept_then a b c kept it.kept;
}

-- If memory runs out while the time zone is read, the fault counts as a fault of the database
-- itself.
memory_or : (a b : State) (e : OpenFault) → (e ≡ NoZone) ⊎ (e ≡ Memory) → (e ≡ NoZone) ⊎ IsOwnFault a b e
memory_or a b e (inl is) = inl is
memory_or a b e (inr is) = inr (subst (IsOwnFault a b) (sym is) tt)

pub reports_meta : (version : ℕ) (m : Meta) (a b : State) (r : Result Zone OpenFault) → KeepsCommit a b → ReadsMeta version m r → ReportsOpening version m a b r
reports_meta version m a b (Ok z) kept it = record {
  other = λ off. (let e = it.other off in cc, tt);
  ours = λ same. tt;
  zone = it.zone;
  rule = λ text is_zone. tt;
  none = λ out. (it.none out, λ same. tt);
  sound = λ same last text zone. tt;
  kept = tt;
}
reports_meta version m a b (Err e) kept it = record {
  other = λ off. (tt, inl (let f = it.other off in cc));
  ours = λ same. apart_from e NoZone Memory NotOurs (it.ours same) (λ s. absurd cc) (λ s. absurd cc);
  zone = tt;
  rule = it.rule;
  none = λ out. (tt, λ same. memory_or a b e (it.ours same));
  sound = λ same last text zone. elim (it.ours same) [ inl is ↦ absurd (it.rule text zone is) | inr is ↦ subst (IsOwnFault a b) (sym is) tt ];
  kept = kept;
}

none_of : (P : Type 0) (Q : Zone → Type 0) (r : Result Zone OpenFault) → (P → ⊥) → IfOk r (λ z. Q z × P) → OnOk r ⊥
none_of P Q (Ok z) out h = out h.1
none_of P Q (Err e) out h = tt

-- If the table `meta` has the version that the opening expects, the result of the opening is the
-- file's time zone, or a fault about the time zone.
pub reports_zone : (version : ℕ) (m : Meta) (r : Result Zone OpenFault) → m.version ≡ version → IfErr r (λ e. (e ≡ NoZone) ⊎ (e ≡ Memory)) → IfOk r (λ z. HasRule m.zone z × IsZone m.zone)
    → (IsUtf8 m.zone → IsZone m.zone → IfErr r (λ e. e ≢ NoZone)) → ReadsMeta version m r
reports_zone version m r same fault zone rule = record {
  other = λ off. absurd (off same);
  ours = λ is. fault;
  zone = IfOk-weaker r _ _ (λ z h. h.0) zone;
  rule = rule;
  none = λ out. none_of (IsZone m.zone) (HasRule m.zone) r out zone;
}

pub any_ok : {X E : Type 0} {P : Type 0} (r : Result X E) → P → OnOk r P
any_ok (Ok x) p = p
any_ok (Err e) p = tt

pub unchanged_kept : (a b : State) → IsUnchanged a b → KeepsCommit a b
unchanged_kept a b same = record { was_open = λ _. same.0.was_open; committed = λ _. same.0.committed_is }

-- If a layout (the tables of a file) has version 3, it is the layout with all tables.
pub is_third : (layout : Layout) → version_of layout ≡ 3 → layout ≡ Third
is_third First is = absurd (omega (arith, is))
is_third Second is = absurd (omega (arith, is))
is_third Third is = refl

-- If two layouts (versions of a file's tables) have equal table names, they are the same, because
-- each has a different number of tables.
pub one_layout : (l k : Layout) → names_of (schema_of l) ≡ names_of (schema_of k) → l ≡ k
one_layout First First same = refl
one_layout First Second same = absurd (let n : 11 ≡ 12 = ap length same in omega (arith, n))
one_layout First Third same = absurd (let n : 11 ≡ 13 = ap length same in omega (arith, n))
one_layout Second First same = absurd (let n : 12 ≡ 11 = ap length same in omega (arith, n))
one_layout Second Second same = refl
one_layout Second Third same = absurd (let n : 12 ≡ 13 = ap length same in omega (arith, n))
one_layout Third First same = absurd (let n : 13 ≡ 11 = ap length same in omega (arith, n))
one_layout Third Second same = absurd (let n : 13 ≡ 12 = ap length same in omega (arith, n))
one_layout Third Third same = refl

-- If the upgrade of a file fails, the file keeps its committed rows.
pub kept_of : (layout : Layout) (m : Meta) (content : Content) (a b c : State) (z : Zone) → IsTrue a.is_open → a.now ≡ a.committed → AreTablesIn (schema_of layout) a.now content → IsMarked m content
    → ReportsOpening (version_of layout) m a b (Ok z) → KeepsCommit a b → IsUnchanged a b → (IsOpenTo layout m.zone content b → KeepsCommit b c) → KeepsCommit a c
kept_of layout m content a b c z is_open settled has marked reported kept same brings =
    kept_then a b c kept (brings (record {
      is_open = same.0.is_open;
      settled = same.0.now_is ∙ settled ∙ sym same.0.committed_is;
      file = record {
        tables = subst (λ d. AreTablesIn (schema_of layout) d content) (sym (same.0.committed_is ∙ sym settled)) has;
        marked = subst (λ v. IsMarked (record { version = v; zone = m.zone }) content) (this_version layout m reported) marked;
      };
    }))
  where
    this_version : (layout : Layout) (m : Meta) → ReportsOpening (version_of layout) m a b (Ok z) → m.version ≡ version_of layout
    this_version layout m reported = elim (cases_Bool (m.version == version_of layout)) [
      | inl is ↦ eqb-true m.version (version_of layout) is
      | inr off ↦ absurd (reported.other (λ e. absurd (let f : false ≡ true = sym off ∙ eq-eqb m.version (version_of layout) e in cc))).0
    ]
