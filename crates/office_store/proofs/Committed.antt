-- Proofs about the stored records after one transaction: which records a database connection reads,
-- and which records a crash leaves.
use Rattle.std.proofs.Common.{◌≡◌, ◌≢◌, ℕ, inl, inr, List, [], ◌∷◌, ◌++◌, Ok, Err, Result, IsTrue, OnOk, OnErr, refl, sym, ap, subst, ◌∙◌, arith}
use Rattle.std.specs.Prelude.{reverse}
use Rattle.sqlite.specs.Store.{Ghosts}
use Rattle.sqlite.specs.Tree.{Trees}
use Rattle.sqlite.specs.Effect.{Database}
use Rattle.sqlite.specs.State.{HasCleanDisk, KeepsCommit, Survives}
use Rattle.sqlite.specs.Held.{Held, state}
use Rattle.office_events.specs.declared.facts.Fact.{Fact}
use Rattle.office_books.specs.Lawful.{AreLawful}
use Rattle.store_tables.specs.Content.{Content, AreTables}
use Rattle.office_store.specs.Going.{Commits, HasMade}
use Rattle.office_store.specs.Holding.{HasFacts, IsOneOf, IsLeft, HoldsFacts, LeavesFacts, BooksFacts}
use Rattle.office_store.specs.Tables.{AreOf}
use Rattle.office_store.specs.Recording.{RecordsAll}

one_more : (left : List (List Fact)) (more facts : List Fact) → IsOneOf left facts → IsOneOf (left ++ more ∷ []) facts
one_more [] more facts h = absurd h
one_more (x ∷ left) more facts (inl e) = inl e
one_more (x ∷ left) more facts (inr h) = inr (one_more left more facts h)

the_last : (left : List (List Fact)) (more : List Fact) → IsOneOf (left ++ more ∷ []) more
the_last [] more = inl refl
the_last (x ∷ left) more = inr (the_last left more)

by_ok : {X E Q : Type 0} (r : Result X E) → ((x : X) → r ≡ Ok x → Q) → OnOk r Q
by_ok (Ok x) f = f x refl
by_ok (Err e) f = tt

by_err : {X E Q : Type 0} (r : Result X E) → ((e : E) → r ≡ Err e → Q) → OnErr r Q
by_err (Ok x) f = tt
by_err (Err e) f = f e refl

-- If a call commits nothing, a crash after the call leaves only records that a crash before the
-- call could already leave.
pub quiet_leaves : {S : Type 0} (g : Ghosts S) (zone : List ℕ) (old new : Held S) (left : List (List Fact)) → Survives (state g old) (state g new) (λ _. ⊥) → LeavesFacts g zone old left → LeavesFacts g zone new left
unfolding LeavesFacts
quiet_leaves g zone old new left quiet leaves clean trees it = elim (quiet.crash clean trees it) [
  | inl was ↦ leaves (omega (arith, quiet.clean)) trees was
  | inr none ↦ absurd none
]

pub more_leaves : {S : Type 0} (g : Ghosts S) (zone : List ℕ) (h : Held S) (left : List (List Fact)) (more : List Fact) → LeavesFacts g zone h left → LeavesFacts g zone h (left ++ more ∷ [])
unfolding LeavesFacts
more_leaves g zone h left more leaves clean trees it =
    let one = leaves clean trees it in
    record { facts = one.facts; one = one_more left more one.facts one.one; db = one.db; has = one.has; same = one.same }

-- If a call keeps the committed rows unchanged, the database connection has the same records before
-- and after the call.
pub kept_holds : {S : Type 0} (g : Ghosts S) (zone : List ℕ) (old new : Held S) (facts : List Fact) → (HasCleanDisk (state g new) → HasCleanDisk (state g old)) → (HasCleanDisk (state g new) → KeepsCommit (state g old) (state g new))
    → HoldsFacts g zone old facts → HoldsFacts g zone new facts
unfolding HoldsFacts
kept_holds g zone old new facts clean kept holds now still =
    let k = kept now in
    subst (HasFacts zone facts) (sym (k.committed still)) (holds (clean now) (k.was_open still))

module _ {S X E : Type 0} (g : Ghosts S) (zone : List ℕ) (old mid new : Held S) (fs : List Fact) (r : Result X E)
    (opened : HasCleanDisk (state g mid) → IsTrue (state g mid).is_open × ((state g mid).now ≡ (state g mid).committed)) (kept : HasCleanDisk (state g mid) → KeepsCommit (state g old) (state g mid))
    (quiet : Survives (state g old) (state g mid) (λ _. ⊥)) (does : Commits (state g mid) (state g new) r (RecordsAll fs)) where
  early : HasCleanDisk (state g new) → HasCleanDisk (state g mid)
  early clean = omega (arith, does.survives.clean)

  first : HasCleanDisk (state g new) → HasCleanDisk (state g old)
  first clean = omega (arith, does.survives.clean, quiet.clean)

  -- If a database connection has the records `facts`, its tables encode `facts` when a transaction
  -- begins.
  found : (facts : List Fact) → HoldsFacts g zone old facts → HasCleanDisk (state g new) → HasFacts zone facts (state g mid).now
  unfolding HoldsFacts
  found facts holds clean =
      let o = opened (early clean) in
      let k = kept (early clean) in
      subst (HasFacts zone facts) (sym (o.1 ∙ k.committed o.0)) (holds (first clean) (k.was_open o.0))

  -- If a transaction stored new records, the tables encode the old and the new records.
  made : (facts : List Fact) (content : Content) (db : Database) → AreOf zone facts content → AreLawful (reverse fs ++ facts) → HasMade (RecordsAll fs) content db → HasFacts zone (reverse fs ++ facts) db
  made facts content db are lawful it = record { content = it.0; tables = it.2; are = it.1 zone facts are lawful }

  now_holds : (facts : List Fact) → HoldsFacts g zone old facts → AreLawful (reverse fs ++ facts) → (x : X) → r ≡ Ok x → HasCleanDisk (state g new)
      → IsTrue (state g new).is_open × HasFacts zone (reverse fs ++ facts) (state g new).committed
  now_holds facts holds lawful x is clean =
      let one = found facts holds clean in
      let h = subst (λ (q : Result X E). OnOk q (IsTrue (state g mid).is_open × IsTrue (state g new).is_open × HasMade (RecordsAll fs) one.content (state g new).committed)) is (does.ok clean one.content one.tables) in
      (h.1, made facts one.content (state g new).committed one.are lawful h.2)

  booked : (facts : List Fact) → HoldsFacts g zone old facts → AreLawful (reverse fs ++ facts) → OnOk r (HoldsFacts g zone new (reverse fs ++ facts))
  unfolding HoldsFacts
  booked facts holds lawful = by_ok r (λ x is clean still. (now_holds facts holds lawful x is clean).1)

  refused : (facts : List Fact) → HoldsFacts g zone old facts → OnErr r (HoldsFacts g zone new facts)
  unfolding HoldsFacts
  refused facts holds = by_err r (λ e is clean still.
      let one = found facts holds clean in
      let k = subst (λ (q : Result X E). OnErr q (KeepsCommit (state g mid) (state g new))) is (does.err clean one.content one.tables) in
      let m = kept (early clean) in
      subst (HasFacts zone facts) (sym (k.committed still ∙ m.committed (k.was_open still))) (holds (first clean) (m.was_open (k.was_open still))))

  -- Suppose that a crash can leave only the last commit, and this commit stored new records. Then
  -- the crash leaves both the old and the new records.
  settled : ((trees : Trees) → IsTrue (state g new).is_open → (state g new).may_leave trees → trees ≡ (state g new).committed.trees)
      → (facts : List Fact) → HoldsFacts g zone old facts → AreLawful (reverse fs ++ facts) → OnOk r (LeavesFacts g zone new ((reverse fs ++ facts) ∷ []))
  unfolding LeavesFacts
  settled only facts holds lawful = by_ok r (λ x is clean trees left.
      let h = now_holds facts holds lawful x is clean in
      record { facts = reverse fs ++ facts; one = inl refl; db = (state g new).committed; has = h.1; same = only trees h.0 left })

  under_way : (facts : List Fact) (left : List (List Fact)) → HoldsFacts g zone old facts → AreLawful (reverse fs ++ facts) → LeavesFacts g zone old left
      → OnErr r (LeavesFacts g zone new (left ++ (reverse fs ++ facts) ∷ []))
  unfolding LeavesFacts
  under_way facts left holds lawful leaves = by_err r (λ e is clean trees it. elim (does.survives.crash clean trees it) [
    | inl before ↦ elim (quiet.crash (early clean) trees before) [
      | inl was ↦
          let h = leaves (first clean) trees was in
          record { facts = h.facts; one = one_more left (reverse fs ++ facts) h.facts h.one; db = h.db; has = h.has; same = h.same }
      | inr none ↦ absurd none
    ]
    | inr there ↦
        let one = found facts holds clean in
        record { facts = reverse fs ++ facts; one = the_last left (reverse fs ++ facts); db = there.db; has = made facts one.content there.db one.are lawful (there.made one.content one.tables); same = there.same }
  ])

  pub books : (fs ≢ []) → ((trees : Trees) → IsTrue (state g new).is_open → (state g new).may_leave trees → trees ≡ (state g new).committed.trees) → BooksFacts g zone fs old new r
  books some only = record {
    clean = first;
    booked = booked;
    settled = λ _. settled only;
    refused = refused;
    under_way = under_way;
    nothing = λ none. absurd (some none);
  }

-- If a transaction fails before its first write, the stored records stay unchanged.
pub untouched : {S X E : Type 0} (g : Ghosts S) (zone : List ℕ) (old new : Held S) (fs : List Fact) (e : E) → (fs ≢ []) → (HasCleanDisk (state g new) → KeepsCommit (state g old) (state g new))
    → Survives (state g old) (state g new) (λ _. ⊥) → BooksFacts g zone {X = X} fs old new (Err e)
untouched g zone old new fs e some kept quiet = record {
  clean = λ clean. omega (arith, quiet.clean);
  booked = λ facts holds lawful. tt;
  settled = λ _ facts holds lawful. tt;
  refused = λ facts holds. kept_holds g zone old new facts (λ clean. omega (arith, quiet.clean)) kept holds;
  under_way = λ facts left holds lawful leaves. more_leaves g zone new left (reverse fs ++ facts) (quiet_leaves g zone old new left quiet leaves);
  nothing = λ none. absurd (some none);
}

-- If the list of records to store is empty, storing it makes no SQLite call, and nothing changes.
pub no_facts : {S X E : Type 0} (g : Ghosts S) (zone : List ℕ) (h : Held S) (fs : List Fact) (x : X) → fs ≡ [] → BooksFacts g zone {E = E} fs h h (Ok x)
no_facts g zone h fs x none = record {
  clean = λ clean. clean;
  booked = λ facts holds lawful. subst (λ (l : List Fact). HoldsFacts g zone h (reverse l ++ facts)) (sym none) holds;
  settled = λ some. absurd (some none);
  refused = λ facts holds. tt;
  under_way = λ facts left holds lawful leaves. tt;
  nothing = λ _. (refl, refl);
}
