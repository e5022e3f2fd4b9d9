-- Lemmas on contracts of database calls inside one transaction: of two calls in sequence, of a
-- failed call, and of a query, which changes no row.
use Rattle.std.proofs.Common.{◌≡◌, inl, inr, ℕ, List, true, Ok, Err, Result, IsTrue, OnOk, OnErr, IfOk, IfErr, [], false, refl, sym, subst, ◌∙◌, arith, ◌⊎◌}
use Rattle.sqlite.specs.declared.error.Error.{Error}
use Rattle.sqlite.specs.Order.{Row}
use Rattle.sqlite.specs.State.{State, HasCleanDisk, KeepsCommit, Survives, Shows, IsUnchanged, IsRolledBack, IsNotRun, KeepsCounts, FailsToQuery, FailsToShow, Shown, ShowsRows, Executes, ExecutesInside, CommitsShowing, IsTooLate}
use Rattle.sqlite.proofs.StateLemmas.{survives_then, survives_weaker}
use Rattle.sqlite.specs.Store.{Ghosts}
use Rattle.sqlite.specs.Held.{Held, state}
use Rattle.sqlite.specs.Steps.{FailsToCommit}
use Rattle.sqlite.specs.Effect.{Database}
use Rattle.sqlite.proofs.Callers.{IsPlain, survives_begin, never_commits}
use Rattle.sqlite.specs.Listing.{understood}
use Rattle.sqlite.specs.Clock.{timed}
use Rattle.sqlite.specs.Schema.{Schema}
use Rattle.store_tables.specs.Schema.{books_schema}
use Rattle.store_tables.specs.Content.{Content}
use Rattle.store_tables.specs.Steps.{StepsTo, TurnsIn, Turns, TransactsTo}
use Rattle.store_tables.specs.Asking.{Asks, AsksInside}

unchanged_kept : (old new : State) → IsUnchanged old new → KeepsCommit old new
unchanged_kept old new h = record { was_open = λ _. h.0.was_open; committed = λ _. h.0.committed_is }

pub undone_kept : (old new : State) → IsRolledBack old new → KeepsCommit old new
undone_kept old new h = record { was_open = h.was_open; committed = λ still. (h.undone still).1 }

pub inside_kept : (sql : List ℕ) (params : Row) (old new : State) (r : Result ℕ Error) → ExecutesInside 0 sql params old new r → KeepsCommit old new
inside_kept sql params old new (Ok count) h = record { was_open = λ _. h.1.was_open; committed = λ _. h.1.committed_is }
inside_kept sql params old new (Err e) (inl h) = elim h.1 [ inl same ↦ unchanged_kept old new same | inr undone ↦ undone_kept old new undone ]
inside_kept sql params old new (Err e) (inr h) = unchanged_kept old new h.2

pub stays_inside : (sql : List ℕ) (params : Row) (old new : State) (r : Result ℕ Error) → ExecutesInside 0 sql params old new r → OnOk r (IsTrue new.in_transaction)
stays_inside sql params old new (Ok count) h = h.1.mode
stays_inside sql params old new (Err e) h = tt

pub ran : (sql : List ℕ) (params : Row) (old new : State) (r : Result ℕ Error) (Q : Type 0) → (Executes sql params old new r → OnOk r Q) → ExecutesInside 0 sql params old new r → OnOk r Q
ran sql params old new (Ok count) Q f h = f h.0
ran sql params old new (Err e) Q f h = tt

-- If a transaction runs one INSERT, UPDATE or DELETE, the statement satisfies `StepsTo`, the
-- contract of a call inside a transaction.
pub steps : (sql : List ℕ) (params : Row) (old new : State) (r : Result ℕ Error) (Goes : Database → Database → Type 0)
    → (HasCleanDisk new → IsTrue old.in_transaction → ExecutesInside 0 sql params old new r) → Survives old new (λ _. ⊥)
    → (Executes sql params old new r → OnOk r (Goes old.now new.now)) → StepsTo old new r Goes
steps sql params old new r Goes runs survives rows = record {
  kept = λ clean inside. inside_kept sql params old new r (runs clean inside);
  inside = λ clean inside. stays_inside sql params old new r (runs clean inside);
  rows = λ clean inside. ran sql params old new r _ rows (runs clean inside);
  survives = survives;
}

-- If each of two calls in sequence leaves the last commit unchanged, both together leave it
-- unchanged.
pub kept_then : (a b c : State) → KeepsCommit a b → KeepsCommit b c → KeepsCommit a c
kept_then a b c p q = record { was_open = λ still. p.was_open (q.was_open still); committed = λ still. q.committed still ∙ p.committed (q.was_open still) }

pub on_ok : {X E : Type 0} {P Q : Type 0} (r : Result X E) → (P → Q) → OnOk r P → OnOk r Q
on_ok (Ok x) f h = f h
on_ok (Err e) f h = tt

-- The effects of two calls in sequence combine to one effect on the content of the tables.
pub turns_then : (schema : Schema) (a b c : Database) (P Q R : Content → Content → Type 0) → ((x y z : Content) → P x y → Q y z → R x z) → TurnsIn schema P a b → TurnsIn schema Q b c → TurnsIn schema R a c
turns_then schema a b c P Q R goes one two content has =
    let first = one content has in
    let second = two first.0 first.2 in
    (second.0, goes content first.0 second.0 first.1 second.1, second.2)

-- If the first of two calls inside a transaction is Ok, both together satisfy `StepsTo`, the
-- contract of one call.
pub goes_then : {X Y D E : Type 0} (a b c : State) (x : X) (r : Result Y E) (P Q R : Database → Database → Type 0) → StepsTo {X = X} {E = D} a b (Ok x) P → StepsTo b c r Q
    → (P a.now b.now → Q b.now c.now → R a.now c.now) → StepsTo a c r R
goes_then a b c x r P Q R one two goes = record {
  kept = λ clean inside. let early : HasCleanDisk b = omega (arith, two.survives.clean) in let still = one.inside early inside in kept_then a b c (one.kept early inside) (two.kept clean still);
  inside = λ clean inside. let early : HasCleanDisk b = omega (arith, two.survives.clean) in two.inside clean (one.inside early inside);
  rows = λ clean inside.
      let early : HasCleanDisk b = omega (arith, two.survives.clean) in
      on_ok r (goes (one.rows early inside)) (two.rows clean (one.inside early inside));
  survives = survives_then a b c (λ _. ⊥) (λ _. ⊥) (λ _. ⊥) (λ _ db none. none) (λ _ db none. none) one.survives two.survives;
}

pub steps_then : {X Y D E : Type 0} (a b c : State) (x : X) (r : Result Y E) (P Q R : Content → Content → Type 0) → StepsTo {X = X} {E = D} a b (Ok x) (Turns P) → StepsTo b c r (Turns Q)
    → ((x y z : Content) → P x y → Q y z → R x z) → StepsTo a c r (Turns R)
steps_then a b c x r P Q R one two goes = goes_then a b c x r (Turns P) (Turns Q) (Turns R) one two (turns_then _ a.now b.now c.now P Q R goes)

-- A transaction without any call leaves the tables unchanged.
pub no_steps : {X E : Type 0} (a : State) (x : X) → StepsTo {X = X} {E = E} a a (Ok x) (Turns (λ content after. after ≡ content))
no_steps a x = record {
  kept = λ clean inside. record { was_open = λ still. still; committed = λ still. refl };
  inside = λ clean inside. inside;
  rows = λ clean inside content has. (content, refl, has);
  survives = record { clean = omega arith; shield = λ is. is; counts = omega arith; limit = refl; closes = λ clean is. inl is; crash = λ clean db left. inl left };
}

-- If a call inside a transaction fails, it satisfies the contract with any postcondition, because
-- postconditions constrain the rows only at Ok.
pub failed : {X Y D E : Type 0} (a b : State) (e : D) (d : E) (P Q : Database → Database → Type 0) → StepsTo {X = X} a b (Err e) P → StepsTo {X = Y} a b (Err d) Q
failed a b e d P Q one = record { kept = one.kept; inside = λ clean inside. tt; rows = λ clean inside. tt; survives = one.survives }

-- Suppose that a call inside a transaction returned Ok with some value, and satisfies the contract
-- `StepsTo`. Then the same effect with any other Ok value satisfies the contract too.
pub answered : {X Y D E : Type 0} (a b : State) (x : X) (y : Y) (P : Database → Database → Type 0) → StepsTo {X = X} {E = D} a b (Ok x) P → StepsTo {X = Y} {E = E} a b (Ok y) P
answered a b x y P one = record { kept = one.kept; inside = one.inside; rows = one.rows; survives = one.survives }

-- If a call inside a transaction satisfies a postcondition, it also satisfies every weaker
-- postcondition.
pub weaker : {X E : Type 0} (a b : State) (r : Result X E) (P Q : Database → Database → Type 0) → (P a.now b.now → Q a.now b.now) → StepsTo a b r P → StepsTo a b r Q
weaker a b r P Q reports one = record { kept = one.kept; inside = one.inside; rows = λ clean inside. on_ok r reports (one.rows clean inside); survives = one.survives }

pub not_run_kept : (old new : State) (sql : List ℕ) (params : Row) (e : Error) → IsNotRun old new sql params e → KeepsCommit old new
unfolding IsNotRun
not_run_kept old new sql params e (inl h) = unchanged_kept old new h.1
not_run_kept old new sql params e (inr h) = undone_kept old new h.3

pub uncommitted_kept : (old new : State) (e : Error) → FailsToCommit old new e → KeepsCommit old new
uncommitted_kept old new e (inl h) = undone_kept old new h.3
uncommitted_kept old new e (inr h) = unchanged_kept old new h.2

on_err : {X E : Type 0} {P : E → Type 0} {Q : Type 0} (r : Result X E) → ((e : E) → P e → Q) → IfErr r P → OnErr r Q
on_err (Ok x) f h = tt
on_err (Err e) f h = f e h

module _ {S : Type 0} (g : Ghosts S) (old : Held S) (mid end : State) (Goes : Database → Database → Type 0) where
  kept_begun : (new : State) → KeepsCommit (state g (record old { in_transaction = true })) new → KeepsCommit (state g old) new
  kept_begun new k = record { was_open = k.was_open; committed = k.committed }

  -- If all calls before COMMIT succeeded, the result of the transaction is the result of COMMIT.
  pub transacted : {D : Type 0} (r : Result (Unit {0}) Error) → StepsTo {X = Unit {0}} {E = D} (state g (record old { in_transaction = true })) mid (Ok tt) Goes
      → (HasCleanDisk end → OnOk r (IsTrue mid.in_transaction × Shows mid end mid.now mid.now false × KeepsCounts mid end × (end.marks ≡ []))) → (HasCleanDisk end → IfErr r (FailsToCommit mid end))
      → Survives mid end (λ db. db ≡ mid.now.trees) → TransactsTo (state g old) end r Goes
  transacted r done ok err crash =
      let begun = state g (record old { in_transaction = true }) in
      let early = λ (clean : HasCleanDisk end). let is : HasCleanDisk mid = omega (arith, crash.clean) in is in
      let turns = λ (clean : HasCleanDisk end). done.rows (early clean) refl in
      let kept = λ (clean : HasCleanDisk end). done.kept (early clean) refl in
      record {
        ok = λ clean. on_ok r (λ (h : IsTrue mid.in_transaction × Shows mid end mid.now mid.now false × KeepsCounts mid end × (end.marks ≡ [])).
            ((kept clean).was_open h.1.was_open, h.1.is_open, subst (Goes (state g old).now) (sym h.1.committed_is) (turns clean))) (ok clean);
        err = λ clean. on_err r (λ e h. kept_begun end (kept_then begun mid end (kept clean) (uncommitted_kept mid end e h))) (err clean);
        survives = survives_begin g old end _ (survives_then begun mid end (λ _. ⊥) (λ db. db ≡ mid.now.trees) (λ trees. (db : Database) × Goes (state g old).now db × (trees ≡ db.trees))
            (λ _ db none. absurd none) (λ clean db is. (mid.now, turns clean, is)) done.survives crash);
      }

  -- A transaction that was rolled back after an error leaves the last committed rows.
  pub given_up : {X Y D E : Type 0} (e : D) (d : E) → StepsTo {X = X} (state g (record old { in_transaction = true })) mid (Err e) Goes → (HasCleanDisk end → IsRolledBack mid end) → Survives mid end (λ _. ⊥)
      → TransactsTo {X = Y} (state g old) end (Err d) Goes
  given_up e d done undone crash =
      let begun = state g (record old { in_transaction = true }) in
      record {
        ok = λ clean. tt;
        err = λ clean. let early : HasCleanDisk mid = omega (arith, crash.clean) in kept_begun end (kept_then begun mid end (done.kept early refl) (undone_kept mid end (undone clean)));
        survives = survives_begin g old end _ (survives_then begun mid end (λ _. ⊥) (λ _. ⊥) _ (λ _ db none. absurd none) (λ _ db none. absurd none) done.survives crash);
      }

-- Lemmas: a query inside or outside a transaction changes no row and commits nothing.

-- If a query succeeds, the database stays unchanged.
pub shown_same : (sql : List ℕ) (params : Row) (old new : State) (rows : List Row) → IsPlain (understood old.now.schema sql) → Shown sql params old new rows → IsUnchanged old new
unfolding Shown
shown_same sql params old new rows plain h =
    let none = (subst IsPlain h.1.is plain).0 in
    (subst (ShowsRows old new sql h.0 (timed params h.0.formats h.1.now) rows) none h.2).3

-- If a query fails, the last committed rows stay unchanged.
pub failed_query_kept : (sql : List ℕ) (params : Row) (old new : State) (e : Error) → IsPlain (understood old.now.schema sql) → FailsToQuery sql params old new e → KeepsCommit old new
unfolding FailsToQuery
failed_query_kept sql params old new e plain (inl h) = not_run_kept old new sql params e h
failed_query_kept sql params old new e plain (inr h) =
    let none = (subst IsPlain h.1.is plain).0 in
    unchanged_kept old new (subst (FailsToShow old new sql h.0 (timed params h.0.formats h.1.now) e) none h.2).3

pub asked_kept : {X : Type 0} (sql : List ℕ) (params : Row) (old new : State) (r : Result X Error) (rows : X → List Row) → IsPlain (understood old.now.schema sql)
    → IfOk r (λ x. Shown sql params old new (rows x)) → IfErr r (FailsToQuery sql params old new) → KeepsCommit old new
asked_kept sql params old new (Ok x) rows plain ok err = unchanged_kept old new (shown_same sql params old new (rows x) plain ok)
asked_kept sql params old new (Err e) rows plain ok err = failed_query_kept sql params old new e plain err

-- An SQL text has the same meaning in all databases with the same schema.
pub plain_in : (schema : Schema) (sql : List ℕ) (d : Database) → d.schema ≡ schema → IsPlain (understood schema sql) → IsPlain (understood d.schema sql)
plain_in schema sql d has plain = subst (λ s. IsPlain (understood s sql)) (sym has) plain

-- A query commits nothing, even if a crash interrupts it.
pub shown_survives : (sql : List ℕ) (params : Row) (old new : State) → IsPlain (understood old.now.schema sql) → Survives old new (CommitsShowing sql params old) → Survives old new (λ _. ⊥)
shown_survives sql params old new plain = survives_weaker old new _ _ (λ _ db. never_commits sql params old db plain)

-- A look-up that makes one query satisfies `Asks`: it commits nothing and opens no transaction.
pub asks : {S X : Type 0} (g : Ghosts S) (sql : List ℕ) (params : Row) (old new : Held S) (r : Result X Error) (rows : X → List Row) → IsPlain (understood books_schema sql)
    → (HasCleanDisk (state g new) → IfOk r (λ x. Shown sql params (state g old) (state g new) (rows x))) → (HasCleanDisk (state g new) → IfErr r (FailsToQuery sql params (state g old) (state g new)))
    → (old.in_transaction ≡ false → new.in_transaction ≡ false) → Survives (state g old) (state g new) (CommitsShowing sql params (state g old)) → Asks g old new
asks g sql params old new r rows plain ok err mode survives = record {
  clean = λ clean. omega (arith, survives.clean);
  mode = mode;
  kept = λ clean content has. asked_kept sql params (state g old) (state g new) r rows (plain_in books_schema sql (state g old).now has.schema plain) (ok clean) (err clean);
  survives = λ content has. shown_survives sql params (state g old) (state g new) (plain_in books_schema sql (state g old).now has.schema plain) survives;
}

asked_inside : {X : Type 0} (sql : List ℕ) (params : Row) (old new : State) (r : Result X Error) (rows : X → List Row) → IsPlain (understood old.now.schema sql)
    → IfOk r (λ x. Shown sql params old new (rows x)) → IfErr r (λ e. FailsToQuery sql params old new e ⊎ IsTooLate sql params old new e) → KeepsCommit old new
asked_inside sql params old new (Ok x) rows plain ok err = unchanged_kept old new (shown_same sql params old new (rows x) plain ok)
asked_inside sql params old new (Err e) rows plain ok (inl err) = failed_query_kept sql params old new e plain err
asked_inside sql params old new (Err e) rows plain ok (inr late) = unchanged_kept old new late.5

shown_still : {X : Type 0} (sql : List ℕ) (params : Row) (old new : State) (r : Result X Error) (rows : X → List Row) → IsPlain (understood old.now.schema sql)
    → IfOk r (λ x. Shown sql params old new (rows x)) → IsTrue old.in_transaction → OnOk r (IsTrue new.in_transaction × (new.now ≡ old.now))
shown_still sql params old new (Ok x) rows plain ok inside = let same = shown_same sql params old new (rows x) plain ok in (same.0.mode ∙ inside, same.0.now_is)
shown_still sql params old new (Err e) rows plain ok inside = tt

-- One query inside a transaction satisfies `AsksInside`: if it succeeds, the transaction stays open
-- and no row is changed.
pub asks_inside : {S X : Type 0} (g : Ghosts S) (sql : List ℕ) (params : Row) (old new : Held S) (r : Result X Error) (rows : X → List Row) → IsPlain (understood books_schema sql)
    → (HasCleanDisk (state g new) → IfOk r (λ x. Shown sql params (state g old) (state g new) (rows x)))
    → (HasCleanDisk (state g new) → IfErr r (λ e. FailsToQuery sql params (state g old) (state g new) e ⊎ IsTooLate sql params (state g old) (state g new) e))
    → Survives (state g old) (state g new) (λ _. ⊥) → AsksInside g old new r
asks_inside g sql params old new r rows plain ok err survives = record {
  kept = λ clean content has. asked_inside sql params (state g old) (state g new) r rows (plain_in books_schema sql (state g old).now has.schema plain) (ok clean) (err clean);
  unchanged = λ clean content has inside. shown_still sql params (state g old) (state g new) r rows (plain_in books_schema sql (state g old).now has.schema plain) (ok clean) inside;
  survives = survives;
}
