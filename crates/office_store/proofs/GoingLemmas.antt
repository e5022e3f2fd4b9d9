-- Proofs that calls in sequence inside a transaction satisfy `Goes`, the contract of a single call,
-- and that the complete transaction satisfies `Commits`.
use Rattle.std.proofs.Common.{◌≡◌, true, false, [], inl, inr, ℕ, List, Ok, Err, Result, IsTrue, OnOk, OnErr, IfOk, IfErr, refl, sym, subst, ◌∙◌, arith}
use Rattle.sqlite.specs.declared.error.Error.{Error}
use Rattle.sqlite.specs.Order.{Row}
use Rattle.sqlite.specs.Tree.{Trees}
use Rattle.sqlite.specs.State.{State, HasCleanDisk, KeepsCommit, Survives, Shows, IsRolledBack, KeepsCounts}
use Rattle.sqlite.proofs.StateLemmas.{survives_then}
use Rattle.sqlite.proofs.Callers.{survives_begin}
use Rattle.sqlite.specs.Store.{Ghosts}
use Rattle.sqlite.specs.Held.{Held, state}
use Rattle.sqlite.specs.Steps.{FailsToCommit}
use Rattle.store_tables.specs.Content.{Content, AreTables, HasRows}
use Rattle.store_tables.specs.Steps.{StepsTo, Turns}
use Rattle.store_tables.specs.Asking.{AsksInside, ReportsAnswer}
use Rattle.store_tables.proofs.StepLemmas.{kept_then, undone_kept, uncommitted_kept}
use Rattle.office_store.specs.Going.{Goes, HasMade, Reported, Commits, AreMade}

both_ok : {X E : Type 0} {P Q R : Type 0} (r : Result X E) → (P → Q → R) → OnOk r P → OnOk r Q → OnOk r R
both_ok (Ok x) f p q = f p q
both_ok (Err e) f p q = tt

-- If an SQL statement satisfies `Steps`, the contract of one statement, it also satisfies `Goes`,
-- the contract of a call inside a transaction.
pub of_steps : {X E : Type 0} (old new : State) (r : Result X E) (Makes : Content → Content → Type 0) → StepsTo old new r (Turns Makes) → Goes old new r Makes
of_steps old new r Makes one = record {
  kept = λ clean inside content has. one.kept clean inside;
  makes = λ clean inside content has. both_ok r (λ still turns. (still, turns content has)) (one.inside clean inside) (one.rows clean inside);
  survives = one.survives;
}

-- If a query inside a transaction returns `Ok`, the tables stay unchanged, and the answer follows
-- from the rows of one table.
pub of_answer : {S A D E X : Type 0} (g : Ghosts S) (old new : Held S) (tree : ℕ) (columns : X → Row) (Answers : List X → A → Type 0) (a : A)
    → AsksInside {X = A} {E = D} g old new (Ok a) → ReportsAnswer g old new tree columns (Ok a) Answers
    → Goes {X = A} {E = E} (state g old) (state g new) (Ok a) (Reported tree columns Answers a)
of_answer g old new tree columns Answers a asks reports = record {
  kept = λ clean inside content has. asks.kept clean content has;
  makes = λ clean inside content has.
      let still = asks.unchanged clean content has inside in
      (still.0, (content, record { same = refl; answers = reports clean content has }, subst (λ d. AreTables d content) (sym still.1) has));
  survives = asks.survives;
}

pub of_no_answer : {S A D E X : Type 0} (g : Ghosts S) (old new : Held S) (e : D) (d : E) (Makes : Content → Content → Type 0)
    → AsksInside {X = A} {E = D} g old new (Err e) → Goes {X = X} {E = E} (state g old) (state g new) (Err d) Makes
of_no_answer g old new e d Makes asks = record {
  kept = λ clean inside content has. asks.kept clean content has;
  makes = λ clean inside content has. tt;
  survives = asks.survives;
}

more_ok : {X E : Type 0} {P Q : Type 0} (r : Result X E) → (P → Q) → OnOk r P → OnOk r Q
more_ok (Ok x) f h = f h
more_ok (Err e) f h = tt

-- If a call returns `Ok` and another call follows, both together satisfy `Goes`, the contract of a
-- single call inside a transaction.
pub goes_then : {X Y D E : Type 0} (a b c : State) (x : X) (r : Result Y E) (P Q R : Content → Content → Type 0) → Goes {X = X} {E = D} a b (Ok x) P → Goes b c r Q
    → ((before mid after : Content) → P before mid → Q mid after → R before after) → Goes a c r R
goes_then a b c x r P Q R one two goes = record {
  kept = λ clean inside content has.
      let early : HasCleanDisk b = omega (arith, two.survives.clean) in
      let first = one.makes early inside content has in
      kept_then a b c (one.kept early inside content has) (two.kept clean first.0 first.1.0 first.1.2);
  makes = λ clean inside content has.
      let early : HasCleanDisk b = omega (arith, two.survives.clean) in
      let first = one.makes early inside content has in
      more_ok r (λ (h : IsTrue c.in_transaction × HasMade Q first.1.0 c.now). (h.0, (h.1.0, goes content first.1.0 h.1.0 first.1.1 h.1.1, h.1.2)))
      (two.makes clean first.0 first.1.0 first.1.2);
  survives = survives_then a b c (λ _. ⊥) (λ _. ⊥) (λ _. ⊥) (λ _ db none. none) (λ _ db none. none) one.survives two.survives;
}

-- If a call returns `Ok` and the next call fails, both together satisfy `Goes`, the contract of one
-- (failed) call inside a transaction.
pub then_failed : {X Y Z D E F : Type 0} (a b c : State) (x : X) (e : E) (f : F) (P Q R : Content → Content → Type 0) → Goes {X = X} {E = D} a b (Ok x) P → Goes {X = Y} b c (Err e) Q
    → Goes {X = Z} a c (Err f) R
then_failed a b c x e f P Q R one two = record {
  kept = λ clean inside content has.
      let early : HasCleanDisk b = omega (arith, two.survives.clean) in
      let first = one.makes early inside content has in
      kept_then a b c (one.kept early inside content has) (two.kept clean first.0 first.1.0 first.1.2);
  makes = λ clean inside content has. tt;
  survives = survives_then a b c (λ _. ⊥) (λ _. ⊥) (λ _. ⊥) (λ _ db none. none) (λ _ db none. none) one.survives two.survives;
}

-- If a call fails and satisfies `Goes`, the contract of a call inside a transaction, the call
-- satisfies `Goes` with any postcondition. A postcondition concerns only calls that return `Ok`.
pub failed : {X Y D E : Type 0} (a b : State) (e : D) (d : E) (P Q : Content → Content → Type 0) → Goes {X = X} a b (Err e) P → Goes {X = Y} a b (Err d) Q
failed a b e d P Q one = record { kept = one.kept; makes = λ clean inside content has. tt; survives = one.survives }

pub then_refused : {X Y D E : Type 0} (a b : State) (x : X) (d : E) (P Q : Content → Content → Type 0) → Goes {X = X} {E = D} a b (Ok x) P → Goes {X = Y} a b (Err d) Q
then_refused a b x d P Q one = record { kept = one.kept; makes = λ clean inside content has. tt; survives = one.survives }

-- If a call satisfies `Goes`, the contract of a call inside a transaction, it also satisfies `Goes`
-- with a weaker postcondition.
pub reported_less : {X Y D E : Type 0} (a b : State) (x : X) (y : Y) (P Q : Content → Content → Type 0) → ((content after : Content) → P content after → Q content after)
    → Goes {X = X} {E = D} a b (Ok x) P → Goes {X = Y} {E = E} a b (Ok y) Q
reported_less a b x y P Q reports one = record {
  kept = one.kept;
  makes = λ clean inside content has. let h = one.makes clean inside content has in (h.0, (h.1.0, reports content h.1.0 h.1.1, h.1.2));
  survives = one.survives;
}

-- If a transaction makes no call, a crash after the transaction can leave only the states that a
-- crash before it could leave.
still_there : (a : State) → Survives a a (λ _. ⊥)
still_there a = record { clean = omega arith; shield = λ is. is; counts = omega arith; limit = refl; closes = λ clean is. inl is; crash = λ clean db left. inl left }

pub nothing_done : {X E : Type 0} (a : State) (x : X) (Q : Content → Content → Type 0) → ((content : Content) → Q content content) → Goes {X = X} {E = E} a a (Ok x) Q
nothing_done a x Q same = record {
  kept = λ clean inside content has. record { was_open = λ still. still; committed = λ still. refl };
  makes = λ clean inside content has. (inside, (content, same content, has));
  survives = still_there a;
}

pub refused : {X E : Type 0} (a : State) (d : E) (Q : Content → Content → Type 0) → Goes {X = X} {E = E} a a (Err d) Q
refused a d Q = record {
  kept = λ clean inside content has. record { was_open = λ still. still; committed = λ still. refl };
  makes = λ clean inside content has. tt;
  survives = still_there a;
}

on_err : {X E : Type 0} {P : E → Type 0} {Q : Type 0} (r : Result X E) → ((e : E) → P e → Q) → IfErr r P → OnErr r Q
on_err (Ok x) f h = tt
on_err (Err e) f h = f e h

module _ {S : Type 0} (g : Ghosts S) (old : Held S) (mid end : State) (Makes : Content → Content → Type 0) where
  kept_begun : (new : State) → KeepsCommit (state g (record old { in_transaction = true })) new → KeepsCommit (state g old) new
  kept_begun new k = record { was_open = k.was_open; committed = k.committed }

  -- If all calls before COMMIT succeed, the result of the transaction is the result of COMMIT.
  pub committed : {D : Type 0} (r : Result (Unit {0}) Error) → Goes {X = Unit {0}} {E = D} (state g (record old { in_transaction = true })) mid (Ok tt) Makes
      → (HasCleanDisk end → OnOk r (IsTrue mid.in_transaction × Shows mid end mid.now mid.now false × KeepsCounts mid end × (end.marks ≡ []))) → (HasCleanDisk end → IfErr r (FailsToCommit mid end))
      → Survives mid end (λ db. db ≡ mid.now.trees) → Commits (state g old) end r Makes
  committed r done ok err crash =
      let begun = state g (record old { in_transaction = true }) in
      let early = λ (clean : HasCleanDisk end). let is : HasCleanDisk mid = omega (arith, crash.clean) in is in
      let made = λ (clean : HasCleanDisk end) (content : Content) (has : AreTables (state g old).now content). (done.makes (early clean) refl content has).1 in
      let kept = λ (clean : HasCleanDisk end) (content : Content) (has : AreTables (state g old).now content). done.kept (early clean) refl content has in
      record {
        ok = λ clean content has. more_ok r (λ (h : IsTrue mid.in_transaction × Shows mid end mid.now mid.now false × KeepsCounts mid end × (end.marks ≡ [])).
            ((kept clean content has).was_open h.1.was_open, h.1.is_open, subst (HasMade Makes content) (sym h.1.committed_is) (made clean content has))) (ok clean);
        err = λ clean content has. on_err r (λ e h. kept_begun end (kept_then begun mid end (kept clean content has) (uncommitted_kept mid end e h))) (err clean);
        survives = survives_begin g old end _ (survives_then begun mid end (λ _. ⊥) (λ db. db ≡ mid.now.trees) (AreMade (state g old) Makes)
            (λ _ db none. absurd none) (λ clean db is. record { db = mid.now; made = made clean; same = is }) done.survives crash);
      }

  -- If a transaction is rolled back after an error, the tables have the last committed rows.
  pub given_up : {X Y D E : Type 0} (e : D) (d : E) → Goes {X = X} (state g (record old { in_transaction = true })) mid (Err e) Makes → (HasCleanDisk end → IsRolledBack mid end) → Survives mid end (λ _. ⊥)
      → Commits {X = Y} (state g old) end (Err d) Makes
  given_up e d done undone crash =
      let begun = state g (record old { in_transaction = true }) in
      record {
        ok = λ clean content has. tt;
        err = λ clean content has. let early : HasCleanDisk mid = omega (arith, crash.clean) in kept_begun end (kept_then begun mid end (done.kept early refl content has) (undone_kept mid end (undone clean)));
        survives = survives_begin g old end _ (survives_then begun mid end (λ _. ⊥) (λ _. ⊥) _ (λ _ db none. absurd none) (λ _ db none. absurd none) done.survives crash);
      }
