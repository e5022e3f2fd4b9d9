-- Lemmas that combine the contracts of SQL queries: a query after the check that the database is
-- open, and consecutive queries.
use Rattle.std.proofs.Common.{◌≡◌, ◌⊎◌, inl, inr, false, Ok, Err, Result, IfOk, IsErrAnd, IsTrue, refl, sym, subst, ◌∙◌, arith}
use Rattle.sqlite.specs.Store.{Ghosts}
use Rattle.sqlite.specs.Held.{Held, state}
use Rattle.sqlite.specs.State.{HasCleanDisk, KeepsCommit, Survives}
use Rattle.sqlite.specs.declared.error.Error.{Error}
use Rattle.store_tables.specs.declared.faults.RowFault.{RowFault}
use Rattle.store_tables.specs.declared.faults.RowFault.TheVariants.{Sql}
use Rattle.store_tables.specs.Failing.{IsStoreError, IsFault, want_of_memory}
use Rattle.store_tables.specs.Content.{Content, AreTables}
use Rattle.store_tables.specs.Asking.{Asks}
use Rattle.store_tables.proofs.Failures.{still_goes, goes_then, went_on, later_fault, on_err}
use Rattle.store_tables.proofs.StepLemmas.{kept_then}
use Rattle.table_audit.specs.Looking.{HoldsTables, OnlyLooks, Finds}

-- Lemmas that consecutive SQL queries leave the committed tables unchanged.

module _ {S : Type 0} (g : Ghosts S) where
  pub holds_on : (old new : Held S) (content : Content) → OnlyLooks g old new → HoldsTables g old content → HoldsTables g new content
  unfolding HoldsTables
  holds_on old new content looks holds clean is_open =
      let k = looks.kept content holds clean in
      subst (λ d. AreTables d content) (sym (k.committed is_open)) (holds (looks.clean clean) (k.was_open is_open))

  pub looks_then : (a b c : Held S) → OnlyLooks g a b → OnlyLooks g b c → OnlyLooks g a c
  looks_then a b c p q = record {
    clean = λ clean. p.clean (q.clean clean);
    mode = λ idle. q.mode (p.mode idle);
    kept = λ content holds clean. kept_then (state g a) (state g b) (state g c) (p.kept content holds (q.clean clean)) (q.kept content (holds_on a b content p holds) clean);
    left = λ content holds clean trees left. p.left content holds (q.clean clean) trees (q.left content (holds_on a b content p holds) clean trees left);
    goes = λ content holds clean. goes_then (state g a) (state g b) (state g c) (p.goes content holds (q.clean clean)) (q.goes content (holds_on a b content p holds) clean);
  }

-- Lemmas on the contract of an SQL query that follows the check that the database is open.

-- The effect of a successful check that the database is open: later queries see exactly the
-- committed rows.
pub record Touched {S : Type 0} (g : Ghosts S) (old mid : Held S) : Type 0 where
  pub mode : mid.in_transaction ≡ false
  pub opened : HasCleanDisk (state g mid) → IsTrue (state g mid).is_open × ((state g mid).now ≡ (state g mid).committed)
  pub kept : HasCleanDisk (state g mid) → KeepsCommit (state g old) (state g mid)
  pub survives : Survives (state g old) (state g mid) (λ _. ⊥)

left_or_none : {P : Type 0} → P ⊎ ⊥ → P
left_or_none (inl p) = p
left_or_none (inr none) = absurd none

module _ {S : Type 0} (g : Ghosts S) (old mid : Held S) where
  only_touched : mid.in_transaction ≡ false → (HasCleanDisk (state g mid) → KeepsCommit (state g old) (state g mid)) → Survives (state g old) (state g mid) (λ _. ⊥) → OnlyLooks g old mid
  only_touched mode kept survives = record {
    clean = λ clean. omega (arith, survives.clean);
    mode = λ idle. mode;
    kept = λ content holds clean. kept clean;
    left = λ content holds clean trees left. left_or_none (survives.crash clean trees left);
    goes = λ content holds clean. went_on (state g old) (state g mid) (λ _. ⊥) clean survives;
  }

  -- Suppose that the check that the database is open fails, and that the function returns this
  -- error instead of running a query. Then the function satisfies the contract of a query.
  pub not_touched : {A : Type 0} (e : Error) (r : Result A RowFault) (Says : Content → A → Type 0)
      → mid.in_transaction ≡ false → (HasCleanDisk (state g mid) → KeepsCommit (state g old) (state g mid)) → Survives (state g old) (state g mid) (λ _. ⊥)
      → (HasCleanDisk (state g mid) → IsStoreError (state g old) (state g mid) e) → IsErrAnd r (λ d. d ≡ Sql e) → Finds g old mid r Says
  not_touched e (Ok a) Says mode kept survives why fails = absurd fails
  not_touched e (Err d) Says mode kept survives why fails = record {
    answer = λ content holds clean. tt;
    fault = λ content holds clean. subst (IsFault (state g old) (state g mid) (Unit {0})) (sym fails) (why clean);
    looks = only_touched mode kept survives;
  }

  module _ (touched : Touched g old mid) where
    looks_touched : OnlyLooks g old mid
    looks_touched = only_touched touched.mode touched.kept touched.survives

    seen : (content : Content) → HoldsTables g old content → HasCleanDisk (state g mid) → AreTables (state g mid).now content
    unfolding HoldsTables
    seen content holds clean =
        let opened = touched.opened clean in
        let k = touched.kept clean in
        let early : HasCleanDisk (state g old) = omega (arith, touched.survives.clean) in
        subst (λ d. AreTables d content) (sym (opened.1 ∙ k.committed opened.0)) (holds early (k.was_open opened.0))

    module _ (new : Held S) (asks : Asks g mid new) where
      looks_asked : OnlyLooks g old new
      looks_asked =
          let first = looks_touched in
          record {
            clean = λ clean. first.clean (asks.clean clean);
            mode = λ idle. asks.mode touched.mode;
            kept = λ content holds clean.
                let s = seen content holds (asks.clean clean) in
                kept_then (state g old) (state g mid) (state g new) (touched.kept (asks.clean clean)) (asks.kept clean content s);
            left = λ content holds clean trees left.
                let s = seen content holds (asks.clean clean) in
                first.left content holds (asks.clean clean) trees (left_or_none ((asks.survives content s).crash clean trees left));
            goes = λ content holds clean.
                let s = seen content holds (asks.clean clean) in
                goes_then (state g old) (state g mid) (state g new) (first.goes content holds (asks.clean clean)) (went_on (state g mid) (state g new) (λ _. ⊥) clean (asks.survives content s));
          }

      -- If the check that the database is open succeeds, and a query then succeeds, the query's
      -- result is true of the committed tables.
      pub asked : {A : Type 0} (a : A) (Says : Content → A → Type 0)
          → (HasCleanDisk (state g new) → (content : Content) → AreTables (state g mid).now content → Says content a)
          → Finds g old new (Ok a) Says
      asked a Says reports = record {
        answer = λ content holds clean. reports clean content (seen content holds (asks.clean clean));
        fault = λ content holds clean. tt;
        looks = looks_asked;
      }

      -- If the check that the database is open succeeds, and a query then fails, the query's error
      -- has a permitted cause, such as out of memory or a failed disk.
      pub not_asked : {A : Type 0} (e : Error) (r : Result A RowFault) (Says : Content → A → Type 0)
          → (HasCleanDisk (state g new) → (content : Content) → AreTables (state g mid).now content → IsStoreError (state g mid) (state g new) e)
          → IsErrAnd r (λ d. d ≡ Sql e) → Finds g old new r Says
      not_asked e (Ok a) Says why fails = absurd fails
      not_asked e (Err d) Says why fails = record {
        answer = λ content holds clean. tt;
        fault = λ content holds clean.
            let s = seen content holds (asks.clean clean) in
            subst (IsFault (state g old) (state g new) (Unit {0})) (sym fails)
            (later_fault (state g old) (state g mid) (state g new) (Unit {0}) (Sql e) (looks_touched.goes content holds (asks.clean clean)) (asks.survives content s).counts (why clean content s));
        looks = looks_asked;
      }

-- Lemmas that combine the contracts of two consecutive queries.

both_ok : {B : Type 0} {P Q : B → Type 0} (r : Result B RowFault) → ((b : B) → P b → Q b) → IfOk r P → IfOk r Q
both_ok (Ok b) f h = f b h
both_ok (Err e) f h = tt

-- If two consecutive queries succeed, no commit changes the tables between them: both results are
-- those of the same committed tables.
pub finds_then : {S A B : Type 0} (g : Ghosts S) (old mid new : Held S) (a : A) (r : Result B RowFault) (P : Content → A → Type 0) (Q R : Content → B → Type 0)
    → Finds g old mid (Ok a) P → Finds g mid new r Q → ((content : Content) (b : B) → P content a → Q content b → R content b) → Finds g old new r R
finds_then g old mid new a r P Q R one two reports = record {
  answer = λ content holds clean.
      let first = one.answer content holds (two.looks.clean clean) in
      both_ok r (λ b h. reports content b first h) (two.answer content (holds_on g old mid content one.looks holds) clean);
  fault = λ content holds clean.
      let held = holds_on g old mid content one.looks holds in
      on_err r (λ f why. later_fault (state g old) (state g mid) (state g new) (Unit {0}) f (one.looks.goes content holds (two.looks.clean clean)) (two.looks.goes content held clean).faults why) (two.fault content held clean);
  looks = looks_then g old mid new one.looks two.looks;
}

-- If the first of two queries fails, and the function that runs both returns the error of this
-- query, then the function satisfies the contract of a query.
pub passed_on : {S A B : Type 0} (g : Ghosts S) (old new : Held S) (e : RowFault) (r : Result B RowFault) (P : Content → A → Type 0) (Q : Content → B → Type 0)
    → Finds g old new (Err e) P → IsErrAnd r (λ d. d ≡ e) → Finds g old new r Q
passed_on g old new e (Ok b) P Q one fails = absurd fails
passed_on g old new e (Err d) P Q one fails = record {
  answer = λ content holds clean. tt;
  fault = λ content holds clean. subst (IsFault (state g old) (state g new) (Unit {0})) (sym fails) (one.fault content holds clean);
  looks = one.looks;
}

-- Suppose that the statement Q about a value follows from the statement P about a query's result.
-- If the query satisfies its contract with P, then returning this value satisfies the contract with
-- Q.
pub made : {S A B : Type 0} (g : Ghosts S) (old new : Held S) (a : A) (b : B) (P : Content → A → Type 0) (Q : Content → B → Type 0)
    → Finds g old new (Ok a) P → ((content : Content) → P content a → Q content b) → Finds g old new (Ok b) Q
made g old new a b P Q one reports = record {
  answer = λ content holds clean. reports content (one.answer content holds clean);
  fault = λ content holds clean. tt;
  looks = one.looks;
}

-- Lemmas that a call satisfies the contract of a query if it runs no query, or if memory runs out
-- during the call.

module _ {S : Type 0} (g : Ghosts S) (held : Held S) where
  not_looked : OnlyLooks g held held
  not_looked = record {
    clean = λ clean. clean;
    mode = λ idle. idle;
    kept = λ content holds clean. record { was_open = λ is. is; committed = λ is. refl };
    left = λ content holds clean trees left. left;
    goes = λ content holds clean. still_goes (state g held);
  }

  pub known : {A : Type 0} (a : A) (Says : Content → A → Type 0) → ((content : Content) → Says content a) → Finds g held held (Ok a) Says
  known a Says says = record {
    answer = λ content holds clean. says content;
    fault = λ content holds clean. tt;
    looks = not_looked;
  }

  pub not_begun : {A : Type 0} (r : Result A RowFault) (Says : Content → A → Type 0) → IsErrAnd r (λ d. d ≡ Sql want_of_memory) → Finds g held held r Says
  not_begun (Ok a) Says fails = absurd fails
  not_begun (Err d) Says fails = record {
    answer = λ content holds clean. tt;
    fault = λ content holds clean. subst (IsFault (state g held) (state g held) (Unit {0})) (sym fails) (inl refl);
    looks = not_looked;
  }

-- If memory runs out after a successful query, then returning the out-of-memory error satisfies the
-- contract of a query.
pub cut_off : {S A B : Type 0} (g : Ghosts S) (old new : Held S) (a : A) (P : Content → A → Type 0) (Q : Content → B → Type 0)
    → Finds g old new (Ok a) P → Finds g old new (Err (Sql want_of_memory)) Q
cut_off g old new a P Q one = record {
  answer = λ content holds clean. tt;
  fault = λ content holds clean. inl refl;
  looks = one.looks;
}

-- If memory runs out after a successful query, then passing on this error satisfies the contract of
-- a query.
pub cut_off_by : {S A B : Type 0} (g : Ghosts S) (old new : Held S) (a : A) (e : RowFault) (r : Result B RowFault) (P : Content → A → Type 0) (Q : Content → B → Type 0)
    → Finds g old new (Ok a) P → e ≡ Sql want_of_memory → IsErrAnd r (λ d. d ≡ e) → Finds g old new r Q
cut_off_by g old new a e r P Q one is fails =
    passed_on g old new e r Q Q (subst (λ (x : RowFault). Finds g old new (Err x) Q) (sym is) (cut_off g old new a P Q one)) fails
