-- Proofs that a look-up (a query for records) returns the answer that follows from the store's
-- records, or a permitted error. It first checks that the database is open, and then runs one or
-- more queries.
use Rattle.std.proofs.Common.{◌≡◌, ◌⊎◌, inl, inr, ℕ, List, false, Ok, Err, Result, IfOk, IfErr, OnOk, IsErrAnd, IsTrue, refl, sym, subst, ◌∙◌, arith}
use Rattle.std.specs.List.{AllByRecursion}
use Rattle.sqlite.specs.Order.{Row}
use Rattle.sqlite.specs.Tree.{Trees}
use Rattle.sqlite.specs.Store.{Ghosts}
use Rattle.sqlite.specs.Held.{Held, state}
use Rattle.sqlite.specs.State.{HasCleanDisk, KeepsCommit, Survives}
use Rattle.sqlite.specs.declared.error.Error.{Error}
use Rattle.office_events.specs.declared.facts.Fact.{Fact}
use Rattle.office_books.specs.Lawful.{AreLawful}
use Rattle.store_tables.specs.declared.faults.RowFault.{RowFault}
use Rattle.store_tables.specs.declared.faults.RowFault.TheVariants.{Sql}
use Rattle.store_tables.specs.Failing.{IsStoreError, IsFault}
use Rattle.store_tables.proofs.Failures.{goes_then, still_goes, went_on, later_fault, less_fault, on_err}
use Rattle.store_tables.specs.Content.{Content, AreTables, HasRows}
use Rattle.store_tables.specs.Asking.{Asks, LooksUp}
use Rattle.store_tables.proofs.StepLemmas.{kept_then}
use Rattle.office_store.specs.Tables.{AreOf}
use Rattle.office_store.specs.Holding.{HasFacts, HoldsFacts, OnlyLooks}
use Rattle.office_store.specs.Finding.Finding.{Finds, OfLawful}

-- Lemmas that a look-up (a query for records) changes no record, so a second look-up sees the same
-- records.

module _ {S : Type 0} (g : Ghosts S) (zone : List ℕ) where
  pub holds_on : (old new : Held S) (facts : List Fact) → OnlyLooks g zone old new → HoldsFacts g zone old facts → HoldsFacts g zone new facts
  unfolding HoldsFacts
  holds_on old new facts looks holds clean is_open =
      let k = looks.kept facts holds clean in
      subst (HasFacts zone facts) (sym (k.committed is_open)) (holds (looks.clean clean) (k.was_open is_open))

  pub looks_then : (a b c : Held S) → OnlyLooks g zone a b → OnlyLooks g zone b c → OnlyLooks g zone a c
  looks_then a b c p q = record {
    clean = λ clean. p.clean (q.clean clean);
    mode = λ idle. q.mode (p.mode idle);
    kept = λ facts holds clean. kept_then (state g a) (state g b) (state g c) (p.kept facts holds (q.clean clean)) (q.kept facts (holds_on a b facts p holds) clean);
    left = λ facts holds clean trees left. p.left facts holds (q.clean clean) trees (q.left facts (holds_on a b facts p holds) clean trees left);
    goes = λ facts holds clean. goes_then (state g a) (state g b) (state g c) (p.goes facts holds (q.clean clean)) (q.goes facts (holds_on a b facts p holds) clean);
  }

  pub stays : (a : Held S) → OnlyLooks g zone a a
  stays a = record {
    clean = λ clean. clean;
    mode = λ idle. idle;
    kept = λ facts holds clean. record { was_open = λ still. still; committed = λ still. refl };
    left = λ facts holds clean trees left. left;
    goes = λ facts holds clean. still_goes (state g a);
  }

-- Lemmas: after the check that the database is open succeeded, a query sees the committed rows. The
-- look-up's contract allows the query's answer or error.

-- The state of a connection after the check that the database is open succeeded. Queries then see
-- the committed rows.
pub record Touched {S : Type 0} (g : Ghosts S) (old mid : Held S) : Type 0 where
  pub mode : mid.in_transaction ≡ false
  pub opened : HasCleanDisk (state g mid) → IsTrue (state g mid).is_open × ((state g mid).now ≡ (state g mid).committed)
  pub kept : HasCleanDisk (state g mid) → KeepsCommit (state g old) (state g mid)
  pub survives : Survives (state g old) (state g mid) (λ _. ⊥)

-- True if the tables that the queries of a connection see encode the given records.
pub record HasSeen {S : Type 0} (g : Ghosts S) (zone : List ℕ) (mid : Held S) (facts : List Fact) : Type 0 where
  pub content : Content
  pub tables : AreTables (state g mid).now content
  pub are : AreOf zone facts content

-- True if every answer that follows from the rows of a table also follows from the store's records.
-- If the records' values are in their ranges, the values in these rows are in their ranges too.
pub record IsReported {A X : Type 0} (facts : List Fact) (content : Content) (tree : ℕ) (columns : X → Row) (IsSound : X → Type 0) (Answers : List X → A → Type 0) (Says : List Fact → A → Type 0) (AreSound : List Fact → Type 0) : Type 0 where
  pub rows : List X
  pub there : HasRows tree columns rows content
  pub reports : (a : A) → Answers rows a → Says facts a
  pub sound : AreSound facts → AllByRecursion IsSound rows

weaker_ok : {A : Type 0} (P Q : A → Type 0) (r : Result A RowFault) → ((a : A) → P a → Q a) → IfOk r P → IfOk r Q
weaker_ok P Q (Ok a) f h = f a h
weaker_ok P Q (Err e) f h = tt

lawfully : {A : Type 0} {P : Type 0} (Q : A → Type 0) (r : Result A RowFault) → P → IfOk r Q → IfOk r (λ a. P × Q a)
lawfully Q (Ok a) p q = (p, q)
lawfully Q (Err e) p q = tt

left_or_none : {P : Type 0} → P ⊎ ⊥ → P
left_or_none (inl p) = p
left_or_none (inr none) = absurd none

module _ {S : Type 0} (g : Ghosts S) (old mid : Held S) where
  pub only_touched : (zone : List ℕ) → mid.in_transaction ≡ false → (HasCleanDisk (state g mid) → KeepsCommit (state g old) (state g mid)) → Survives (state g old) (state g mid) (λ _. ⊥) → OnlyLooks g zone old mid
  only_touched zone mode kept survives = record {
    clean = λ clean. omega (arith, survives.clean);
    mode = λ idle. mode;
    kept = λ facts holds clean. kept clean;
    left = λ facts holds clean trees left. left_or_none (survives.crash clean trees left);
    goes = λ facts holds clean. went_on (state g old) (state g mid) (λ _. ⊥) clean survives;
  }

  -- If the check that the database is open fails, the look-up returns the error of the check and
  -- runs no query.
  pub not_touched : {A : Type 0} (e : Error) (r : Result A RowFault) (Says : List Fact → A → Type 0) (AreSound : List Fact → Type 0)
      → mid.in_transaction ≡ false → (HasCleanDisk (state g mid) → KeepsCommit (state g old) (state g mid)) → Survives (state g old) (state g mid) (λ _. ⊥)
      → (HasCleanDisk (state g mid) → IsStoreError (state g old) (state g mid) e) → IsErrAnd r (λ d. d ≡ Sql e) → Finds g old mid r Says AreSound
  not_touched e (Ok a) Says AreSound mode kept survives why fails = absurd fails
  not_touched e (Err d) Says AreSound mode kept survives why fails = record {
    answer = λ zone facts holds clean. tt;
    fault = λ zone facts holds clean. subst (IsFault (state g old) (state g mid) (AreSound facts)) (sym fails) (why clean);
    looks = λ zone. only_touched zone mode kept survives;
  }

  module _ (touched : Touched g old mid) where
    pub looks_touched : (zone : List ℕ) → OnlyLooks g zone old mid
    looks_touched zone = only_touched zone touched.mode touched.kept touched.survives

    pub seen : (zone : List ℕ) (facts : List Fact) → HoldsFacts g zone old facts → HasCleanDisk (state g mid) → HasSeen g zone mid facts
    unfolding HoldsFacts
    seen zone facts holds clean =
        let opened = touched.opened clean in
        let k = touched.kept clean in
        let early : HasCleanDisk (state g old) = omega (arith, touched.survives.clean) in
        let has = holds early (k.was_open opened.0) in
        record {
          content = has.content;
          tables = subst (λ d. AreTables d has.content) (sym (opened.1 ∙ k.committed opened.0)) has.tables;
          are = has.are;
        }

    module _ (new : Held S) (asks : Asks g mid new) where
      pub looks_asked : (zone : List ℕ) → OnlyLooks g zone old new
      looks_asked zone =
          let first = looks_touched zone in
          record {
            clean = λ clean. first.clean (asks.clean clean);
            mode = λ idle. asks.mode touched.mode;
            kept = λ facts holds clean.
                let s = seen zone facts holds (asks.clean clean) in
                kept_then (state g old) (state g mid) (state g new) (touched.kept (asks.clean clean)) (asks.kept clean s.content s.tables);
            left = λ facts holds clean trees left.
                let s = seen zone facts holds (asks.clean clean) in
                first.left facts holds (asks.clean clean) trees (left_or_none ((asks.survives s.content s.tables).crash clean trees left));
            goes = λ facts holds clean.
                let s = seen zone facts holds (asks.clean clean) in
                goes_then (state g old) (state g mid) (state g new) (first.goes facts holds (asks.clean clean)) (went_on (state g mid) (state g new) (λ _. ⊥) clean (asks.survives s.content s.tables));
          }

      -- If a contract permits an error for a query, it also permits this error for a call that
      -- makes the query after the check that the database is open.
      pub since : (zone : List ℕ) (facts : List Fact) → HoldsFacts g zone old facts → HasCleanDisk (state g new) → (Sound : Type 0) (f : RowFault) → IsFault (state g mid) (state g new) Sound f → IsFault (state g old) (state g new) Sound f
      since zone facts holds clean Sound f why =
          let s = seen zone facts holds (asks.clean clean) in
          later_fault (state g old) (state g mid) (state g new) Sound f ((looks_touched zone).goes facts holds (asks.clean clean)) (asks.survives s.content s.tables).counts why

      -- If a query returns Ok after the check that the database is open, the contract of the
      -- look-up (the query for records) allows the query's answer.
      pub asked : {A : Type 0} (a : A) (Says : List Fact → A → Type 0) (AreSound : List Fact → Type 0)
          → (HasCleanDisk (state g new) → (content : Content) → AreTables (state g mid).now content → (zone : List ℕ) (facts : List Fact) → AreOf zone facts content → Says facts a)
          → Finds g old new (Ok a) Says AreSound
      asked a Says AreSound reports = record {
        answer = λ zone facts holds clean. let s = seen zone facts holds (asks.clean clean) in reports clean s.content s.tables zone facts s.are;
        fault = λ zone facts holds clean. tt;
        looks = looks_asked;
      }

      -- If a look-up (a function that queries the store) has checked that the database is open, and
      -- its query then fails, the look-up returns the error of the query.
      pub not_asked : {A : Type 0} (e : Error) (r : Result A RowFault) (Says : List Fact → A → Type 0) (AreSound : List Fact → Type 0)
          → (HasCleanDisk (state g new) → (content : Content) → AreTables (state g mid).now content → (zone : List ℕ) (facts : List Fact) → AreOf zone facts content → IsStoreError (state g mid) (state g new) e)
          → IsErrAnd r (λ d. d ≡ Sql e) → Finds g old new r Says AreSound
      not_asked e (Ok a) Says AreSound why fails = absurd fails
      not_asked e (Err d) Says AreSound why fails = record {
        answer = λ zone facts holds clean. tt;
        fault = λ zone facts holds clean.
            let s = seen zone facts holds (asks.clean clean) in
            subst (IsFault (state g old) (state g new) (AreSound facts)) (sym fails) (since zone facts holds clean (AreSound facts) (Sql e) (why clean s.content s.tables zone facts s.are));
        looks = looks_asked;
      }

    -- If a function checks that the database is open and then queries one table, it satisfies the
    -- contract of a look-up, a query for records.
    pub looked_up : {A X : Type 0} (new : Held S) (tree : ℕ) (columns : X → Row) (IsSound : X → Type 0) (r : Result A RowFault) (Answers : List X → A → Type 0)
        → LooksUp g mid new tree columns IsSound r Answers → (stored : List Fact → List X)
        → ((zone : List ℕ) (facts : List Fact) (content : Content) → AreOf zone facts content → HasRows tree columns (stored facts) content)
        → Finds g old new r (OfLawful (λ facts. Answers (stored facts))) (λ facts. AllByRecursion IsSound (stored facts))
    looked_up new tree columns IsSound r Answers it stored rows = record {
      answer = λ zone facts holds clean.
          let s = seen zone facts holds (it.asks.clean clean) in
          lawfully _ r s.are.lawful (it.answer clean s.content s.tables (stored facts) (rows zone facts s.content s.are));
      fault = λ zone facts holds clean.
          let s = seen zone facts holds (it.asks.clean clean) in
          on_err r (λ f why. since new it.asks zone facts holds clean (AllByRecursion IsSound (stored facts)) f why) (it.fault clean s.content s.tables (stored facts) (rows zone facts s.content s.are));
      looks = looks_asked new it.asks;
    }

    -- If the rows of one table determine an answer about the store's records, the query of this
    -- table returns the answer of the look-up.
    pub reported_of : {A X : Type 0} (new : Held S) (tree : ℕ) (columns : X → Row) (IsSound : X → Type 0) (r : Result A RowFault) (Answers : List X → A → Type 0)
        → LooksUp g mid new tree columns IsSound r Answers → (Says : List Fact → A → Type 0) (AreSound : List Fact → Type 0)
        → ((zone : List ℕ) (facts : List Fact) (content : Content) → AreOf zone facts content → IsReported facts content tree columns IsSound Answers Says AreSound)
        → Finds g old new r Says AreSound
    reported_of new tree columns IsSound r Answers it Says AreSound reported = record {
      answer = λ zone facts holds clean.
          let s = seen zone facts holds (it.asks.clean clean) in
          let t = reported zone facts s.content s.are in
          weaker_ok (Answers t.rows) (Says facts) r t.reports (it.answer clean s.content s.tables t.rows t.there);
      fault = λ zone facts holds clean.
          let s = seen zone facts holds (it.asks.clean clean) in
          let t = reported zone facts s.content s.are in
          on_err r (λ f why. less_fault (state g old) (state g new) (AreSound facts) (AllByRecursion IsSound t.rows) f t.sound (since new it.asks zone facts holds clean (AllByRecursion IsSound t.rows) f why))
          (it.fault clean s.content s.tables t.rows t.there);
      looks = looks_asked new it.asks;
    }

    -- If a look-up (a query for records) runs no query after the check that the database is open,
    -- its answer satisfies the look-up's contract.
    pub seen_alone : {A : Type 0} (a : A) (Says : List Fact → A → Type 0) (AreSound : List Fact → Type 0) → ((facts : List Fact) → AreLawful facts → Says facts a) → Finds g old mid (Ok a) Says AreSound
    seen_alone a Says AreSound reports = record {
      answer = λ zone facts holds clean. reports facts (seen zone facts holds clean).are.lawful;
      fault = λ zone facts holds clean. tt;
      looks = looks_touched;
    }
