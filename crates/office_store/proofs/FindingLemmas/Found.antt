-- Proofs that combine the answers of several queries into the answer of a look-up, a function that
-- runs the queries in sequence.
use Rattle.std.proofs.Common.{◌≡◌, ℕ, List, map, Ok, Err, Result, IfOk, IfErr, IsErrAnd, refl, sym, subst, ◌∙◌, arith}
use Rattle.std.specs.List.{AllByRecursion}
use Rattle.sqlite.specs.Order.{Row}
use Rattle.sqlite.specs.Store.{Ghosts}
use Rattle.sqlite.specs.Held.{Held, state}
use Rattle.sqlite.specs.State.{HasCleanDisk}
use Rattle.office_events.specs.declared.facts.Fact.{Fact}
use Rattle.office_books.specs.Lawful.{AreLawful}
use Rattle.store_tables.specs.declared.faults.RowFault.{RowFault}
use Rattle.store_tables.specs.declared.faults.RowFault.TheVariants.{Sql, Damaged}
use Rattle.store_tables.specs.Failing.{IsFault, IsRowFault}
use Rattle.store_tables.proofs.Failures.{row_fault, later_fault, less_fault, on_err}
use Rattle.office_store.specs.Holding.{HoldsFacts, OnlyLooks}
use Rattle.office_store.specs.Finding.Each.{AreEach}
use Rattle.office_store.specs.Finding.Finding.{Finds, ReadsAll}
use Rattle.office_store.proofs.FindingLemmas.Looking.{holds_on, looks_then, stays}

module _ {S : Type 0} (g : Ghosts S) (old new : Held S) where
  -- If the answer of a look-up (a query for records) satisfies a statement about the store's
  -- records, it also satisfies every weaker statement.
  pub answered : {A B : Type 0} (a : A) (b : B) (P : List Fact → A → Type 0) (Q : List Fact → B → Type 0) (s t : List Fact → Type 0)
      → Finds g old new (Ok a) P s → ((facts : List Fact) → P facts a → Q facts b) → Finds g old new (Ok b) Q t
  answered a b P Q s t one reports = record {
    answer = λ zone facts holds clean. reports facts (one.answer zone facts holds clean);
    fault = λ zone facts holds clean. tt;
    looks = one.looks;
  }

  pub become : {A : Type 0} (o a : A) (P : List Fact → A → Type 0) (s : List Fact → Type 0) → o ≡ a → Finds g old new (Ok o) P s → Finds g old new (Ok a) P s
  become o a P s is one = subst (λ x. Finds g old new (Ok x) P s) is one

  -- The contract of a look-up (a query for records) says when it may report `Damaged`. If a look-up
  -- satisfies the contract, it also satisfies the contract that permits `Damaged` in more cases.
  pub less_reported : {A : Type 0} (r : Result A RowFault) (P : List Fact → A → Type 0) (s t : List Fact → Type 0) → ((facts : List Fact) → t facts → s facts) → Finds g old new r P s → Finds g old new r P t
  less_reported r P s t weaker one = record {
    answer = one.answer;
    fault = λ zone facts holds clean. on_err r (λ f why. less_fault (state g old) (state g new) (t facts) (s facts) f (weaker facts) why) (one.fault zone facts holds clean);
    looks = one.looks;
  }

  -- If the query of a look-up fails, the contract permits the look-up to return the error of the
  -- query.
  pub passed_on : {A B : Type 0} (e : RowFault) (r : Result B RowFault) (P : List Fact → A → Type 0) (Q : List Fact → B → Type 0) (s t : List Fact → Type 0)
      → Finds g old new (Err e) P s → ((facts : List Fact) → t facts → s facts) → IsErrAnd r (λ d. d ≡ e) → Finds g old new r Q t
  passed_on e (Ok b) P Q s t one weaker fails = absurd fails
  passed_on e (Err d) P Q s t one weaker fails = record {
    answer = λ zone facts holds clean. tt;
    fault = λ zone facts holds clean.
        subst (IsFault (state g old) (state g new) (t facts)) (sym fails) (less_fault (state g old) (state g new) (t facts) (s facts) e (weaker facts) (one.fault zone facts holds clean));
    looks = one.looks;
  }

  -- A query of a look-up (a function that queries the store) can return a value that can't be
  -- converted, because a record has a value out of its range. Then the look-up's contract permits
  -- it to report the failed conversion.
  pub unread : {A B : Type 0} (a : A) (e : RowFault) (r : Result B RowFault) (P : List Fact → A → Type 0) (Q : List Fact → B → Type 0) (s t : List Fact → Type 0)
      → Finds g old new (Ok a) P s → ((facts : List Fact) → P facts a → IsRowFault (t facts) e) → IsErrAnd r (λ d. d ≡ e) → Finds g old new r Q t
  unread a e (Ok b) P Q s t one fair fails = absurd fails
  unread a e (Err d) P Q s t one fair fails = record {
    answer = λ zone facts holds clean. tt;
    fault = λ zone facts holds clean.
        subst (IsFault (state g old) (state g new) (t facts)) (sym fails) (row_fault (state g old) (state g new) (t facts) (t facts) e (λ is. is) (fair facts (one.answer zone facts holds clean)));
    looks = one.looks;
  }

  -- If a query returns rows, and a reader converts each row to a value, the look-up (the query for
  -- records) may answer with the list of these values.
  pub rows_read : {A T U X : Type 0} (found : U) (rows : List Row) (shown : X → Row) (IsSeen : X → A → Type 0) (IsSound : X → Type 0) (items : T → List A) (r : Result T RowFault)
      (stored : List Fact → List X) (P : List Fact → U → Type 0) (Q : List Fact → T → Type 0) (s t : List Fact → Type 0)
      → Finds g old new (Ok found) P s → ReadsAll rows shown IsSeen IsSound items r → ((facts : List Fact) → P facts found → rows ≡ map shown (stored facts))
      → ((facts : List Fact) → t facts → AllByRecursion IsSound (stored facts))
      → ((facts : List Fact) (v : T) → P facts found → AreEach IsSeen (stored facts) (items v) → Q facts v)
      → Finds g old new r Q t
  rows_read found rows shown IsSeen IsSound items (Ok v) stored P Q s t one reads are sound same = record {
    answer = λ zone facts holds clean. let p = one.answer zone facts holds clean in same facts v p (reads.read (stored facts) (are facts p));
    fault = λ zone facts holds clean. tt;
    looks = one.looks;
  }
  rows_read found rows shown IsSeen IsSound items (Err e) stored P Q s t one reads are sound same = record {
    answer = λ zone facts holds clean. tt;
    fault = λ zone facts holds clean.
        row_fault (state g old) (state g new) (t facts) (AllByRecursion IsSound (stored facts)) e (sound facts) (reads.fault (stored facts) (are facts (one.answer zone facts holds clean)));
    looks = one.looks;
  }

-- If a look-up (a query for records) runs no query on the database, the database stays unchanged.
pub not_asked : {S A : Type 0} (g : Ghosts S) (old : Held S) (r : Result A RowFault) (P : List Fact → A → Type 0) (s : List Fact → Type 0)
    → ((zone : List ℕ) (facts : List Fact) → IfOk r (P facts)) → ((facts : List Fact) → IfErr r (IsRowFault (s facts))) → Finds g old old r P s
not_asked g old r P s reports fair = record { answer = λ zone facts holds clean. reports zone facts; fault = λ zone facts holds clean. on_err r (λ f why. row_fault (state g old) (state g old) (s facts) (s facts) f (λ is. is) why) (fair facts); looks = λ zone. stays g zone old }

-- If a result satisfies a postcondition on `Ok`, it also satisfies any postcondition that follows
-- from this one.
both_ok : {B : Type 0} {P Q : B → Type 0} (r : Result B RowFault) → ((b : B) → P b → Q b) → IfOk r P → IfOk r Q
both_ok (Ok b) f h = f b h
both_ok (Err e) f h = tt

pub finds_then : {S A B : Type 0} (g : Ghosts S) (old mid new : Held S) (a : A) (r : Result B RowFault) (P : List Fact → A → Type 0) (Q : List Fact → B → Type 0) (s t : List Fact → Type 0)
    → Finds g old mid (Ok a) P s → Finds g mid new r Q t → Finds g old new r (λ facts b. P facts a × Q facts b) t
finds_then g old mid new a r P Q s t one two = record {
  answer = λ zone facts holds clean.
      let first = one.answer zone facts holds ((two.looks zone).clean clean) in
      both_ok r (λ b h. (first, h)) (two.answer zone facts (holds_on g zone old mid facts (one.looks zone) holds) clean);
  fault = λ zone facts holds clean.
      let early = (two.looks zone).clean clean in
      let held = holds_on g zone old mid facts (one.looks zone) holds in
      on_err r (λ f why. later_fault (state g old) (state g mid) (state g new) (t facts) f ((one.looks zone).goes facts holds early) ((two.looks zone).goes facts held clean).faults why) (two.fault zone facts held clean);
  looks = λ zone. looks_then g zone old mid new (one.looks zone) (two.looks zone);
}

-- If a name is not UTF-8, a look-up (a function that queries the store) of a record by this name
-- returns an error and runs no query.
pub unnamed : {S A : Type 0} (g : Ghosts S) (old : Held S) (e : RowFault) (r : Result A RowFault) (P : List Fact → A → Type 0) (Named : Type 0) (s : List Fact → Type 0)
    → ((facts : List Fact) → s facts → Named) → (e ≡ Damaged) × (¬ Named) → IsErrAnd r (λ d. d ≡ e) → Finds g old old r P s
unnamed g old e (Ok a) P Named s named none fails = absurd fails
unnamed g old e (Err d) P Named s named none fails = record {
  answer = λ zone facts holds clean. tt;
  fault = λ zone facts holds clean. subst (IsFault (state g old) (state g old) (s facts)) (sym (fails ∙ none.0)) (λ sound. none.1 (named facts sound));
  looks = λ zone. stays g zone old;
}

-- If the second of two queries of a look-up (a function that reads records) fails, the look-up's
-- contract permits it to return the error of this query.
pub fails_then : {S A B C : Type 0} (g : Ghosts S) (old mid new : Held S) (a : A) (e : RowFault) (r : Result C RowFault) (P : List Fact → A → Type 0) (Q : List Fact → B → Type 0) (R : List Fact → C → Type 0) (s t u : List Fact → Type 0)
    → Finds g old mid (Ok a) P s → Finds g mid new (Err e) Q t → ((facts : List Fact) → P facts a → u facts → t facts) → IsErrAnd r (λ d. d ≡ e) → Finds g old new r R u
fails_then g old mid new a e (Ok c) P Q R s t u one two sound fails = absurd fails
fails_then g old mid new a e (Err d) P Q R s t u one two sound fails = record {
  answer = λ zone facts holds clean. tt;
  fault = λ zone facts holds clean.
      let early = (two.looks zone).clean clean in
      let held = holds_on g zone old mid facts (one.looks zone) holds in
      let found = one.answer zone facts holds early in
      let why = later_fault (state g old) (state g mid) (state g new) (t facts) e ((one.looks zone).goes facts holds early) ((two.looks zone).goes facts held clean).faults (two.fault zone facts held clean) in
      subst (IsFault (state g old) (state g new) (u facts)) (sym fails) (less_fault (state g old) (state g new) (u facts) (t facts) e (sound facts found) why);
  looks = λ zone. looks_then g zone old mid new (one.looks zone) (two.looks zone);
}

-- If a second query uses the answer of a first query, both queries in sequence satisfy the contract
-- of one look-up (a query for records).
pub found_then : {S A B : Type 0} (g : Ghosts S) (old mid new : Held S) (a : A) (r : Result B RowFault) (P : List Fact → A → Type 0) (Q R : List Fact → B → Type 0) (s t u : List Fact → Type 0)
    → Finds g old mid (Ok a) P s → Finds g mid new r Q t → ((facts : List Fact) → P facts a → u facts → t facts) → ((facts : List Fact) (b : B) → P facts a → Q facts b → R facts b) → Finds g old new r R u
found_then g old mid new a (Ok b) P Q R s t u one two sound reports =
    answered g old new b b (λ facts x. P facts a × Q facts x) R t u (finds_then g old mid new a (Ok b) P Q s t one two) (λ facts h. reports facts b h.0 h.1)
found_then g old mid new a (Err e) P Q R s t u one two sound reports = fails_then g old mid new a e (Err e) P Q R s t u one two sound refl

-- If a look-up's query returns a value, the look-up returns the converted value, or an error if the
-- value can't be converted.
pub made : {S A C : Type 0} (g : Ghosts S) (old new : Held S) (a : A) (r : Result C RowFault) (P : List Fact → A → Type 0) (R : List Fact → C → Type 0) (s u : List Fact → Type 0)
    → Finds g old new (Ok a) P s → ((facts : List Fact) → P facts a → IfOk r (R facts)) → ((facts : List Fact) → P facts a → IfErr r (IsRowFault (u facts))) → Finds g old new r R u
made g old new a r P R s u one reports fails = record {
  answer = λ zone facts holds clean. reports facts (one.answer zone facts holds clean);
  fault = λ zone facts holds clean. on_err r (λ f why. row_fault (state g old) (state g new) (u facts) (u facts) f (λ is. is) why) (fails facts (one.answer zone facts holds clean));
  looks = one.looks;
}

-- If a look-up (a function that queries the store) reports `Damaged` only because a record has a
-- value out of its range, the contract of the look-up permits this error.
pub if_damaged : {C : Type 0} (Sound : Type 0) (r : Result C RowFault) → IfErr r (λ e. (e ≡ Damaged) × (¬ Sound)) → IfErr r (IsRowFault Sound)
if_damaged Sound (Ok c) h = tt
if_damaged Sound (Err e) h = subst (IsRowFault Sound) (sym h.0) h.1

pub damaged_fault : (Sound : Type 0) (e : RowFault) → (e ≡ Damaged) × (¬ Sound) → IsRowFault Sound e
damaged_fault Sound e h = subst (IsRowFault Sound) (sym h.0) h.1
