-- Proofs that a query of the store fails only for permitted causes, such as out of memory or a
-- failed disk.
use Rattle.std.proofs.Common.{◌≡◌, ◌⊎◌, inl, inr, ℕ, ◌≤◌, List, [], ◌∷◌, length, false, true, Option, Ok, Err, Result, IfOk, IfErr, IsErrAnd, MatchResult, nat_le, IsTrue, IsSome, codes, refl, sym, ap, subst, ◌∙◌, arith, append-nil}
use Rattle.std.proofs.lemmas.Bool.{leb-true, cases_Bool}
use Rattle.sqlite.specs.Order.{Row}
use Rattle.sqlite.specs.declared.error.Error.{Error}
use Rattle.sqlite.specs.declared.error.Error.TheVariants.{SqliteFailure}
use Rattle.sqlite.specs.declared.error.ErrorCode.TheVariants.{OperationInterrupted}
use Rattle.sqlite.specs.Listing.{understood, reads_listing, IsSourceOf}
use Rattle.sqlite.specs.Command.TheVariants.{Select}
use Rattle.sqlite.specs.Effect.{Database, RefusesQuery, RefusesToRead}
use Rattle.sqlite.specs.Program.{overlay}
use Rattle.sqlite.specs.Query.{Query}
use Rattle.sqlite.specs.Term.{Term}
use Rattle.sqlite.specs.Tree.{Trees}
use Rattle.sqlite.specs.Clock.{timed}
use Rattle.sqlite.specs.State.{State, IsNotRun, Fails, HasCause, FailsToQuery, FailsToShow, IsTooLate, HasCleanDisk, Survives}
use Rattle.sqlite_sql.specs.Program.{QueryOverflows}
use Rattle.sqlite_typing.specs.Types.{accepts_program}
use Rattle.sqlite_value.specs.declared.keys.Key.{Key}
use Rattle.sqlite_resolve.specs.declared.compiled.Compiled.{Compiled}
use Rattle.sqlite_resolve.specs.declared.error.CompileError.{CompileError}
use Rattle.sqlite_trees.specs.declared.error.StoreError.{StoreError}
use Rattle.sqlite_trees.specs.declared.error.StoreError.TheVariants.{OutOfMemory, Io, Corrupt, Full, Broken, Unstorable}
use Rattle.sqlite_tied.specs.Compute.{everything}
use Rattle.sqlite.proofs.Callers.{IsPlain, command_of}
use Rattle.sqlite.specs.Schema.{Schema}
use Rattle.store_tables.specs.declared.faults.RowFault.{RowFault}
use Rattle.store_tables.specs.declared.faults.RowFault.TheVariants.{Sql, Damaged}
use Rattle.store_tables.specs.Failing.{HasFailed, IsStoreError, IsFault, IsRowFault, StateAfterCall}
use Rattle.store_tables.proofs.Scans.{scan}

-- True if the SQL text compiles to one complete statement with `count` parameters.
abbrev pub IsWhole : (sql : List ℕ) → (count : ℕ) → Result Compiled CompileError → Type 0
IsWhole sql count (Ok c) = IsTrue (nat_le (length sql) c.tail) × (length c.names ≡ count) × (c.formats ≡ [])
IsWhole sql count (Err e) = ⊥

by_kind : (old new : State) (kind : StoreError) (e : Error) → e ≡ Rattle.sqlite.specs.State.store_error kind → HasCause old new ⊥ kind → IsStoreError old new e
by_kind old new OutOfMemory e is cause = inl is
by_kind old new Io e is cause = inr (inl (inr cause))
by_kind old new Corrupt e is cause = inr (inl (inr cause))
by_kind old new Full e is cause = inr (inl (inr cause))
by_kind old new Broken e is cause = inr (inl (inl cause))
by_kind old new Unstorable e is cause = absurd cause

pub failed_store : (old new : State) (e : Error) → Fails old new ⊥ e → IsStoreError old new e
failed_store old new e h = by_kind old new h.0 e h.1 h.2

pub not_run_fails : (sql : List ℕ) (params : Row) (count : ℕ) (old new : State) (e : Error) → IsWhole sql count (understood old.now.schema sql) → length params ≡ count → IsNotRun old new sql params e → IsStoreError old new e
unfolding IsNotRun
not_run_fails sql params count old new e whole given (inr h) = failed_store old new e h
not_run_fails sql params count old new e whole given (inl (inl h, same)) = absurd (subst (IsWhole sql count) h.1 whole)
not_run_fails sql params count old new e whole given (inl (inr h, same)) =
    let is = subst (IsWhole sql count) h.1 whole in
    absurd (elim h.2 [
      | inl long ↦ long.0 (leb-true _ _ is.0)
      | inr (inl few) ↦ few.0 (given ∙ sym is.1)
      | inr (inr clock) ↦ clock.0 is.2
    ])

pub probe_whole : (schema : Schema) → IsWhole (codes "SELECT 1") 0 (understood schema (codes "SELECT 1"))
unfolding understood everything
probe_whole schema = (refl, refl, refl)

-- If a caller returns the error of a call unchanged, each property of the error also holds for the
-- caller's error.
pub passed : {X E : Type 0} (P : E → Type 0) (e : E) (r : Result X E) → IsErrAnd r (λ d. d ≡ e) → P e → IfErr r P
passed P e (Ok x) fails h = absurd fails
passed P e (Err d) fails h = subst P (sym fails) h

-- Lemmas: a query of the store fails only for a permitted cause, such as out of memory or a failed
-- disk.

-- True if `sql` is a complete SELECT that a database with the schema `schema` can execute with the
-- parameters `params`, without an overflow in any content of the tables.
pub record Suits (schema : Schema) (sql : List ℕ) (params : Row) : Type 0 where
  pub query : Query
  pub names : List (List ℕ)
  pub whole : IsWhole sql (length params) (understood schema sql)
  pub plain : IsPlain (understood schema sql)
  pub unlisted : reads_listing schema sql ≡ false
  pub is : command_of (understood schema sql) ≡ Select (record { lets = []; body = query }) names
  pub typed : accepts_program schema [] query params ≡ true
  pub flows : (db : Trees) → QueryOverflows query (overlay db []) params → ⊥

pub scan_flows : (tree : ℕ) (tests project : List Term) (order : List (Term × Key)) (limit : Term) (params : Row) (db : Trees) → QueryOverflows (scan tree tests project order limit) (overlay db []) params → ⊥
scan_flows tree tests project order limit params db (inl sum) = sum
scan_flows tree tests project order limit params db (inr row) = row.4

pub suits_scan : {schema : Schema} (tree : ℕ) (tests project : List Term) (order : List (Term × Key)) (limit : Term) (sql : List ℕ) (names : List (List ℕ)) (params : Row) → IsWhole sql (length params) (understood schema sql)
    → IsPlain (understood schema sql) → reads_listing schema sql ≡ false → command_of (understood schema sql) ≡ Select (record { lets = []; body = scan tree tests project order limit }) names
    → accepts_program schema [] (scan tree tests project order limit) params ≡ true → Suits schema sql params
suits_scan tree tests project order limit sql names params whole plain unlisted is typed = record {
  query = scan tree tests project order limit;
  names = names;
  whole = whole;
  plain = plain;
  unlisted = unlisted;
  is = is;
  typed = typed;
  flows = scan_flows tree tests project order limit params;
}

refused_query : (schema : Schema) (sql : List ℕ) (params : Row) (suits : Suits schema sql params) (limit : Option ℕ) (db : Database) (e : Error) → db.schema ≡ schema
    → RefusesToRead limit (Select (record { lets = []; body = suits.query }) suits.names) db params e → (e ≡ SqliteFailure OperationInterrupted) × IsSome limit
refused_query schema sql params suits limit db e has (inl mistyped) =
    let typed = subst (λ s. accepts_program s [] suits.query params ≡ true) (sym has) suits.typed in
    absurd (let f = sym typed ∙ mistyped.1 in cc)
refused_query schema sql params suits limit db e has (inr (inl sum)) = absurd (suits.flows db.trees sum.1)
refused_query schema sql params suits limit db e has (inr (inr stopped)) = stopped

module _ (schema : Schema) (sql : List ℕ) (params : Row) (suits : Suits schema sql params) (old new : State) (has : old.now.schema ≡ schema) (e : Error) where
  pub query_fails : FailsToQuery sql params old new e → IsStoreError old new e
  unfolding FailsToQuery
  query_fails (inl unrun) = not_run_fails sql params (length params) old new e (subst (λ s. IsWhole sql (length params) (understood s sql)) (sym has) suits.whole) refl unrun
  query_fails (inr h) =
      let known = sym h.1.is ∙ ap (λ s. understood s sql) has in
      let bare = subst IsPlain (sym known) suits.plain in
      let shown = rw (bare.1, append-nil params) at (subst (FailsToShow old new sql h.0 (timed params h.0.formats h.1.now) e) bare.0 h.2) in
      let db : shown.0 ≡ old.now = subst (λ b. IsSourceOf b old.now shown.0) (ap (λ s. reads_listing s sql) has ∙ suits.unlisted) shown.1 in
      let command = ap command_of known ∙ suits.is in
      inr (inr (refused_query schema sql params suits old.step_limit shown.0 e (ap (λ (d : Database). d.schema) db ∙ has) (subst (λ k. RefusesToRead old.step_limit k shown.0 params e) command shown.2)))

  pub query_fails_inside : FailsToQuery sql params old new e ⊎ IsTooLate sql params old new e → IsStoreError old new e
  query_fails_inside (inl h) = query_fails h
  query_fails_inside (inr late) =
      let known = sym late.1.is ∙ ap (λ s. understood s sql) has in
      let bare = subst IsPlain (sym known) suits.plain in
      absurd (let f = subst IsSome bare.0 late.2 in cc)

-- If a result satisfies a postcondition, it also satisfies every weaker postcondition.
pub reported : {A : Type 0} (r : Result A Error) (P Q : A → Type 0) (R T : Error → Type 0) → ((a : A) → P a → Q a) → ((e : Error) → R e → T e) → IfOk r P → IfErr r R → MatchResult r Q T
reported (Ok a) P Q R T reports fails ok err = reports a ok
reported (Err e) P Q R T reports fails ok err = fails e err

-- If a query failed, and its error satisfies `Q`, the result satisfies the postcondition: `P` for
-- an Ok value, `Q` for an error.
pub failed_on : {A : Type 0} (P : A → Type 0) (Q : Error → Type 0) (e : Error) (r : Result A Error) → IsErrAnd r (λ d. d ≡ e) → Q e → MatchResult r P Q
failed_on P Q e (Ok a) fails h = absurd fails
failed_on P Q e (Err d) fails h = subst Q (sym fails) h

-- Lemmas: if the second of two calls fails, its cause (such as out of memory or a failed disk) is
-- also a permitted cause for both calls together.

pub on_err : {X E : Type 0} {P Q : E → Type 0} (r : Result X E) → ((e : E) → P e → Q e) → IfErr r P → IfErr r Q
on_err (Ok x) f h = tt
on_err (Err e) f h = f e h

-- If a call leaves the state of the database unchanged, the relation `StateAfterCall` (how a call
-- may change the database's state) holds between the states before and after the call.
pub still_goes : (a : State) → StateAfterCall a a
still_goes a = record { faults = omega arith; closes = λ is. inl is; limit = refl }

pub went_on : (a b : State) (Commits : Trees → Type 0) → HasCleanDisk b → Survives a b Commits → StateAfterCall a b
went_on a b Commits clean s = record { faults = s.counts; closes = s.closes clean; limit = s.limit }

pub goes_then : (a b c : State) → StateAfterCall a b → StateAfterCall b c → StateAfterCall a c
goes_then a b c one two = record {
  faults = omega (arith, one.faults, two.faults);
  closes = λ is. elim (one.closes is) [
    | inl open_still ↦ elim (two.closes open_still) [ inl last ↦ inl last | inr more ↦ inr (let up = one.faults in omega arith) ]
    | inr more ↦ inr (let up = two.faults in omega arith)
  ];
  limit = two.limit ∙ one.limit;
}

-- If the store failed between the states `b` and `c`, it also failed between the earlier state `a`
-- and `c`.
pub later_failed : (a b c : State) → StateAfterCall a b → b.faults ≤ c.faults → HasFailed b c → HasFailed a c
later_failed a b c goes up (inr more) = inr (let first = goes.faults in omega arith)
later_failed a b c goes up (inl shut) = elim (cases_Bool a.is_open) [
  | inr was_shut ↦ inl was_shut
  | inl was_open ↦ elim (goes.closes was_open) [
    | inl is_open ↦ absurd (let f : false ≡ true = sym shut ∙ is_open in cc)
    | inr more ↦ inr (omega arith)
  ]
]

pub later_error : (a b c : State) (e : Error) → StateAfterCall a b → b.faults ≤ c.faults → IsStoreError b c e → IsStoreError a c e
later_error a b c e goes up (inl want) = inl want
later_error a b c e goes up (inr (inr stopped)) = inr (inr (stopped.0, subst IsSome goes.limit stopped.1))
later_error a b c e goes up (inr (inl failed)) = inr (inl (later_failed a b c goes up failed))

pub later_fault : (a b c : State) (Sound : Type 0) (f : RowFault) → StateAfterCall a b → b.faults ≤ c.faults → IsFault b c Sound f → IsFault a c Sound f
later_fault a b c Sound (Sql e) goes up why = later_error a b c e goes up why
later_fault a b c Sound Damaged goes up why = why

-- If the fault `Damaged` is permitted because of a damaged row in a part of a table, it is also
-- permitted for the complete table.
pub less_fault : (a b : State) (Sound Part : Type 0) (f : RowFault) → (Sound → Part) → IsFault a b Part f → IsFault a b Sound f
less_fault a b Sound Part (Sql e) part why = why
less_fault a b Sound Part Damaged part not = λ sound. not (part sound)

-- If a query's contract concerns all rows of a table, it permits each fault that the reader of one
-- row may have.
pub row_fault : (a b : State) (Sound One : Type 0) (f : RowFault) → (Sound → One) → IsRowFault One f → IsFault a b Sound f
row_fault a b Sound One (Sql e) part why = inl why
row_fault a b Sound One Damaged part not = λ sound. not (part sound)
