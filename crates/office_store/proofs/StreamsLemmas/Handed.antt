-- Proofs that a query passes its rows one by one, in order, to the sink (a visitor of rows) that
-- the caller supplies.
use Rattle.std.proofs.Common.{◌≡◌, inl, inr, List, [], ◌∷◌, ◌++◌, length, length-append, ℕ, ◌+◌, ◌≤◌, false, Ok, Err, Result, OnErr, IsErrAnd, refl, sym, ap, subst, arith, ◌∙◌}
use Rattle.sqlite.specs.declared.error.Error.{Error}
use Rattle.sqlite.specs.declared.error.Error.TheVariants.{InvalidQuery}
use Rattle.std.specs.List.{AllByRecursion}
use Rattle.sqlite_keyed.proofs.ListLemmas.{all-append}
use Rattle.sqlite.specs.Order.{Row}
use Rattle.sqlite.specs.Store.{Ghosts}
use Rattle.sqlite.specs.Held.{Held, state}
use Rattle.sqlite.specs.State.{HasCleanDisk, Survives, IsUnchanged, Shown, CommitsShowing, FailsToQuery}
use Rattle.sqlite.specs.Given.{IsPlain, HasGiven, HasBegun, IsRefused}
use Rattle.sqlite.specs.Listing.{understood}
use Rattle.sqlite.proofs.Callers.{begun_plain, given_begin, unchanged_then, never_commits}
use Rattle.sqlite.proofs.StateLemmas.{survives_then, survives_weaker}
use Rattle.office_books.specs.Rows.{TakesAll}
use Rattle.store_tables.specs.declared.faults.RowFault.{RowFault}
use Rattle.store_tables.specs.declared.faults.RowFault.TheVariants.{Sql, Damaged}
use Rattle.store_tables.specs.Schema.{books_schema}
use Rattle.store_tables.specs.Asking.{Asks}
use Rattle.store_tables.proofs.Failures.{still_goes, went_on}
use Rattle.store_tables.proofs.StepLemmas.{asks}
use Rattle.office_store.specs.Handing.{AreRead, IsAsked, HandsOnQuery, IsReadFault, most_rows}

takes_more : {K T : Type 0} (takes : K → T → K → Type 0) (before mid after : K) (rows : List T) (next : T) → TakesAll takes before rows mid → takes mid next after → TakesAll takes before (rows ++ next ∷ []) after
takes_more takes before mid after [] next is one = (after, subst (λ k. takes k next after) is one, refl)
takes_more takes before mid after (t ∷ rows) next all one = (all.0, all.1, takes_more takes all.0 mid after rows next all.2 one)

read_more : {T : Type 0} (reads : Row → Result T RowFault) (given : List Row) (rows : List T) (row : Row) (next : T) → AreRead reads given rows → reads row ≡ Ok next → AreRead reads (given ++ row ∷ []) (rows ++ next ∷ [])
read_more reads [] [] row next zip is = (is, tt)
read_more reads [] (t ∷ rows) row next zip is = absurd zip
read_more reads (r ∷ given) [] row next zip is = absurd zip
read_more reads (r ∷ given) (t ∷ rows) row next zip is = (zip.0, read_more reads given rows row next zip.1 is)

-- If SQLite refuses a query, the query commits nothing.
pub refused_asks : {S X : Type 0} (g : Ghosts S) (sql : List ℕ) (params : Row) (old new : Held S) (r : Result X Error) (e : Error) → r ≡ Err e → OnErr r (IsRefused g sql params old r new) → IsPlain (understood books_schema sql) → Asks g old new
refused_asks g sql params old new (Ok x) e is content plain = absurd (let f = is in cc)
refused_asks {X = X} g sql params old new (Err d) e is content plain = asks {X = X} g sql params old new (Err d) (λ x. []) plain (λ clean. tt) content.err content.mode content.survives

pub refused_counts : {S X : Type 0} (g : Ghosts S) (sql : List ℕ) (params : Row) (old new : Held S) (r : Result X Error) (e : Error) → r ≡ Err e → OnErr r (IsRefused g sql params old r new) → (state g old).faults ≤ (state g new).faults
refused_counts g sql params old new (Ok x) e is content = absurd (let f = is in cc)
refused_counts g sql params old new (Err d) e is content = content.survives.counts

pub refused_why : {S X : Type 0} (g : Ghosts S) (sql : List ℕ) (params : Row) (old new : Held S) (r : Result X Error) (e : Error) → r ≡ Err e → OnErr r (IsRefused g sql params old r new) → HasCleanDisk (state g new) → FailsToQuery sql params (state g old) (state g new) e
refused_why g sql params old new (Ok x) e is content clean = absurd (let f = is in cc)
refused_why g sql params old new (Err d) e is content clean = subst (FailsToQuery sql params (state g old) (state g new)) (let f : d ≡ e = cc in f) (content.err clean)

module _ {S K T : Type 0} (g : Ghosts S) (sql : List ℕ) (params : Row) (reads : Row → Result T RowFault) (IsRow : T → Type 0) (old : Held S) (takes : K → T → K → Type 0) (before : K) where
  -- The state of a streaming query after it read the first `count` rows and passed their values to
  -- the caller's sink.
  pub record Stands (now : Held S) (after : K) (count : ℕ) : Type 0 where
    pub cleaned : HasCleanDisk (state g now) → HasCleanDisk (state g old)
    pub mode : old.in_transaction ≡ false → now.in_transaction ≡ false
    pub survives : IsPlain (understood old.schema sql) → Survives (state g old) (state g now) (λ _. ⊥)
    pub rows : List T
    pub counted : length rows ≡ count
    pub sound : AllByRecursion IsRow rows
    pub taken : TakesAll takes before rows after
    pub follows : HasCleanDisk (state g now) → IsPlain (understood old.schema sql)
        → (given : List Row) × HasGiven g sql params now given × IsUnchanged (state g old) (state g now) × AreRead reads given rows

  pub begun : (now : Held S) → (HasCleanDisk (state g now) → HasBegun g sql params old now) → (old.in_transaction ≡ false → now.in_transaction ≡ false)
      → Survives (state g old) (state g now) (CommitsShowing sql params (state g old)) → Stands now before 0
  begun now starts mode survives = record {
    cleaned = λ clean. omega (arith, survives.clean);
    mode = mode;
    survives = λ plain. survives_weaker (state g old) (state g now) _ _ (λ _ db. never_commits sql params (state g old) db plain) survives;
    rows = [];
    counted = refl;
    sound = tt;
    taken = refl;
    follows = λ clean plain. let it = begun_plain g sql params old now plain (starts clean) in ([], it.0, it.1, tt);
  }

  pub goes_on : (now new : Held S) (mid after : K) (row : Row) (next : T) (count : ℕ) → Stands now mid count
      → (HasCleanDisk (state g new) → (given : List Row) → HasGiven g sql params now given → HasGiven g sql params new (given ++ row ∷ []))
      → (HasCleanDisk (state g new) → IsUnchanged (state g now) (state g new)) → (now.in_transaction ≡ false → new.in_transaction ≡ false) → Survives (state g now) (state g new) (λ _. ⊥)
      → reads row ≡ Ok next → IsRow next → takes mid next after → Stands new after (count + 1)
  goes_on now new mid after row next count h given same mode survives is sound took = record {
    cleaned = λ clean. h.cleaned (omega (arith, survives.clean));
    mode = λ was. mode (h.mode was);
    survives = λ plain. survives_then (state g old) (state g now) (state g new) (λ _. ⊥) (λ _. ⊥) (λ _. ⊥) (λ _ db none. none) (λ _ db none. none) (h.survives plain) survives;
    rows = h.rows ++ next ∷ [];
    counted = length-append h.rows (next ∷ []) ∙ ap (λ n. n + 1) h.counted;
    sound = all-append IsRow h.rows (next ∷ []) h.sound (sound, tt);
    taken = takes_more takes before mid after h.rows next h.taken took;
    follows = λ clean plain.
        let early : HasCleanDisk (state g now) = omega (arith, survives.clean) in
        let it = h.follows early plain in
        (it.0 ++ row ∷ [], given clean it.0 it.1, unchanged_then _ _ _ it.2 (same clean), read_more reads it.0 h.rows row next it.3 is);
  }

  -- If SQLite refuses a streaming query, the function returns the error and passes no row to the
  -- caller's sink.
  pub not_begun : (new : Held S) (r : Result (Unit {0}) RowFault) (e : Error) → IsErrAnd r (λ d. d ≡ Sql e) → (state g old).faults ≤ (state g new).faults → FailsToQuery sql params (state g old) (state g new) e → HandsOnQuery g sql params reads old new takes before before r
  not_begun new (Ok x) e fails up why = absurd fails
  not_begun new (Err d) e fails up why = record {
    given = [];
    rows = [];
    begun = inl refl;
    read = tt;
    taken = refl;
    whole = tt;
    fault = subst (IsReadFault g sql params reads old new [] []) (sym fails) (inl (record { asked = old; same = refl; goes = still_goes (state g old); counts = up; fails = why }));
  }

  asked_on : (now : Held S) (given : List Row) → HasGiven g sql params now given → IsUnchanged (state g old) (state g now) → IsAsked g sql params old now given
  asked_on now given has same = (same, given_begin g sql params now given has)

  -- If the database fails while a query's rows are streamed, the function returns the error after
  -- it passed the earlier rows to the caller's sink (a consumer of rows).
  pub fails_later : (r : Result (Unit {0}) RowFault) (e : Error) (now last new : Held S) (after : K) (count : ℕ) → new ≡ last → IsErrAnd r (λ d. d ≡ Sql e) → HasCleanDisk (state g now) → IsPlain (understood old.schema sql)
      → Stands now after count → (state g now).faults ≤ (state g last).faults → ((given : List Row) → HasGiven g sql params now given → FailsToQuery sql params (state g now) (state g last) e) → HandsOnQuery g sql params reads old new takes before after r
  fails_later (Ok x) e now last new after count ends fails clean plain h up why = absurd fails
  fails_later (Err d) e now last new after count ends fails clean plain h up why =
      let it = h.follows clean plain in
      record {
        given = it.0;
        rows = h.rows;
        begun = inr (now, asked_on now it.0 it.1 it.2);
        read = it.3;
        taken = h.taken;
        whole = tt;
        fault = subst (IsReadFault g sql params reads old new it.0 h.rows) (sym fails) (inl (record { asked = now; same = it.2.0.now_is; goes = went_on (state g old) (state g now) _ clean (h.survives plain); counts = subst (λ (k : Held S). (state g now).faults ≤ (state g k).faults) (sym ends) up; fails = subst (λ (k : Held S). FailsToQuery sql params (state g now) (state g k) e) (sym ends) (why it.0 it.1) }));
      }

  -- If a streaming query has passed 2^64 - 1 rows to the caller, the greatest number that it can
  -- count, it ends with an error.
  pub ends_late : (now new : Held S) (after : K) → HasCleanDisk (state g now) → IsPlain (understood old.schema sql) → Stands now after most_rows → HandsOnQuery g sql params reads old new takes before after (Err (Sql InvalidQuery))
  ends_late now new after clean plain h =
      let it = h.follows clean plain in
      record {
        given = it.0;
        rows = h.rows;
        begun = inr (now, asked_on now it.0 it.1 it.2);
        read = it.3;
        taken = h.taken;
        whole = tt;
        fault = inr (refl, h.counted);
      }

  -- If a streaming query has read all rows of its result, it returns Ok.
  pub ends_well : (now last new : Held S) (after : K) (count : ℕ) → HasCleanDisk (state g now) → IsPlain (understood old.schema sql) → Stands now after count
      → ((given : List Row) → HasGiven g sql params now given → Shown sql params (state g now) (state g last) given) → HandsOnQuery g sql params reads old new takes before after (Ok tt)
  ends_well now last new after count clean plain h shown =
      let it = h.follows clean plain in
      record {
        given = it.0;
        rows = h.rows;
        begun = inr (now, asked_on now it.0 it.1 it.2);
        read = it.3;
        taken = h.taken;
        whole = (now, last, it.2, shown it.0 it.1);
        fault = tt;
      }

  -- If the reader of a streaming query can't convert a row, the stream ends with an error at this
  -- row.
  pub not_read : (r : Result (Unit {0}) RowFault) (f : RowFault) (now last new : Held S) (after : K) (count : ℕ) (row : Row) → IsErrAnd r (λ d. d ≡ f) → reads row ≡ Err f → f ≡ Damaged → HasCleanDisk (state g now) → IsPlain (understood old.schema sql)
      → Stands now after count → ((given : List Row) → HasGiven g sql params now given → HasGiven g sql params last (given ++ row ∷ [])) → IsUnchanged (state g now) (state g last) → HandsOnQuery g sql params reads old new takes before after r
  not_read (Ok x) f now last new after count row fails bad is clean plain h more same = absurd fails
  not_read (Err d) f now last new after count row fails bad is clean plain h more same =
      let it = h.follows clean plain in
      record {
        given = it.0;
        rows = h.rows;
        begun = inr (now, asked_on now it.0 it.1 it.2);
        read = it.3;
        taken = h.taken;
        whole = tt;
        fault = subst (IsReadFault g sql params reads old new it.0 h.rows) (sym (fails ∙ is)) (last, row, asked_on last (it.0 ++ row ∷ []) (more it.0 it.1) (unchanged_then _ _ _ it.2 same), bad ∙ ap Err is);
      }
