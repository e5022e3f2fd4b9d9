-- Streams of the rows of a query to a sink. A sink is an object of the caller that receives one row
-- at a time.
use Rattle.std.specs.Prelude.{◌≡◌, ◌≤◌, ◌⊎◌, ℕ, List, [], ◌∷◌, ◌++◌, length, Result, Ok, Err, OnOk, IfErr}
use Rattle.std.specs.List.{AllByRecursion, AllZip}
use Rattle.sqlite.specs.Given.{IsPlain}
use Rattle.sqlite.specs.Listing.{understood}
use Rattle.sqlite.specs.Order.{Row}
use Rattle.sqlite.specs.Store.{Ghosts}
use Rattle.sqlite.specs.Held.{Held, state}
use Rattle.sqlite.specs.declared.error.Error.{Error}
use Rattle.sqlite.specs.declared.error.Error.TheVariants.{InvalidQuery}
use Rattle.sqlite.specs.State.{State, HasCleanDisk, IsUnchanged, Begins, Shown, FailsToQuery}
use Rattle.office_books.specs.Rows.{TakesAll, TakesFirst}
use Rattle.store_tables.specs.declared.faults.RowFault.{RowFault}
use Rattle.store_tables.specs.declared.faults.RowFault.TheVariants.{Sql, Damaged}
use Rattle.store_tables.specs.Content.{Content, AreTables}
use Rattle.store_tables.specs.Failing.{IsFault, StateAfterCall}
use Rattle.store_tables.specs.Asking.{Asks}

-- True if every row that the caller's sink (a visitor of rows) received has the property `IsRow`.
abbrev pub TookSome : {K T : Type 0} → (IsRow : T → Type 0) → (takes : K → T → K → Type 0)
    → (before after : K) → Type 0
TookSome {K} {T} IsRow takes before after =
    (rows : List T) × AllByRecursion IsRow rows × TakesAll takes before rows after

-- The greatest number of rows that a stream can count: 2^64 - 1. No real table has as many rows.
abbrev pub most_rows : ℕ
most_rows = 18446744073709551615

-- True if the caller's sink (a consumer of rows) received 2^64 - 1 rows, the greatest number that a
-- stream can count.
abbrev pub TookMost : {K T : Type 0} → (takes : K → T → K → Type 0) → (before after : K) → Type 0
TookMost {K} {T} takes before after =
    (rows : List T) × (length rows ≡ most_rows) × TakesAll takes before rows after

-- The reasons why a stream of rows ends early: an error of the store, a row with a value out of its
-- range, or too many rows (2^64 - 1).
abbrev pub IsStreamFault : {K T : Type 0} → (old new : State) → (takes : K → T → K → Type 0)
    → (before after : K) → (IsSound : Type 0) → RowFault → Type 0
IsStreamFault old new takes before after IsSound e =
    IsFault old new IsSound e ⊎ ((e ≡ Sql InvalidQuery) × TookMost takes before after)

-- The contract of streaming rows to a caller's sink. The sink receives the rows in the order of the
-- query's result: all rows if the stream returns `Ok`, and the first rows if it returns a fault.
-- Every received row has the property `IsRow`, even if the tables are damaged.
pub record HandsOn {S K T Tables : Type 0} (g : Ghosts S) (old new : Held S)
    (takes : K → T → K → Type 0) (before after : K)
    (result : Result (Unit {0}) RowFault) (IsRow : T → Type 0) (Have : Tables → Content → Type 0)
    (AreRowsOf : Tables → List T → Type 0)
    (AreSound : Tables → Type 0) : Type 0 where
  pub asks : Asks g old new
  pub begun : HasCleanDisk (state g new) → (content : Content) → AreTables (state g old).now content
      → (tables : Tables) → Have tables content
      → (after ≡ before)
      ⊎ ((all : List T) × AreRowsOf tables all × TakesFirst takes before all after)
  pub whole : HasCleanDisk (state g new) → (content : Content) → AreTables (state g old).now content
      → (tables : Tables) → Have tables content
      → OnOk result ((all : List T) × AreRowsOf tables all × TakesAll takes before all after)
  pub some : TookSome IsRow takes before after
  pub fault : HasCleanDisk (state g new) → (content : Content) → AreTables (state g old).now content
      → (tables : Tables) → Have tables content
      → IfErr result
      (IsStreamFault (state g old) (state g new) takes before after (AreSound tables))

-- Definitions on streams of the result rows of a query. One reader function converts each row to a
-- value.

-- True if the reader `reads` converts each row of a list to the value at the same index of another
-- list.
abbrev pub AreRead : {T : Type 0} → (reads : Row → Result T RowFault) → List Row → List T → Type 0
AreRead reads = AllZip (λ row read. reads row ≡ Ok read)

-- True if a query was started and changed nothing, and the given rows are the first rows of the
-- query's answer.
abbrev pub IsAsked : {S : Type 0} → Ghosts S → (sql : List ℕ) → (params : Row)
    → (old asked : Held S) → (given : List Row) → Type 0
IsAsked g sql params old asked given =
    IsUnchanged (state g old) (state g asked) × Begins sql params (state g asked) given

-- True if a query failed while its rows were read one by one, and the database calls before the
-- failed call left the tables unchanged.
pub record HasStopped {S : Type 0} (g : Ghosts S) (sql : List ℕ) (params : Row) (old new : Held S)
    (e : Error) : Type 0 where
  pub asked : Held S
  pub same : (state g asked).now ≡ (state g old).now
  pub goes : StateAfterCall (state g old) (state g asked)
  pub counts : (state g asked).faults ≤ (state g new).faults
  pub fails : FailsToQuery sql params (state g asked) (state g new) e

-- The reasons why reading the rows of a query ended: a call failed, a row can't be parsed, or 2^64
-- - 1 rows (the greatest countable number) were read.
abbrev pub IsReadFault : {S T : Type 0} → Ghosts S → (sql : List ℕ) → (params : Row)
    → (reads : Row → Result T RowFault) → (old new : Held S) → (given : List Row) → (read : List T)
    → RowFault → Type 0
IsReadFault g sql params reads old new given read (Sql e) =
    HasStopped g sql params old new e ⊎ ((e ≡ InvalidQuery) × (length read ≡ most_rows))
IsReadFault {S} g sql params reads old new given read Damaged =
    (asked : Held S) × (row : Row) × IsAsked g sql params old asked (given ++ row ∷ [])
    × (reads row ≡ Err Damaged)

-- The contract of streaming a query's rows to a caller's sink. The stream reads the rows and passes
-- them to the sink in the order of the query's result. If the stream returns `Ok`, the sink gets
-- all rows, and on a fault the first rows.
pub record HandsOnQuery {S K T : Type 0} (g : Ghosts S) (sql : List ℕ) (params : Row)
    (reads : Row → Result T RowFault) (old new : Held S)
    (takes : K → T → K → Type 0) (before after : K) (result : Result (Unit {0}) RowFault) : Type 0
  where
    pub given : List Row
    pub rows : List T
    pub begun : (given ≡ []) ⊎ ((asked : Held S) × IsAsked g sql params old asked given)
    pub read : AreRead reads given rows
    pub taken : TakesAll takes before rows after
    pub whole : OnOk result
        ((asked : Held S) × (end : Held S) × IsUnchanged (state g old) (state g asked)
        × Shown sql params (state g asked) (state g end) given)
    pub fault : IfErr result (IsReadFault g sql params reads old new given rows)

-- States that the stream of a query's rows satisfies the contract `HandsOnQuery` if two conditions
-- hold. The query's answer depends only on the tables, and reads of the database file return the
-- written bytes.
abbrev pub HandsOnPlain : {S K T : Type 0} → Ghosts S → (sql : List ℕ) → (params : Row)
    → (reads : Row → Result T RowFault) → (old new : Held S)
    → (takes : K → T → K → Type 0) → (before after : K)
    → Result (Unit {0}) RowFault → Type 0
HandsOnPlain g sql params reads old new takes before after result =
    HasCleanDisk (state g new) → IsPlain (understood old.schema sql)
    → HandsOnQuery g sql params reads old new takes before after result
