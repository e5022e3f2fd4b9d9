-- Definitions of the records that the database of a connection encodes, and of the records that a
-- crash would leave.
use Rattle.std.specs.Prelude.{◌≡◌, ◌≢◌, ◌⊎◌, ℕ, false, List, [], ◌∷◌, ◌++◌, reverse, Result, IsOk, IsTrue, OnOk, OnErr}
use Rattle.sqlite.specs.Tree.{Trees}
use Rattle.sqlite.specs.Effect.{Database}
use Rattle.sqlite.specs.Store.{Ghosts}
use Rattle.sqlite.specs.Held.{Held, state}
use Rattle.sqlite.specs.State.{HasCleanDisk, KeepsCommit}
use Rattle.office_events.specs.declared.facts.Fact.{Fact}
use Rattle.office_books.specs.Lawful.{AreLawful}
use Rattle.store_tables.specs.Content.{Content, AreTables}
use Rattle.store_tables.specs.Failing.{StateAfterCall}
use Rattle.office_store.specs.Tables.{AreOf}

-- True if the tables of a database encode the records `facts` and the time zone `zone`.
pub record HasFacts (zone : List ℕ) (facts : List Fact) (db : Database) : Type 0 where
  pub content : Content
  pub tables : AreTables db content
  pub are : AreOf zone facts content

-- True if a list of records is one of the lists of records in a given list.
abbrev pub IsOneOf : List (List Fact) → List Fact → Type 0
IsOneOf [] facts = ⊥
IsOneOf (one ∷ left) facts = (facts ≡ one) ⊎ IsOneOf left facts

-- True if B-trees, such as those that a crash leaves, store a database that encodes one of the
-- lists of records in `left`.
pub record IsLeft (zone : List ℕ) (left : List (List Fact)) (trees : Trees) : Type 0 where
  pub facts : List Fact
  pub one : IsOneOf left facts
  pub db : Database
  pub has : HasFacts zone facts db
  pub same : trees ≡ db.trees

module _ {S : Type 0} (g : Ghosts S) (zone : List ℕ) where
  -- States that, if the connection is open and reads of its file return the written bytes, the
  -- committed tables encode the given list of records.
  unfoldable pub HoldsFacts : Held S → List Fact → Type 0
  HoldsFacts h facts =
      HasCleanDisk (state g h) → IsTrue (state g h).is_open
      → HasFacts zone facts (state g h).committed

  -- States that, if reads of the file return the written bytes, a crash leaves tables that encode
  -- one of the given lists of records.
  unfoldable pub LeavesFacts : Held S → List (List Fact) → Type 0
  LeavesFacts h left = HasCleanDisk (state g h) → (trees : Trees) → (state g h).may_leave trees
      → IsLeft zone left trees

  -- The contract of a query outside a transaction. The query commits nothing, and a crash after the
  -- query leaves only what a crash before it could leave.
  pub record OnlyLooks (old new : Held S) : Type 0 where
    pub clean : HasCleanDisk (state g new) → HasCleanDisk (state g old)
    pub mode : old.in_transaction ≡ false → new.in_transaction ≡ false
    pub kept : (facts : List Fact) → HoldsFacts old facts → HasCleanDisk (state g new)
        → KeepsCommit (state g old) (state g new)
    pub left : (facts : List Fact) → HoldsFacts old facts → HasCleanDisk (state g new)
        → (trees : Trees) → (state g new).may_leave trees → (state g old).may_leave trees
    pub goes : (facts : List Fact) → HoldsFacts old facts → HasCleanDisk (state g new)
        → StateAfterCall (state g old) (state g new)

  -- The contract of a transaction that appends the records `fs` to the stored records, if the rules
  -- for records accept `fs` (for example, device names are unique). On `Ok` all of `fs` are stored,
  -- and a later crash leaves them. On a fault the earlier records are unchanged, but a crash may
  -- leave all of `fs`. An empty `fs` changes nothing.
  pub record BooksFacts {X E : Type 0} (fs : List Fact) (old new : Held S) (result : Result X E) :
      Type 0 where
    pub clean : HasCleanDisk (state g new) → HasCleanDisk (state g old)
    pub booked : (facts : List Fact) → HoldsFacts old facts → AreLawful (reverse fs ++ facts)
        → OnOk result (HoldsFacts new (reverse fs ++ facts))
    pub settled : fs ≢ [] → (facts : List Fact) → HoldsFacts old facts
        → AreLawful (reverse fs ++ facts)
        → OnOk result (LeavesFacts new ((reverse fs ++ facts) ∷ []))
    pub refused : (facts : List Fact) → HoldsFacts old facts → OnErr result (HoldsFacts new facts)
    pub under_way : (facts : List Fact) (left : List (List Fact)) → HoldsFacts old facts
        → AreLawful (reverse fs ++ facts) → LeavesFacts old left
        → OnErr result (LeavesFacts new (left ++ (reverse fs ++ facts) ∷ []))
    pub nothing : fs ≡ [] → (new ≡ old) × IsOk result
