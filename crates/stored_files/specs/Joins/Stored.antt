-- Defines the merged report on several successive database files, which are opened one at a time.
-- The type `Keeping` collects the data that the report needs from each file.
use Rattle.std.specs.Prelude.{◌≡◌, ℕ, List, [], ◌∷◌, Option, Some, None, MatchOption, string_bytes}
use Rattle.sqlite.specs.Store.{Ghosts}
use Rattle.sqlite.specs.Held.{Held, state}
use Rattle.sqlite.specs.State.{HasCleanDisk}
use Rattle.interval_core.specs.Zone.{HasRule}
use Rattle.interval_core.specs.declared.day_range.DayRange.{DayRange}
use Rattle.interval_core.specs.declared.zone.Zone.{Zone}
use Rattle.office_events.specs.declared.facts.Fact.{Fact}
use Rattle.office_books.specs.Ledgers.{Ledger}
use Rattle.office_store.specs.declared.books.SqlBooks.{SqlBooks}
use Rattle.stored_files.specs.BooksFound.{ledger_beneath}
use Rattle.carried_books.specs.declared.joining.keeping.Keeping as keepings
use Rattle.stored_files.specs.declared.joins.stored.JoinFault.{JoinFault}
use Rattle.stored_files.specs.declared.joins.stored.JoinFault.TheVariants as fault
use Rattle.stored_files.specs.declared.joins.stored.JoinedOffice.{JoinedOffice}

-- States that the earlier files of a merged report, if any, have the time zone `zone`.
abbrev pub IsOfZone : {K : Type 0} → (zone : List ℕ) → Option (JoinedOffice K) → Type 0
IsOfZone zone before =
    MatchOption before (Unit {0}) (λ joined. string_bytes joined.zone ≡ zone)

module _ {K : Type 0} (k : keepings.Ghosts K) where
  -- States that `kept` is the data of a merged report on the files that were added to it. Before
  -- the first file, this is the data of an empty report in the time zone `zone`.
  abbrev pub AreBefore : (zone : List ℕ) → DayRange → Option (JoinedOffice K) → K → Type 0
  AreBefore zone range None kept = (its : Zone) × HasRule zone its
      × ((register : List ℕ) → k.keeps its range register [] kept)
  AreBefore zone range (Some before) kept = kept ≡ before.kept

  -- States that `new` is the data of a merged report after a file with the records `facts`. The
  -- report covers this file, and the earlier files if there are any.
  abbrev pub JoinsNext : (zone : List ℕ) → DayRange → (register : List ℕ) → (facts : List Fact)
      → Option (JoinedOffice K) → JoinedOffice K → Type 0
  JoinsNext zone range register facts None new = (its : Zone) × HasRule zone its
      × k.keeps its range register (facts ∷ []) new.kept
  JoinsNext zone range register facts (Some before) new = (its : Zone) (files : List (List Fact))
      → k.keeps its range register files before.kept
      → k.keeps its range register (facts ∷ files) new.kept

  -- States that adding a file with the records `facts` to the data `old` of a merged report gives
  -- the data `new`. `new` then covers the files of `old` and this file.
  abbrev pub JoinsOne : DayRange → (register : List ℕ) → (facts : List Fact) → (old new : K)
      → Type 0
  JoinsOne range register facts old new = (its : Zone) (files : List (List Fact))
      → k.keeps its range register files old → k.keeps its range register (facts ∷ files) new

  -- States that a store was only queried, and that the data that a merged report needs from the
  -- store's records were added to the report.
  pub record JoinsBooks {B : Type 0} (ledger : B → Ledger) (books : B) (range : DayRange)
      (register : List ℕ) (old new : K) : Type 0 where
    pub asked : B
    pub clean : (ledger asked).is_clean → (ledger books).is_clean
    pub joins : (known : List Fact) → (ledger books).holds known → (ledger asked).is_clean
        → JoinsOne range register known old new

  -- States why a file with the records `facts` can't be added to a merged report of several files.
  -- It states something only for the reason `Unjoined`: the records don't continue the earlier
  -- files.
  abbrev pub Parts : DayRange → (register : List ℕ) → (facts : List Fact) → K → JoinFault → Type 0
  Parts range register facts kept (fault.Unjoined why) = k.parts range register facts kept why
  Parts range register facts kept why = Unit {0}

  -- States that a store was only queried, and that its records could not be added to a merged
  -- report, for the reason `why`.
  pub record PartsBooks {B : Type 0} (ledger : B → Ledger) (books : B) (range : DayRange)
      (register : List ℕ) (kept : K) (why : JoinFault) : Type 0 where
    pub asked : B
    pub clean : (ledger asked).is_clean → (ledger books).is_clean
    pub parts : (known : List Fact) → (ledger books).holds known → (ledger asked).is_clean
        → Parts range register known kept why

  module _ {S : Type 0} (g : Ghosts S) where
    -- States that the store in a database file was only queried, and that the data of its records
    -- `facts` were added to a merged report.
    pub record JoinsFile (old : Held S) (range : DayRange) (register : List ℕ)
        (facts : List Fact) (kept new : K) : Type 0 where
      pub asked : SqlBooks S g
      pub clean : (ledger_beneath g asked).is_clean → HasCleanDisk (state g old)
      pub joins : (ledger_beneath g asked).is_clean → JoinsOne range register facts kept new

    -- States that a file with the records `facts` and the time zone `zone` was added to a merged
    -- report. The report's earlier files have the same time zone. The statement assumes that the
    -- disk returned what was written to it.
    pub record JoinsOffice (old : Held S) (zone : List ℕ) (range : DayRange) (register : List ℕ)
        (facts : List Fact) (before : Option (JoinedOffice K)) (new : JoinedOffice K) : Type 0 where
      pub asked : SqlBooks S g
      pub clean : (ledger_beneath g asked).is_clean → HasCleanDisk (state g old)
      pub reported : (ledger_beneath g asked).is_clean → string_bytes new.zone ≡ zone
      pub same : (ledger_beneath g asked).is_clean → IsOfZone zone before
      pub joins : (ledger_beneath g asked).is_clean
          → JoinsNext zone range register facts before new

    -- States that the store in a database file was only queried. For the reason `why`, its records
    -- `facts` could not be added to a merged report.
    pub record Refuses (old : Held S) (range : DayRange) (register : List ℕ) (facts : List Fact)
        (kept : K) (why : JoinFault) : Type 0 where
      pub asked : SqlBooks S g
      pub clean : (ledger_beneath g asked).is_clean → HasCleanDisk (state g old)
      pub parts : (ledger_beneath g asked).is_clean → Parts range register facts kept why

    -- States why a file with the time zone of the earlier files was not added to a merged report.
    -- The store could not be opened, its records don't continue the earlier records, or the store
    -- failed.
    abbrev pub PartsFrom : (old : Held S) → DayRange → (register : List ℕ) → (facts : List Fact)
        → (kept : K) → JoinFault → Type 0
    PartsFrom old range register facts kept (fault.Unopened why) = Unit {0}
    PartsFrom old range register facts kept fault.OtherZone = ⊥
    PartsFrom old range register facts kept (fault.Unjoined why) =
        Refuses old range register facts kept (fault.Unjoined why)
    PartsFrom old range register facts kept (fault.Books why) = Unit {0}

    -- States that the records in a database file don't continue the records of the earlier files in
    -- a merged report.
    pub record IsRefused (old : Held S) (zone : List ℕ) (range : DayRange) (register : List ℕ)
        (facts : List Fact) (before : Option (JoinedOffice K)) (why : JoinFault) : Type 0 where
      pub asked : SqlBooks S g
      pub clean : (ledger_beneath g asked).is_clean → HasCleanDisk (state g old)
      pub kept : K
      pub are : (ledger_beneath g asked).is_clean → AreBefore zone range before kept
      pub parts : (ledger_beneath g asked).is_clean → Parts range register facts kept why

    -- States why a file with the time zone of the earlier files was not added to a merged report.
    -- The report's data on the earlier files is `before`.
    abbrev pub RefusesIn : (old : Held S) → (zone : List ℕ) → DayRange → (register : List ℕ)
        → (facts : List Fact) → (before : Option (JoinedOffice K)) → JoinFault → Type 0
    RefusesIn old zone range register facts before (fault.Unopened why) = Unit {0}
    RefusesIn old zone range register facts before fault.OtherZone = ⊥
    RefusesIn old zone range register facts before (fault.Unjoined why) =
        IsRefused old zone range register facts before (fault.Unjoined why)
    RefusesIn old zone range register facts before (fault.Books why) = Unit {0}

    -- States that a database file has another time zone than the earlier files of a merged report,
    -- if the disk returned what was written to it.
    pub record IsElsewhere (zone : List ℕ) (before : Option (JoinedOffice K)) : Type 0 where
      pub left : Held S
      pub other : HasCleanDisk (state g left) → IsOfZone zone before → ⊥

    -- States why a file was not added to a merged report. The store could not be opened, the time
    -- zone differs, the records don't continue the earlier records, or the store failed.
    abbrev pub RefusesOffice : (old : Held S) → (zone : List ℕ) → DayRange → (register : List ℕ)
        → (facts : List Fact) → (before : Option (JoinedOffice K)) → JoinFault → Type 0
    RefusesOffice old zone range register facts before (fault.Unopened why) = Unit {0}
    RefusesOffice old zone range register facts before fault.OtherZone = IsElsewhere zone before
    RefusesOffice old zone range register facts before (fault.Unjoined why) =
        IsRefused old zone range register facts before (fault.Unjoined why)
    RefusesOffice old zone range register facts before (fault.Books why) = Unit {0}
