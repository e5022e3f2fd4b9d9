-- Defines which accounting registers (named counters) are collected from earlier database files,
-- and how the current database file is compared with these files.
use Rattle.std.specs.Prelude.{◌≡◌, ◌≢◌, ◌⊎◌, ℕ, Bool, true, false, List, [], ◌∷◌, All, Contains, Option, Some, None, bytes_eq}
use Rattle.std.specs.List.{AllPairs, list_any}
use Rattle.interval_core.specs.Fold.{FoldState}
use Rattle.interval_core.specs.declared.zone.Zone.{Zone}
use Rattle.office_events.specs.declared.facts.Device.{Device}
use Rattle.office_events.specs.declared.facts.Fact.{Fact}
use Rattle.office_events.specs.declared.facts.Register.{Register}
use Rattle.office_events.specs.declared.questions.Installation.{Installation}
use Rattle.office_books.specs.Entries.{installations_of}
use Rattle.office_books.specs.Facts.{registers_of}
use Rattle.office_books.specs.Lawful.{AreLawful}
use Rattle.office_books.specs.declared.spans.Span.TheVariants as span
use Rattle.carried_books.specs.Joining.Days.{AreSumOf}
use Rattle.carried_books.specs.Joining.Files.{AllJoin, DoesNotJoin, HasJoined, is_recorded, is_recorded_in, rows_over}
use Rattle.carried_books.specs.Joining.Meters.{AddMeters, AreApart}
use Rattle.carried_books.specs.declared.joining.days.EarlierDays.{EarlierDays}
use Rattle.carried_books.specs.declared.joining.earlier.EarlierRegister.{EarlierRegister}
use Rattle.carried_books.specs.declared.joining.keeping.Keeping as keepings
use Rattle.carried_books.specs.declared.joining.earlier.KeptRegister.{KeptRegister}
use Rattle.carried_books.specs.declared.joining.earlier.KeptRegisters.{KeptRegisters}
use Rattle.carried_books.specs.declared.joining.files.JoinedFiles.{JoinedFiles}
use Rattle.carried_books.specs.declared.joining.files.Unjoined.{Unjoined}
use Rattle.carried_books.specs.declared.joining.files.Unjoined.TheVariants as unjoined

-- What is known of an accounting register (a named counter) over several database files: its name,
-- its meters, and its energy by day.
pub record Reported : Type 0 where
  pub name : List ℕ
  pub meters : List Installation
  pub days : FoldState

-- The name, the meters and the energies by day of an accounting register (a named counter) in
-- earlier database files.
abbrev pub reported : EarlierRegister → Reported
reported it = record { name = it.name; meters = it.meters.items; days = it.days.fold }

-- The name, the meters and the energies by day of an accounting register (a named counter) that
-- were collected from several database files.
abbrev pub kept_as : KeptRegister → Reported
kept_as kept = record {
  name = kept.name;
  meters = kept.files.meters.items;
  days = kept.files.days.fold;
}

-- The accounting registers (named counters) that were collected from several database files.
abbrev pub registers_in : KeptRegisters → List KeptRegister
registers_in kept = kept.kept.items

-- States that `copy` and `one`, which have an accounting register's data
-- from several database files, agree in three fields. These are the name, the meters and the flag
-- `is_recorded` (whether a file records the register).
pub record IsCopy (one copy : KeptRegister) : Type 0 where
  pub name : copy.name ≡ one.name
  pub recorded : copy.files.is_recorded ≡ one.files.is_recorded
  pub meters : copy.files.meters.items ≡ one.files.meters.items

-- Whether an accounting register (a named counter) with this name was collected from an earlier
-- database file.
abbrev pub is_kept : (name : List ℕ) → List KeptRegister → Bool
is_kept name kept = list_any (λ one. bytes_eq one.name name) kept

-- The collected accounting registers (named counters) `kept` have the data of all database files in
-- `files` (meters and energies by day). Each of these registers is recorded in at least one of the
-- files.
--
-- Each accounting register (a named counter) that a database file in `named` records was collected.
-- No two collected registers have the same name.
pub record Collects (zone : Zone) (named files : List (List Fact)) (kept : List KeptRegister) :
    Type 0 where
  pub each : All (λ (one : KeptRegister). HasJoined zone span.All one.name files one.files) kept
  pub only : All (λ (one : KeptRegister). is_recorded_in one.name files ≡ true) kept
  pub complete : (name : List ℕ) → is_recorded_in name named ≡ true → is_kept name kept ≡ true
  pub once : AllPairs (λ (a b : KeptRegister). a.name ≢ b.name) kept

-- The collected accounting registers (named counters) `kept` are exactly those of the database
-- files in `files`. Each register that a file records was collected once, and has the data of all
-- the files.
abbrev pub HasRegisters : Zone → (files : List (List Fact)) → (kept : List KeptRegister) → Type 0
HasRegisters zone files kept = Collects zone files files kept

-- Adding a database file with the records `facts` changed the collected accounting registers (named
-- counters) from `old` to `new`. If `old` has the registers of the earlier files, then `new` has
-- the registers of the earlier files and the added file.
--
-- The contract of adding a database file assumes that all files are lawful: the rules for records
-- accept each record of a file after the earlier ones. Lists of files have the latest file first.
abbrev pub AddsFile : Zone → (facts : List Fact) → (old new : List KeptRegister) → Type 0
AddsFile zone facts old new = (files : List (List Fact)) → All AreLawful (facts ∷ files)
    → HasRegisters zone files old → HasRegisters zone (facts ∷ files) new

-- A collected accounting register (a named counter) `old` became `new` when a database file with
-- the records `facts` was added. If `old` has the data (meters and energies by day) of the earlier
-- files, then `new` has those of the earlier files and the added file.
pub record HasNext (facts : List Fact) (old new : KeptRegister) : Type 0 where
  pub name : new.name ≡ old.name
  pub files : AllJoin span.All old.name facts old.files new.files None

-- Registers (named counters) of a database file with the records `facts` were appended to the
-- collected registers `old`, which yields `new`.
--
-- If each accounting register (a named counter) in `old` has the data of the earlier files and the
-- file `facts`, then each register in `new` has them too. The earlier files must be lawful (the
-- rules for records accept each record).
pub record AddsMore (zone : Zone) (facts : List Fact) (old new : List KeptRegister) : Type 0 where
  pub adds : (files : List (List Fact)) → All AreLawful files
      → Collects zone files (facts ∷ files) old → Collects zone files (facts ∷ files) new
  pub stays : (name : List ℕ) → is_kept name old ≡ true → is_kept name new ≡ true

-- True if the database file with the records `facts` records each accounting register (a named
-- counter) in the list `registers`.
abbrev pub AreRecorded : (registers : List Register) → (facts : List Fact) → Type 0
AreRecorded registers facts = All (λ (it : Register). is_recorded it.name facts ≡ true) registers

-- True if each accounting register (a named counter) in the list `registers` is among the registers
-- collected from several database files.
abbrev pub AreKept : (registers : List Register) → List KeptRegister → Type 0
AreKept registers kept = All (λ (it : Register). is_kept it.name kept ≡ true) registers

-- Those accounting registers (named counters) in `registers` that had not been collected were
-- appended to the collected registers `old`, with their data in the database file `facts`.
pub record AddsRegisters (zone : Zone) (facts : List Fact) (registers : List Register)
    (old new : List KeptRegister) : Type 0 where
  pub more : AddsMore zone facts old new
  pub listed : AreKept registers new

-- The accounting registers (named counters) of the devices in `devices` were appended to the
-- collected registers `old`, with their data in the database file `facts`. Registers that had been
-- collected before were not appended again.
pub record AddsDevices (zone : Zone) (facts : List Fact) (devices : List Device)
    (old new : List KeptRegister) : Type 0 where
  pub more : AddsMore zone facts old new
  pub listed : All (λ (it : Device). AreKept (registers_of facts it.name) new) devices

-- The database file with the records `facts` does not continue the meter history of one of the
-- collected accounting registers (named counters), for the reason `why`.
pub record KeptDoesNotJoin (facts : List Fact) (kept : List KeptRegister) (why : Unjoined) :
    Type 0 where
  pub one : KeptRegister
  pub among : Contains kept one
  pub parts : DoesNotJoin span.All one.name facts one.files why

-- The database file with the records `facts` has an accounting register (a named counter) that was
-- not collected from the earlier files. The data of this register cannot be added for the reason
-- `why`. Here `none` has the data of an empty list of files, so the reason lies in the file itself.
pub record NewDoesNotJoin (zone : Zone) (facts : List Fact) (kept : List KeptRegister)
    (why : Unjoined) : Type 0 where
  pub name : List ℕ
  pub recorded : is_recorded name facts ≡ true
  pub new : is_kept name kept ≡ false
  pub none : JoinedFiles
  pub empty : HasJoined zone span.All name [] none
  pub parts : DoesNotJoin span.All name facts none why

-- The database file with the records `facts` cannot be added to the collected accounting registers
-- (named counters). For one register, the file does not continue the meter history of the earlier
-- files, for the reason `why`.
abbrev pub FileDoesNotJoin : Zone → (facts : List Fact) → List KeptRegister → Unjoined → Type 0
FileDoesNotJoin zone facts kept why =
    KeptDoesNotJoin facts kept why ⊎ NewDoesNotJoin zone facts kept why

-- The theorem that the energies by day of a collected accounting register (a named counter) are the
-- sum of the register's quarter hours in all database files that were added.
abbrev pub CollectedDaysAreSums : Type 0
CollectedDaysAreSums = (zone : Zone) (files : List (List Fact)) (kept : List KeptRegister)
    (one : KeptRegister) (days : EarlierDays)
    → HasRegisters zone files kept → Contains kept one → days.fold ≡ one.files.days.fold
    → AreSumOf zone (rows_over one.name files) days

-- The model of `KeptRegisters`, the accounting registers (named counters) collected from several
-- database files. It states what they contain after files were added, and why a file cannot be
-- added.
abbrev pub registers_kept : keepings.Ghosts KeptRegisters
registers_kept = record {
  keeps = λ zone range register files kept.
      (kept.zone ≡ zone) × (All AreLawful files → HasRegisters zone files (registers_in kept));
  parts = λ range register facts kept why.
      FileDoesNotJoin kept.zone facts (registers_in kept) why;
}

-- The contract of comparing a new file with a collected register (a named counter). The result
-- `None` means that each meter of the register in this file continues an earlier file's meter, or
-- begins after the earlier meters were closed. Any other result has two meters that conflict.
abbrev pub HoldMeters : KeptRegister → List Fact → Option Unjoined → Type 0
HoldMeters kept facts None = (all : List Installation)
    × AddMeters kept.files.meters.items (installations_of facts kept.name) all
HoldMeters kept facts (Some unjoined.NotRecorded) = ⊥
HoldMeters kept facts (Some (unjoined.Apart apart)) =
    AreApart kept.files.meters.items (installations_of facts kept.name) apart
HoldMeters kept facts (Some unjoined.OutOfTurn) = ⊥

-- The contract of comparing a new file with a collected register (a named counter). `None` means
-- that the file's meters continue the earlier meters or begin after these were closed, and that the
-- file records the register if an earlier file does. Any other result is the reason why one of
-- these two statements is false.
abbrev pub HoldsFile : KeptRegister → List Fact → Option Unjoined → Type 0
HoldsFile kept facts None =
    (kept.files.is_recorded ≡ true → is_recorded kept.name facts ≡ true)
    × HoldMeters kept facts None
HoldsFile kept facts (Some unjoined.NotRecorded) =
    (kept.files.is_recorded ≡ true) × (is_recorded kept.name facts ≡ false)
HoldsFile kept facts (Some why) = HoldMeters kept facts (Some why)

-- The contract of comparing a new file with all collected registers (named counters). `None` means
-- that the file continues the meter history of the earlier files for each of these registers. Any
-- other result is the reason why the file does not continue this history for one of them.
abbrev pub HoldAll : List KeptRegister → List Fact → Option Unjoined → Type 0
HoldAll kept facts None = All (λ (one : KeptRegister). HoldsFile one facts None) kept
HoldAll kept facts (Some why) =
    (one : KeptRegister) × Contains kept one × HoldsFile one facts (Some why)
