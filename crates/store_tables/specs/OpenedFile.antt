-- Definitions of what opening a store's database file reads from the table `meta` (the version and
-- the time zone), and of the connection's state after the opening.
use Rattle.std.specs.Prelude.{◌≡◌, ◌≢◌, ◌⊎◌, ℕ, [], ◌∷◌, Vec, Result, Err, OnOk, OnErr, IfOk, IfErr, IsUtf8, IsTrue}
use Rattle.sqlite.specs.Order.{Row}
use Rattle.sqlite.specs.State.{State, KeepsCommit, Survives, IsUnchanged}
use Rattle.interval_core.specs.declared.zone.Zone.{Zone}
use Rattle.interval_core.specs.Zone.{HasRule}
use Rattle.store_tables.specs.Content.{Content, AreTablesIn}
use Rattle.store_tables.specs.declared.open_faults.OpenFault.{OpenFault}
use Rattle.store_tables.specs.declared.open_faults.OpenFault.TheVariants.{NotOurs, Zone as NoZone, Memory}
use Rattle.store_tables.specs.Faults.{IsOwnFault}
use Rattle.store_tables.specs.declared.layouts.Layout.{Layout}
use Rattle.store_tables.specs.Layouts.{version_of, schema_of}
use Rattle.store_tables.specs.Meta.{Meta, meta_shown, IsMarked}
use Rattle.store_tables.specs.Zones.{IsZone}

-- True if a query returned the one row of the table `meta` and changed nothing in the database.
abbrev pub ShowsMeta : {Z : Type 0} → Content → (old new : State) → Vec Row Z → Type 0
ShowsMeta content old new rows =
    IsUnchanged old new × ((m : Meta) → IsMarked m content → rows.items ≡ meta_shown m ∷ [])

-- The contract of reading the table `meta`. The result is the time zone, the fault `NotOurs` for an
-- unexpected version, or the fault `Zone` for a text that is no POSIX time zone rule. The only
-- other fault is `Memory`.
pub record ReadsMeta (version : ℕ) (m : Meta) (result : Result Zone OpenFault) : Type 0 where
  pub other : m.version ≢ version → result ≡ Err NotOurs
  pub ours : m.version ≡ version → IfErr result (λ e. (e ≡ NoZone) ⊎ (e ≡ Memory))
  pub zone : IfOk result (HasRule m.zone)
  pub rule : IsUtf8 m.zone → IsZone m.zone → IfErr result (λ e. e ≢ NoZone)
  pub none : (IsZone m.zone → ⊥) → OnOk result ⊥

-- The result of opening a file, unless the database itself fails: the time zone, `NotOurs` for an
-- unexpected version, or `Zone` for a text that is no POSIX time zone rule. A file of version 3
-- with a valid time zone is always opened.
pub record ReportsOpening (version : ℕ) (m : Meta) (old new : State)
    (result : Result Zone OpenFault) : Type 0 where
  pub other : m.version ≢ version
      → OnOk result ⊥ × IfErr result (λ e. (e ≡ NotOurs) ⊎ IsOwnFault old new e)
  pub ours : m.version ≡ version → IfErr result (λ e. e ≢ NotOurs)
  pub zone : IfOk result (HasRule m.zone)
  pub rule : IsUtf8 m.zone → IsZone m.zone → IfErr result (λ e. e ≢ NoZone)
  pub none : (IsZone m.zone → ⊥) → OnOk result ⊥
      × (m.version ≡ version → IfErr result (λ e. (e ≡ NoZone) ⊎ IsOwnFault old new e))
  pub sound : m.version ≡ version → version ≡ 3 → IsUtf8 m.zone → IsZone m.zone
      → IfErr result (IsOwnFault old new)
  pub kept : OnErr result (KeepsCommit old new)

-- The contract of the query for the time zone in a file of a given layout (version). The query
-- commits nothing, and changes nothing if it succeeds.
pub record FindsZone (layout : Layout) (content : Content) (old new : State)
    (result : Result Zone OpenFault) : Type 0 where
  pub kept : KeepsCommit old new
  pub unchanged : OnOk result (IsUnchanged old new)
  pub survives : Survives old new (λ _. ⊥)
  pub reported : (m : Meta) → IsMarked m content → ReportsOpening (version_of layout) m old new result

-- The contract of opening a file of a given layout (version). Nothing is stated if the connection
-- is closed or has uncommitted changes.
abbrev pub ReportsOfLayout : Layout → (old new : State) → Result Zone OpenFault → Type 0
ReportsOfLayout layout old new result =
    (content : Content) → IsTrue old.is_open → old.now ≡ old.committed
    → AreTablesIn (schema_of layout) old.now content
    → (m : Meta) → IsMarked m content → ReportsOpening (version_of layout) m old new result

-- The contract of opening a file of any layout (version). The result depends on the version and the
-- time zone in `meta`.
abbrev pub ReportsOfFile : (old new : State) → Result Zone OpenFault → Type 0
ReportsOfFile old new result =
    (layout : Layout) (content : Content) → AreTablesIn (schema_of layout) old.committed content
    → (m : Meta) → IsMarked m content → ReportsOpening (version_of layout) m old new result
