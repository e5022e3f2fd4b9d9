-- Defines the query for the time zone of a database file, which is stored in the table `meta`.
use Rattle.std.specs.Prelude.{◌≡◌, ℕ, List, [], ◌∷◌, Vec, String, string_bytes}
use Rattle.sqlite.specs.declared.types.Value.TheVariants.{Text}
use Rattle.sqlite.specs.Order.{Row}
use Rattle.sqlite.specs.State.{State, IsUnchanged}
use Rattle.store_tables.specs.Content.{Content}
use Rattle.store_tables.specs.Meta.{Meta, IsMarked}

-- The result row of the query for the time zone in the table `meta`.
abbrev pub zone_shown : Meta → Row
zone_shown m = Text m.zone ∷ []

-- States that the query for the time zone returns one row with the time zone in the table `meta`,
-- and changes nothing.
abbrev pub ShowsZone : {Z : Type 0} → Content → (old new : State) → Vec Row Z → Type 0
ShowsZone content old new rows =
    IsUnchanged old new × ((m : Meta) → IsMarked m content → rows.items ≡ zone_shown m ∷ [])

-- States that `reported` is the time zone `zone` of a database file, and that the query for the
-- time zone committed nothing.
pub record ReportsZone {Z : Type 0} (zone : List ℕ) (old new : State) (reported : String Z) : Type 0 where
  pub bytes : string_bytes reported ≡ zone
  pub same : new.committed ≡ old.committed
