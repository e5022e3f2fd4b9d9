-- Defines when the table `meta` has exactly one row, and this row is that of a file of the
-- program's present version.
use Rattle.std.specs.Prelude.{◌≡◌, ◌↔◌, ℕ, pos, Bool, List, [], ◌∷◌, Option, Some, None, String, string_bytes, IsTrue, IsUtf8}
use Rattle.interval_core.specs.Zone.{IsZoneText}
use Rattle.sqlite.specs.declared.types.Value.TheVariants.{Int, Text}
use Rattle.sqlite.specs.Order.{Row, column}
use Rattle.store_tables.specs.Answer.{every}
use Rattle.store_tables.specs.Asking.{Shows}
use Rattle.store_tables.specs.Content.{Content}
use Rattle.store_tables.specs.Meta.{meta}
use Rattle.table_audit.specs.Showing.{InPlace}

-- The result row of a query on the table `meta`: the row's number, the file's version, and the time
-- zone.
abbrev pub mark_shown : Row → Row
mark_shown row = column row 0 ∷ column row 2 ∷ column row 3 ∷ []

-- True if a query returns all rows of `meta`, in ascending order of their ids.
abbrev pub ShowsMarks : Content → List Row → Type 0
ShowsMarks content rows = Shows every InPlace mark_shown (content meta) rows

-- True if the third column of a result row is a text that is a valid time zone: a POSIX rule of at
-- most 64 bytes.
pub record HasZone (row : Row) : Type 0 where
  pub zone : List ℕ
  pub shown : column row 2 ≡ Text zone
  pub utf8 : IsUtf8 zone
  pub valid : IsZoneText zone

-- True if a result row of a query on `meta` has the id 1, version 3 and a time zone.
pub record IsMark (row : Row) : Type 0 where
  pub number : column row 0 ≡ Int (pos 1)
  pub version : column row 1 ≡ Int (pos 3)
  pub zone : HasZone row

-- True if a query on the table `meta` (a file's version and time zone) returned a single row, and
-- this row has the present version number.
abbrev pub AreMarks : List Row → Type 0
AreMarks rows = (row : Row) × (rows ≡ row ∷ []) × IsMark row

-- True if the Boolean `fine` is true exactly when `meta` has one row only, which is that of a file
-- of the present version.
pub record ReportsMark (content : Content) (fine : Bool) : Type 0 where
  pub rows : List Row
  pub shown : ShowsMarks content rows
  pub reported : IsTrue fine ↔ AreMarks rows

-- States that the rows of `meta` are a single row, with the time zone whose text is `zone`.
pub record HasOneZone (rows : List Row) (zone : List ℕ) : Type 0 where
  pub row : Row
  pub one : rows ≡ row ∷ []
  pub is : column row 2 ≡ Text zone
  pub utf8 : IsUtf8 zone
  pub valid : IsZoneText zone

-- States that a result is the text of the time zone of a single row. None means that there is not
-- exactly one row, or that the row has no time zone.
abbrev pub ReadsZone : {Z : Type 0} → List Row → Option (String Z) → Type 0
ReadsZone rows None = (zone : List ℕ) → HasOneZone rows zone → ⊥
ReadsZone rows (Some zone) = HasOneZone rows (string_bytes zone)

-- States that `meta` has exactly one row, with the time zone whose text is `zone`.
pub record IsZoneOf (content : Content) (zone : List ℕ) : Type 0 where
  pub rows : List Row
  pub shown : ShowsMarks content rows
  pub row : Row
  pub one : rows ≡ row ∷ []
  pub is : column row 2 ≡ Text zone
  pub utf8 : IsUtf8 zone
  pub valid : IsZoneText zone

-- States that a result is the text of the file's time zone, or None because `meta` has none or not
-- exactly one row.
abbrev pub FindsZone : {Z : Type 0} → Content → Option (String Z) → Type 0
FindsZone content None = (zone : List ℕ) → IsZoneOf content zone → ⊥
FindsZone content (Some zone) = IsZoneOf content (string_bytes zone)
