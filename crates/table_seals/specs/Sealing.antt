-- Defines the seal of a file's tables, which has digests of the meters' entries and of the polls.
use Rattle.std.specs.Prelude.{⊤, ◌≡◌, ◌⊎◌, ℕ, true, List, [], ◌∷◌, Option, Some, None, Vec, map, length}
use Rattle.std.specs.List.{slice_get}
use Rattle.sha2.specs.Sha256.{sha256}
use Rattle.interval_core.specs.Zone.{HasRule}
use Rattle.interval_core.specs.declared.zone.Zone.{Zone}
use Rattle.meter_journal.specs.declared.audit.rows.TableRow.{TableRow}
use Rattle.sqlite.specs.Order.{Row}
use Rattle.store_tables.specs.Content.{Content}
use Rattle.table_audit.specs.declared.rows.MeterRows.{MeterRows}
use Rattle.table_audit.specs.FileMark.{IsZoneOf}
use Rattle.table_audit.specs.Showing.{ShowsInstallations}
use Rattle.table_seals.specs.declared.seals.MeterSeal.{MeterSeal}
use Rattle.table_seals.specs.declared.seals.Seal.{Seal}
use Rattle.table_seals.specs.Months.{HasMonths}
use Rattle.table_seals.specs.PollSealing.{SealsPolls}
use Rattle.table_seals.specs.Sealed.{Sealed, line_bytes, sealed_of}
use Rattle.table_seals.specs.Setup.{HasSetup}
use Rattle.table_seals.specs.Tables.{AreTheirs, HasTerms, HasRead, is_word}
use Rattle.table_seals.specs.Texts.{entries_text}

-- States that `seal` is the seal (a digest of the entries) of the meter in an `installations` row.
-- The names in the seal are words, so its text can be parsed. `zone` is the file's time zone.
pub record IsSealOf (zone : Zone) (row : Row) (rows : MeterRows) (seal : Sealed) : Type 0 where
  pub terms : HasTerms row seal.place seal.meter seal.register seal.ceiling
  pub meter_word : is_word seal.meter ≡ true
  pub register_word : is_word seal.register ≡ true
  pub all_entries : List TableRow
  pub read : HasRead rows seal.range seal.voids all_entries
  pub count : seal.entries ≡ length all_entries
  pub digest_is : seal.digest ≡ sha256 (entries_text all_entries)
  pub months : HasMonths zone seal.range seal.ceiling all_entries seal.months

-- States that a result is the seal (a digest of the entries) of the meter with the given rows. None
-- means that the meter can't be sealed.
abbrev pub IsSealed : Zone → Row → MeterRows → Option MeterSeal → Type 0
IsSealed zone row rows None = (seal : Sealed) → IsSealOf zone row rows seal → ⊥
IsSealed zone row rows (Some seal) = IsSealOf zone row rows (sealed_of seal)

-- States that a result is the seal (a digest of the entries) of the meter in an `installations`
-- row. If the row has no meter's name, the result is None.
abbrev pub IsSealedAt : Zone → Row → Option MeterRows → Option MeterSeal → Type 0
IsSealedAt zone row (Some rows) found = IsSealed zone row rows found
IsSealedAt zone row None None = ⊤
IsSealedAt zone row None (Some seal) = ⊥

-- States that `found` is the seal (a digest of the entries) of the meter in an `installations` row,
-- computed from the meter's rows in the tables.
pub record SealsRow (zone : Zone) (content : Content) (row : Row) (found : Option MeterSeal) :
    Type 0 where
  pub rows : Option MeterRows
  pub theirs : AreTheirs content row rows
  pub is_sealed : IsSealedAt zone row rows found

-- States that a list has the seal (a digest of the entries) of the meter in each row of
-- `installations`, in the order of the rows.
abbrev pub AreSealed : Zone → Content → List Row → List MeterSeal → Type 0
AreSealed zone content [] [] = ⊤
AreSealed zone content (row ∷ rows) (seal ∷ seals) =
    SealsRow zone content row (Some seal) × AreSealed zone content rows seals
AreSealed zone content [] (seal ∷ seals) = ⊥
AreSealed zone content (row ∷ rows) [] = ⊥

-- True if one of the rows of `installations` has a meter that can't be sealed (digested).
abbrev pub HasUnsealed : Zone → List Row → Content → Type 0
HasUnsealed zone rows content =
    (i : ℕ) × (row : Row) × (slice_get rows i ≡ Some row) × SealsRow zone content row None

-- States that a result has the seals (digests of entries) of the meters in all rows of
-- `installations`. None means that a value of one meter is out of its range, or a name is not a
-- word.
abbrev pub SealsRows : {Z : Type 0} → Zone → List Row → Content → Option (Vec MeterSeal Z)
    → Type 0
SealsRows zone rows content None = HasUnsealed zone rows content
SealsRows zone rows content (Some seals) = AreSealed zone content rows seals.items

-- States that `found` has the seals (digests of entries) of all meters in the tables. None means
-- that one of the meters can't be sealed.
pub record SealsMeters {Z : Type 0} (zone : Zone) (content : Content)
    (found : Option (Vec MeterSeal Z)) : Type 0 where
  pub rows : List Row
  pub shown : ShowsInstallations content rows
  pub sealed : SealsRows zone rows content found

-- True if the tables have a meter that can't be sealed (digested) in a time zone.
pub record HasUnsealedMeter (zone : Zone) (content : Content) : Type 0 where
  pub rows : List Row
  pub shown : ShowsInstallations content rows
  pub unsealed : HasUnsealed zone rows content

-- True if the tables can't be sealed (digested) in a time zone: a meter can't be sealed, or the
-- polls can't be parsed from their rows.
abbrev pub CannotBeSealedIn : Zone → Content → Type 0
CannotBeSealedIn zone content = HasUnsealedMeter zone content ⊎ SealsPolls content None

-- States that a seal has the lines of a file's time zone, devices and registers, and the digest of
-- its polls. Of each meter, it has the digest of the entries and the energies by month.
pub record IsSealOfTables (zone : Zone) (text : List ℕ) (content : Content) (seal : Seal) : Type 0
  where
    pub setup : HasSetup text content (map line_bytes seal.setup.items)
    pub meters : SealsMeters zone content (Some seal.meters)
    pub polls : SealsPolls content (Some seal.polls)

-- States that a result is the seal of a file's tables in a time zone. None means that a meter or
-- the polls can't be sealed.
abbrev pub SealsInZone : Zone → (text : List ℕ) → Content → Option Seal → Type 0
SealsInZone zone text content None = CannotBeSealedIn zone content
SealsInZone zone text content (Some seal) = IsSealOfTables zone text content seal

-- States that the table `meta` has one row, with the time zone `zone`, whose text is `text`.
pub record IsInZone (content : Content) (text : List ℕ) (zone : Zone) : Type 0 where
  pub is_zone : IsZoneOf content text
  pub has_rule : HasRule text zone

-- States that a result is the seal of a file's tables in the file's time zone. None means that the
-- file has no time zone, or that a meter or the polls can't be sealed.
pub record SealsFile (content : Content) (found : Option Seal) : Type 0 where
  pub text : List ℕ
  pub zone : Zone
  pub in_zone : IsInZone content text zone
  pub sealed : SealsInZone zone text content found

-- True if the table `meta` has no time zone, or not exactly one row.
abbrev pub HasNoZone : Content → Type 0
HasNoZone content = (text : List ℕ) → IsZoneOf content text → ⊥

-- True if the tables can't be sealed (digested): the file has no time zone, a meter can't be
-- sealed, or the polls can't be parsed from their rows.
abbrev pub CannotBeSealed : Content → Type 0
CannotBeSealed content = HasNoZone content ⊎ SealsFile content None

-- States that a result is the seal of a file's tables. None means that the file has no time zone,
-- or that a meter or the polls can't be sealed.
abbrev pub SealsTables : Content → Option Seal → Type 0
SealsTables content None = CannotBeSealed content
SealsTables content (Some seal) = SealsFile content (Some seal)
