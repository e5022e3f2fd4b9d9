-- Defines whether a database file still matches its seal, a text with digests of the records that
-- the file had at an earlier time.
use Rattle.std.specs.Prelude.{⊤, ◌≡◌, ◌↔◌, ◌≤◌, ℕ, Bool, true, false, List, [], ◌∷◌, ◌++◌, Option, Some, None, map, flat_map, take, length, string_bytes, IsTrue, Any}
use Rattle.std.specs.List.{list_all}
use Rattle.sha2.specs.Sha256.{sha256}
use Rattle.interval_core.specs.declared.zone.Zone.{Zone}
use Rattle.sqlite.specs.Order.{Row}
use Rattle.store_tables.specs.Content.{Content}
use Rattle.table_audit.specs.declared.rows.MeterRows.{MeterRows}
use Rattle.table_audit.specs.Showing.{AreRowsOf, ShowsInstallations}
use Rattle.table_seals.specs.declared.checking.CheckedMeters.{CheckedMeters}
use Rattle.table_seals.specs.declared.checking.MeterCheck.{MeterCheck}
use Rattle.table_seals.specs.declared.checks.Checked.{Checked}
use Rattle.table_seals.specs.declared.tables.ReadRows.{ReadRows}
use Rattle.table_seals.specs.Notes.{PrintsNotes}
use Rattle.table_seals.specs.PollSealing.{ReportsPolls}
use Rattle.table_seals.specs.Sealed.{Sealed, SealedTables, line_bytes}
use Rattle.table_seals.specs.Sealing.{HasNoZone, IsInZone}
use Rattle.table_seals.specs.Setup.{ReportsSetup}
use Rattle.table_seals.specs.Tables.{HasTerms, HasRead, is_void_among}
use Rattle.table_seals.specs.Texts.{entries_text}

-- States that one of the rows of `installations` has the index, the meter, the accounting register
-- and the ceiling (maximum power) that a seal (digests of earlier records) names.
abbrev pub IsInstalled : List Row → Sealed → Type 0
IsInstalled installed seal =
    Any (λ row. HasTerms row seal.place seal.meter seal.register seal.ceiling) installed

-- States that the parsed rows of a meter have the sealed counter range. The first entries have the
-- digest that the seal states, and all sealed void (cancellation) records still exist. Further
-- entries and void records may follow.
pub record HasSealedAs (read : ReadRows) (seal : Sealed) : Type 0 where
  pub range : read.range ≡ seal.range
  pub enough : seal.entries ≤ length read.entries.items
  pub same : sha256 (entries_text (take seal.entries read.entries.items)) ≡ seal.digest
  pub still : list_all (λ void. is_void_among read.voids.items void) seal.voids ≡ true

-- States that a meter's rows are valid, and that its first entries, its void (cancellation) records
-- and its counter range are as its seal states.
pub record HasSealed (rows : MeterRows) (seal : Sealed) : Type 0 where
  pub read : ReadRows
  pub is_read : HasRead rows read.range read.voids.items read.entries.items
  pub has : HasSealedAs read seal

-- States that the tables still match a meter's seal, a digest of earlier entries. They have the
-- sealed index, register, maximum power and range, the sealed first entries, and the sealed void
-- (cancellation) records with their times.
abbrev pub Keeps : List Row → MeterRows → Sealed → Type 0
Keeps installed rows seal = IsInstalled installed seal × HasSealed rows seal

-- The result of checking a meter against its seal: whether the meter matches the seal, and the
-- printed lines about later voids (cancellations of entries).
pub record CheckedMeter : Type 0 where
  pub kept : Bool
  pub notes : List ℕ

-- Converts the program's `MeterCheck` to the record `CheckedMeter` that contracts and proofs use.
abbrev pub check_of : MeterCheck → CheckedMeter
check_of check = record { kept = check.kept; notes = check.notes.items }

-- The results of checking meters against their seals: the names of the meters that differ, and the
-- printed lines about later voids of the others.
pub record MeterChecks : Type 0 where
  pub names : List (List ℕ)
  pub notes : List ℕ

-- Converts the program's `CheckedMeters` to the record `MeterChecks` that contracts and proofs use.
abbrev pub checks_of : CheckedMeters → MeterChecks
checks_of checked = record {
  names = map string_bytes checked.differing.items;
  notes = checked.notes.items;
}

-- What the check prints about later voids (cancellations of entries) of a meter. It prints nothing
-- for a meter that doesn't match its seal.
abbrev pub NotesIfKept : Zone → MeterRows → Sealed → (kept : Bool) → (notes : List ℕ) → Type 0
NotesIfKept zone rows seal true notes = PrintsNotes zone rows seal notes
NotesIfKept zone rows seal false notes = notes ≡ []

-- States that `checked` is the result for a meter: whether the tables still match its seal (a
-- digest of its earlier entries), and the lines about later voids.
pub record ReportsKept (zone : Zone) (installed : List Row) (seal : Sealed) (content : Content)
    (checked : CheckedMeter) : Type 0 where
  pub rows : MeterRows
  pub theirs : AreRowsOf seal.meter content rows
  pub reported : IsTrue checked.kept ↔ Keeps installed rows seal
  pub noted : NotesIfKept zone rows seal checked.kept checked.notes

-- States that each result in the second list is that of checking a meter against the seal (digest
-- of earlier entries) at this index of the first list.
abbrev pub AreReported : Zone → List Row → Content → List Sealed → List CheckedMeter → Type 0
AreReported zone installed content [] [] = ⊤
AreReported zone installed content (seal ∷ seals) (checked ∷ others) =
    ReportsKept zone installed seal content checked
    × AreReported zone installed content seals others
AreReported zone installed content [] (checked ∷ others) = ⊥
AreReported zone installed content (seal ∷ seals) [] = ⊥

-- A list with the name of a meter, or an empty list if the tables match the meter's seal (a digest
-- of its earlier entries).
abbrev pub unless_kept : (kept : Bool) → (meter : List ℕ) → List (List ℕ)
unless_kept true meter = []
unless_kept false meter = meter ∷ []

-- States that the result of checking a meter was appended to the results of earlier meters: the
-- meter's name if it differs from its seal, and its lines about later voids.
pub record AppendsCheck (checked : CheckedMeter) (meter : List ℕ) (old new : MeterChecks) : Type 0
  where
    pub names : new.names ≡ old.names ++ unless_kept checked.kept meter
    pub notes : new.notes ≡ old.notes ++ checked.notes

-- States that a meter was checked against its seal (a digest of its earlier entries), and that the
-- result was appended to the results of earlier meters.
pub record ReportsMeter (zone : Zone) (installed : List Row) (seal : Sealed) (content : Content)
    (old new : MeterChecks) : Type 0 where
  pub checked : CheckedMeter
  pub reported : ReportsKept zone installed seal content checked
  pub appended : AppendsCheck checked seal.meter old new

-- The names of the meters that don't match their seals (digests of earlier entries), in the order
-- of the seals.
abbrev pub differing : List Sealed → List CheckedMeter → List (List ℕ)
differing [] checked = []
differing (seal ∷ seals) [] = []
differing (seal ∷ seals) (checked ∷ others) =
    unless_kept checked.kept seal.meter ++ differing seals others

-- States that meters were checked against their seals (digests of earlier entries), for the given
-- rows of `installations`. The result has the names of the meters that differ, and the lines about
-- later voids of the others, in the order of the seals.
pub record ReportsNames (zone : Zone) (installed : List Row) (seals : List Sealed)
    (content : Content) (checks : MeterChecks) : Type 0 where
  pub checked : List CheckedMeter
  pub reported : AreReported zone installed content seals checked
  pub names_are : checks.names ≡ differing seals checked
  pub notes_are : checks.notes ≡ flat_map (λ meter. meter.notes) checked

-- States that meters were checked against their seals (digests of earlier entries). The result has
-- the names of the meters that differ, and the lines about later voids of the others, in the order
-- of the seals.
pub record ReportsMeters (zone : Zone) (seals : List Sealed) (content : Content)
    (checks : MeterChecks) : Type 0 where
  pub installed : List Row
  pub shown : ShowsInstallations content installed
  pub reports : ReportsNames zone installed seals content checks

-- The results for meters in the result of checking a file against its seal (digests of earlier
-- records).
abbrev pub meter_checks : Checked → MeterChecks
meter_checks checked = record {
  names = map string_bytes checked.differing.items;
  notes = checked.notes.items;
}

-- States that `checked` is the result of checking a file in its time zone against its seal (digests
-- of earlier records). It has the meters that differ from the seal, the lines about later voids,
-- whether the polls differ, and the number of sealed meters. It also has the sealed lines of the
-- time zone, the devices and the registers that are gone.
pub record ReportsInZone (zone : Zone) (text : List ℕ) (seal : SealedTables) (content : Content)
    (checked : Checked) : Type 0 where
  pub meters : ReportsMeters zone seal.meters content (meter_checks checked)
  pub setup : ReportsSetup text seal.setup content (map line_bytes checked.setup.items)
  pub polls : ReportsPolls seal.polls content checked.polls_differ
  pub count : checked.meters ≡ length seal.meters

-- States that `checked` is the result of checking a file against its seal (digests of earlier
-- records), in the file's time zone.
pub record ReportsTables (seal : SealedTables) (content : Content) (checked : Checked) : Type 0
  where
    pub text : List ℕ
    pub zone : Zone
    pub in_zone : IsInZone content text zone
    pub reported : ReportsInZone zone text seal content checked

-- States that the result of checking a file against its seal (digests of earlier records) is the
-- given one. There is no result if the file has no time zone.
abbrev pub ReportsIfZone : SealedTables → Content → Option Checked → Type 0
ReportsIfZone seal content None = HasNoZone content
ReportsIfZone seal content (Some checked) = ReportsTables seal content checked

-- States that the check of a file against its seal (digests of earlier records) found that the time
-- zone, all devices, registers and meters, and the polls match the seal.
pub record IsAsSealed (checked : Checked) : Type 0 where
  pub meters : checked.differing.items ≡ []
  pub setup : checked.setup.items ≡ []
  pub polls : checked.polls_differ ≡ false
