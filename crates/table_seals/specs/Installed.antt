-- Defines an ordered set of the terms of all installed meters, which makes looking up a sealed
-- meter fast. The terms are a meter's index, name, accounting register (an energy counter) and
-- ceiling (maximum power).
use Rattle.std.specs.Prelude.{◌≡◌, ◌↔◌, ◌⊎◌, ◌++◌, ◌∷◌, [], Bool, ℕ, List, Some, IsTrue, Any, string_bytes}
use Rattle.std.specs.BTreeSet.{BTreeSet, contains}
use Rattle.std.specs.Cmp.Lexicographic.{slice_cmp}
use Rattle.std.specs.Ordering.{nat_cmp, on, then_cmp}
use Rattle.std.specs.declared.cmp.Ordering.{Ordering}
use Rattle.interval_core.specs.declared.zone.Zone.{Zone}
use Rattle.sqlite.specs.Order.{Row}
use Rattle.store_tables.specs.Content.{Content}
use Rattle.table_audit.specs.declared.rows.MeterRows.{MeterRows}
use Rattle.table_seals.specs.Checking.{CheckedMeter, IsInstalled, Keeps, MeterChecks, NotesIfKept, ReportsKept, ReportsMeter, ReportsNames}
use Rattle.table_seals.specs.Sealed.{Sealed}
use Rattle.table_seals.specs.Tables.{TermsAreRead}
use Rattle.table_seals.specs.declared.tables.Terms.{Terms}

-- The order of meters' terms: first by the bytes of the meter's name, then by the bytes of the
-- register's name, then by maximum power, then by index.
abbrev pub terms_cmp : Terms → Terms → Ordering
terms_cmp = then_cmp (on (λ terms. string_bytes terms.meter) (slice_cmp nat_cmp))
    (then_cmp (on (λ terms. string_bytes terms.register) (slice_cmp nat_cmp))
    (then_cmp (on (λ terms. terms.ceiling) nat_cmp) (on (λ terms. terms.place) nat_cmp)))

-- Whether the ordered set `known` contains `terms`, the index, name, register and maximum power of
-- a meter.
abbrev pub has_terms : BTreeSet Terms → Terms → Bool
has_terms known terms = contains terms_cmp known terms

-- States that the terms of two meters are equal: their names, accounting registers (energy
-- counters), maximum powers and indices.
pub record AreSame (terms other : Terms) : Type 0 where
  pub meter : string_bytes terms.meter ≡ string_bytes other.meter
  pub register : string_bytes terms.register ≡ string_bytes other.register
  pub ceiling : terms.ceiling ≡ other.ceiling
  pub place : terms.place ≡ other.place

-- States that the set `new` has exactly the elements of the set `old`, and `terms` (a meter's name,
-- register and maximum power).
abbrev pub AddsTerms : Terms → (old new : BTreeSet Terms) → Type 0
AddsTerms terms old new = (other : Terms)
    → IsTrue (has_terms new other) ↔ (AreSame terms other ⊎ IsTrue (has_terms old other))

-- States that a set has exactly the terms (name, register, maximum power) of the given rows of
-- `installations`.
abbrev pub AreTermsOf : List Row → BTreeSet Terms → Type 0
AreTermsOf rows known = (terms : Terms)
    → IsTrue (has_terms known terms) ↔ Any (λ row. TermsAreRead row (Some terms)) rows

-- Suppose that the set `old` has exactly the terms (name, register, maximum power) of some rows of
-- `installations`. Then the set `new` has exactly the terms of these rows and of one more row.
abbrev pub AddsTermsOf : Row → (old new : BTreeSet Terms) → Type 0
AddsTermsOf row old new = (rows : List Row) → AreTermsOf rows old
    → AreTermsOf (rows ++ row ∷ []) new

-- Suppose that the set `known` has the terms (name, register, maximum power) of all installed
-- meters. Then `there` is true if and only if a meter is installed with the terms that a seal
-- states.
abbrev pub ReportsInstalled : BTreeSet Terms → Sealed → (there : Bool) → Type 0
ReportsInstalled known seal there = (installed : List Row) → AreTermsOf installed known
    → IsTrue there ↔ IsInstalled installed seal

-- States that `checked` says whether a meter's rows match its seal (a digest of earlier entries),
-- and has the lines about later voids (cancellations of entries).
pub record ChecksMeter (zone : Zone) (installed : List Row) (rows : MeterRows) (seal : Sealed)
    (checked : CheckedMeter) : Type 0 where
  pub reported : IsTrue checked.kept ↔ Keeps installed rows seal
  pub noted : NotesIfKept zone rows seal checked.kept checked.notes

-- Suppose that the set `known` has the terms (name, register, maximum power) of all installed
-- meters. Then `checked` is the result of checking a meter's rows against its seal.
abbrev pub ChecksRows : BTreeSet Terms → Zone → MeterRows → Sealed → CheckedMeter → Type 0
ChecksRows known zone rows seal checked = (installed : List Row) → AreTermsOf installed known
    → ChecksMeter zone installed rows seal checked

-- Suppose that the set `known` has the terms (name, register, maximum power) of all rows of
-- `installations`. Then `checked` is the result of checking a meter of these tables against its
-- seal (digests of earlier records).
abbrev pub ReportsKeptAt : BTreeSet Terms → Zone → Sealed → Content → CheckedMeter → Type 0
ReportsKeptAt known zone seal content checked = (installed : List Row) → AreTermsOf installed known
    → ReportsKept zone installed seal content checked

-- Suppose that the set `known` has the terms (name, register, maximum power) of all rows of
-- `installations`. Then a meter was checked against its seal (digests of earlier records), and the
-- result was appended.
abbrev pub ReportsMeterAt : BTreeSet Terms → Zone → Sealed → Content → (old new : MeterChecks)
    → Type 0
ReportsMeterAt known zone seal content old new = (installed : List Row)
    → AreTermsOf installed known → ReportsMeter zone installed seal content old new

-- Suppose that the set `known` has the terms (name, register, maximum power) of all rows of
-- `installations`. Then meters were checked against their seals (digests of earlier records).
abbrev pub ReportsNamesAt : BTreeSet Terms → Zone → List Sealed → Content → MeterChecks → Type 0
ReportsNamesAt known zone seals content checks = (installed : List Row)
    → AreTermsOf installed known → ReportsNames zone installed seals content checks
