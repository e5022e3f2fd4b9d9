-- Defines how the meters of a register (a named counter) are joined over several database files.
-- Each meter of the next file must continue an earlier meter, or begin after the earlier meters
-- were closed.
--
-- Each list of meters of a register (a named counter) is in the order of their installation.
use Rattle.std.specs.Prelude.{◌≡◌, ◌⊎◌, ◌+◌, ◌-◌, ◌^◌, nat_le, min, Bool, true, false, not, ◌&&◌, List, [], ◌∷◌, ◌++◌, All, Contains, Option, Some, None}
use Rattle.meter_journal.specs.Audit.CarriedFiles.{GoesOnAs}
use Rattle.office_events.specs.declared.questions.Installation.{Installation}
use Rattle.office_books.specs.Facts.{same}
use Rattle.office_books.specs.Meters.{installed}
use Rattle.office_books.specs.Rows.{TakesAll, TakesFirst}
use Rattle.carried_books.specs.declared.joining.meters.Apart.{Apart}

-- The meter `stands` of an earlier database file continues as the meter `row` of a later file.
--
-- A meter of an earlier file (`stands`) continues as `row` if both have the same name, range and
-- ceiling (maximum power). In addition, `stands` is open, and its state equals the opening (first
-- entry) of `row`. The audit of several database files requires the same of a meter that continues.
pub record GoesOn (stands row : Installation) : Type 0 where
  pub name : row.opening.meter ≡ stands.opening.meter
  pub goes : GoesOnAs (installed stands.opening) stands.last stands.ended (installed row.opening)

-- One meter over two database files. The meter has the opening (first entry) of `stands` and the
-- later state of `row`. Its energy is that of both files in mWh, at most 2^64 - 1.
abbrev pub as_one : (stands row : Installation) → Installation
as_one stands row = record {
  opening = stands.opening;
  last = row.last;
  total = min (stands.total + row.total) (2 ^ 64 - 1);
  ended = row.ended;
}

-- True if the meter `stands` precedes the meter `row`: the meters have different names, and
-- `stands` was closed by the time when `row` was opened.
abbrev pub is_before : (stands row : Installation) → Bool
is_before stands row =
    stands.ended
    && (nat_le stands.last.at row.opening.at && not (same row.opening.meter stands.opening.meter))

-- States that the meter `row` continues the last meter in the list `known`. In the list `after`,
-- one meter over all database files replaces these two meters.
pub record IsOne (known : List Installation) (row : Installation) (after : List Installation) :
    Type 0 where
  pub before : List Installation
  pub stands : Installation
  pub known_is : known ≡ before ++ stands ∷ []
  pub goes : GoesOn stands row
  pub after_is : after ≡ before ++ as_one stands row ∷ []

-- All meters in the list `known` precede the meter `row` (were closed before `row` began), and
-- `row` is appended to this list.
pub record IsNext (known : List Installation) (row : Installation) (after : List Installation) :
    Type 0 where
  pub earlier : All (λ stands. is_before stands row ≡ true) known
  pub after_is : after ≡ known ++ row ∷ []

-- States that `after` is the list `known` with the meter `row` added. Either `row` continues the
-- last meter in `known`, or all meters in `known` were closed before `row` began.
abbrev pub AddsMeter : (known : List Installation) → Installation → (after : List Installation)
    → Type 0
AddsMeter known row after = IsOne known row after ⊎ IsNext known row after

-- The list of earlier meters `known` is not empty, and the meter `row` of a later file does not
-- continue the last meter of the list.
pub record EndsOtherwise (known : List Installation) (row : Installation) : Type 0 where
  pub before : List Installation
  pub stands : Installation
  pub known_is : known ≡ before ++ stands ∷ []
  pub other : GoesOn stands row → ⊥

-- The list of earlier meters `known` is empty, or the meter `row` of a later database file does not
-- continue the last meter of the list.
abbrev pub NoneGoesOn : (known : List Installation) → Installation → Type 0
NoneGoesOn known row = (known ≡ []) ⊎ EndsOtherwise known row

-- The meter `row` does not continue the last of the earlier meters in `known`. The earlier meter
-- that `apart` names was not closed before `row` began, or has the name of `row`.
pub record IsApart (known : List Installation) (row : Installation) (apart : Apart) : Type 0 where
  pub begins : apart.begins ≡ row
  pub among : Contains known apart.stands
  pub not_before : is_before apart.stands row ≡ false
  pub other : NoneGoesOn known row

-- If adding the meter `row` returns `None`, `row` is appended to `known`, because all meters in
-- this list were closed before `row` began. Any other result has a meter that was not closed before
-- `row` began, or that has the name of `row`.
abbrev pub AddsNext : (known : List Installation) → Installation → (after : List Installation)
    → Option Apart → Type 0
AddsNext known row after None = IsNext known row after
AddsNext known row after (Some apart) =
    (apart.begins ≡ row) × Contains known apart.stands × (is_before apart.stands row ≡ false)

-- If adding the meter `row` returns `None`, `row` continues the last of the earlier meters in
-- `known`, or begins after all of them were closed. Any other result has an earlier meter that was
-- not closed before `row` began, or that has the name of `row`.
abbrev pub AddsOrIsApart : (known : List Installation) → Installation
    → (after : List Installation) → Option Apart → Type 0
AddsOrIsApart known row after None = AddsMeter known row after
AddsOrIsApart known row after (Some apart) = IsApart known row apart

-- Each meter in `listed` continues the meter before it, or begins after the meters before it were
-- closed. The first meter in `listed` is compared with the earlier meters in `known`.
abbrev pub AddMeters : (known listed after : List Installation) → Type 0
AddMeters known listed after = TakesAll AddsMeter known listed after

-- Some meters in `listed` were added to those in `known`. Then a meter was found that does not
-- continue an earlier meter, and does not begin after all earlier meters were closed.
pub record AreApart (known listed : List Installation) (apart : Apart) : Type 0 where
  pub mid : List Installation
  pub begun : TakesFirst AddsMeter known listed mid
  pub row : Installation
  pub among : Contains listed row
  pub is : IsApart mid row apart

-- If adding the meters in `listed` returns `None`, all of them were added to those in `known`. Any
-- other result has a later meter, and an earlier meter with which the later meter conflicts (they
-- overlap in time or have one name).
abbrev pub AddOrAreApart : (known listed after : List Installation) → Option Apart → Type 0
AddOrAreApart known listed after None = AddMeters known listed after
AddOrAreApart known listed after (Some apart) = AreApart known listed apart
