-- Defines which rows of `intervals` (a meter's energy by quarter hour) a streaming query returns,
-- and in which order.
use Rattle.std.specs.Prelude.{◌≡◌, ◌<◌, ◌≤◌, ◌⊎◌, ℕ, nat_le, nat_lt, Bool, bytes_eq, ◌&&◌, List, map}
use Rattle.std.specs.List.{AllByRecursion}
use Rattle.sqlite_keyed.specs.Lists.{pairs}
use Rattle.interval_core.specs.declared.shares.Share.{Share}
use Rattle.store_tables.specs.Content.{Content, HasRows}
use Rattle.store_tables.specs.Answer.{AreFound, FirstFirst}
use Rattle.store_tables.specs.Meters.Trees.{installations}
use Rattle.store_tables.specs.Meters.Rows.{Installed, installed_columns, installed_place, is_at}
use Rattle.office_store.specs.Intervals.Trees.{intervals}
use Rattle.office_store.specs.Intervals.Rows.{Interval, interval_columns, is_of, start_of, IsSoundInterval}

-- True if a list has exactly the rows of `intervals`, the table of each meter's energy by quarter
-- hour.
abbrev pub HaveIntervals : List Interval → Content → Type 0
HaveIntervals = HasRows intervals interval_columns

-- True if the list of shares (the energies of single quarter hours) is a meter's energy, ordered by
-- the starts of the quarter hours.
abbrev pub AreSharesOfMeter : (meter : List ℕ) → List Interval → List Share → Type 0
AreSharesOfMeter meter rows all =
    (found : List Interval) × AreFound (is_of meter) (FirstFirst start_of) rows found
    × (all ≡ map (λ i. i.share) found)

-- True if every value of every row of `intervals` (each meter's energy by quarter hour) is in the
-- range that its column allows.
abbrev pub AreSoundIntervals : List Interval → Type 0
AreSoundIntervals = AllByRecursion IsSoundInterval

-- Definitions on the rows of `intervals` for an accounting register (a named energy counter),
-- ordered by its meters, then by start.

-- The two tables that a query for an accounting register (a named energy counter) joins:
-- `installations` (the meters) and `intervals` (their energy).
pub record Lying : Type 0 where
  pub installed : List Installed
  pub rows : List Interval

-- True if `lying` has exactly the rows of the tables `installations` and `intervals`.
pub record HaveLying (lying : Lying) (content : Content) : Type 0 where
  pub installed : HasRows installations installed_columns lying.installed content
  pub rows : HasRows intervals interval_columns lying.rows content

-- True if a row of `intervals` belongs to a meter that was installed at `register`, an accounting
-- register (a named energy counter).
abbrev pub lies_at : (register : List ℕ) → Installed × Interval → Bool
lies_at register p = bytes_eq p.1.meter p.0.meter && is_at register p.0

-- The order of rows of `intervals` for an accounting register (a named energy counter): first by
-- the meter's index in `installations`, then by the quarter hour's start.
abbrev pub ComesAfter : Installed × Interval → Installed × Interval → Type 0
ComesAfter p q =
    (installed_place p.0 < installed_place q.0)
    ⊎ ((installed_place p.0 ≡ installed_place q.0) × (start_of p.1 ≤ start_of q.1))

-- True if the list of shares (the energies of single quarter hours) is the energy of an accounting
-- register (a named energy counter). The shares of one meter follow those of another, in the order
-- of installation.
abbrev pub AreSharesAt : (register : List ℕ) → Lying → List Share → Type 0
AreSharesAt register lying all =
    (found : List (Installed × Interval))
    × AreFound (lies_at register) ComesAfter (pairs lying.installed lying.rows) found
    × (all ≡ map (λ p. p.1.share) found)

-- True if every value of every row of `intervals` is in the range that its column allows. Nothing
-- is assumed about the rows of `installations`, which only select rows of `intervals`.
abbrev pub AreSoundLying : Lying → Type 0
AreSoundLying lying = AreSoundIntervals lying.rows

-- True if the start of a quarter hour is at least `from` and less than `till`.
abbrev pub is_between : (from till : ℕ) → Interval → Bool
is_between from till i = nat_le from (start_of i) && nat_lt (start_of i) till

-- True if the list of shares (the energies of single quarter hours) is a meter's energy, ordered by
-- the starts of the quarter hours. Only quarter hours with starts of at least `from` and less than
-- `till` are in the list.
abbrev pub AreSharesOfMeterBetween : (meter : List ℕ) → (from till : ℕ) → List Interval
    → List Share → Type 0
AreSharesOfMeterBetween meter from till rows all =
    (found : List Interval)
    × AreFound (λ i. is_of meter i && is_between from till i) (FirstFirst start_of) rows found
    × (all ≡ map (λ i. i.share) found)

-- True if the list of shares (the energies of single quarter hours) is the energy of an accounting
-- register (a named energy counter). The starts of the quarter hours are at least `from` and less
-- than `till`. The meters follow one another in the order of installation.
abbrev pub AreSharesAtBetween : (register : List ℕ) → (from till : ℕ) → Lying → List Share → Type 0
AreSharesAtBetween register from till lying all =
    (found : List (Installed × Interval))
    × AreFound (λ p. lies_at register p && is_between from till p.1) ComesAfter
    (pairs lying.installed lying.rows) found
    × (all ≡ map (λ p. p.1.share) found)
