-- Proofs that a row of `intervals` is read back as the energy that it encodes.
use Rattle.std.proofs.Common.{◌≡◌, ◌≤◌, zero-le, ℕ, Option, Some, None, Ok, Result, IfOk, IfErr, refl}
use Rattle.sqlite.specs.Order.{Row, column}
use Rattle.interval_core.specs.declared.shares.Share.{Share}
use Rattle.store_tables.specs.declared.faults.RowFault.{RowFault}
use Rattle.store_tables.specs.declared.faults.RowFault.TheVariants.{Damaged}
use Rattle.store_tables.specs.Columns.{whole_in, or_damaged, and_then}
use Rattle.store_tables.specs.Limits.{latest_moment}
use Rattle.store_tables.specs.Meters.Rows.{greatest_total}
use Rattle.store_tables.proofs.ReadLemmas.{IsFair, fair_whole, whole_bounds}
use Rattle.office_store.specs.Intervals.Rows.{Interval, share_in, share_shown, IsSoundShare, IsSoundInterval}

pub fair_share : (i : Interval) → IsFair (IsSoundInterval i) (λ s. s ≡ i.share) (share_in (share_shown i))
fair_share i =
    let S = IsSoundInterval i in
    let P = λ (s : Share). s ≡ i.share in
    fair_whole S P _ 0 _ i.share.start (λ is. (zero-le, is.start))
    (fair_whole S P _ 0 _ i.share.mwh (λ is. (zero-le, is.mwh))
    (record { read = refl; fault = tt }))

-- The energy of a quarter hour that two column values encode: the start of the quarter hour, and
-- its energy in mWh.
abbrev share_of : (start mwh : Option ℕ) → Result Share RowFault
share_of start mwh = and_then (or_damaged start) (λ s. and_then (or_damaged mwh) (λ m. Ok (let x : Share = record { start = s; mwh = m } in x)))

sound_of : (start mwh : Option ℕ) → ((n : ℕ) → start ≡ Some n → n ≤ latest_moment) → ((n : ℕ) → mwh ≡ Some n → n ≤ greatest_total) → IfOk (share_of start mwh) IsSoundShare
sound_of None mwh low high = tt
sound_of (Some s) None low high = tt
sound_of (Some s) (Some m) low high = record { start = low s refl; mwh = high m refl }

damage_of : (start mwh : Option ℕ) → IfErr (share_of start mwh) (λ e. e ≡ Damaged)
damage_of None mwh = refl
damage_of (Some s) None = refl
damage_of (Some s) (Some m) = tt

-- If a row of `intervals` can be read, the start and the energy of its quarter hour are in their
-- ranges.
pub sound_share : (row : Row) → IfOk (share_in row) IsSoundShare
sound_share row =
    sound_of (whole_in 0 latest_moment (column row 0)) (whole_in 0 greatest_total (column row 1)) (λ n is. (whole_bounds 0 latest_moment (column row 0) n is).1) (λ n is. (whole_bounds 0 greatest_total (column row 1) n is).1)

pub damaged_share : (row : Row) → IfErr (share_in row) (λ e. e ≡ Damaged)
damaged_share row = damage_of (whole_in 0 latest_moment (column row 0)) (whole_in 0 greatest_total (column row 1))
