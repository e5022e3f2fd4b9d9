-- Worked examples of a step's energy in each quarter hour, and of counting quarter hours. A step is
-- the energy between two readings.
use Rattle.std.proofs.Common.{◌≡◌, [], ◌∷◌, refl}
use Rattle.interval_core.specs.Share.{shares_of}
use Rattle.interval_core.specs.Days.{distinct_count}

-- A step (the energy between two readings) of 1,000 mWh from 800 s to 2,000 s touches three quarter
-- hours.
over_three : shares_of (record { from = 800; till = 2000; mwh = 1000 }) ≡ record { start = 0; mwh = 83 } ∷ record { start = 900; mwh = 750 } ∷ record { start = 1800; mwh = 167 } ∷ []
over_three = refl

-- A step (the energy between two readings) of 200 Wh touches two quarter hours. The step is from
-- 100 seconds after the start of the first to 100 seconds after its end.
over_two : shares_of (record { from = 1000; till = 1900; mwh = 200000 }) ≡ record { start = 900; mwh = 177777 } ∷ record { start = 1800; mwh = 22223 } ∷ []
over_two = refl

-- A step (the energy between two readings) that begins and ends at starts of quarter hours has a
-- share in each quarter hour in between.
on_starts : shares_of (record { from = 900; till = 2700; mwh = 11 }) ≡ record { start = 900; mwh = 5 } ∷ record { start = 1800; mwh = 6 } ∷ []
on_starts = refl

-- A step (the time between two readings) without energy has shares (energies in quarter hours) of 0
-- mWh.
nothing : shares_of (record { from = 0; till = 1800; mwh = 0 }) ≡ record { start = 0; mwh = 0 } ∷ record { start = 900; mwh = 0 } ∷ []
nothing = refl

-- A quarter hour with two rows, one of each of two meters, counts once.
once : distinct_count (900 ∷ 1800 ∷ 2700 ∷ 2700 ∷ 3600 ∷ []) ≡ 4
once = refl
