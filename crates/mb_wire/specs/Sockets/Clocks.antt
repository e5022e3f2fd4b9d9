-- Models a clock as the list of its future times: each call returns the next time of the list.
use Rattle.std.specs.Prelude.{◌≡◌, ℕ, Bool, List, [], ◌∷◌, Option, None, Some, nat_lt}
use Rattle.mb_wire.specs.declared.sockets.clock.FixedClock.{FixedClock}

-- The times that a `FixedClock` will return, in order.
abbrev pub moments_in : FixedClock → List ℕ
moments_in clock = clock.moments.now

-- The first time in a clock's list of times, or 0 if the list is empty.
abbrev pub next_moment : List ℕ → ℕ
next_moment [] = 0
next_moment (moment ∷ later) = moment

-- True if `late` states correctly whether the clock's next time is after the deadline `until`.
abbrev pub ReportsLate : (until : ℕ) → (late : Bool) → (moments : List ℕ) → Type 0
ReportsLate until late moments = late ≡ nat_lt until (next_moment moments)

-- The times that a clock will return after it returned the first time of its list. If only one time
-- is left, the clock repeats it.
abbrev pub later_moments : List ℕ → List ℕ
later_moments [] = []
later_moments (moment ∷ []) = moment ∷ []
later_moments (moment ∷ next ∷ later) = next ∷ later

-- States that a clock with a list of future times returned the first time of the list, and
-- continues with the later times. States nothing about a clock without such a list (`None`).
abbrev pub ReportsMoment : Option (List ℕ) → Option (List ℕ) → ℕ → Type 0
ReportsMoment None new moment = Unit {0}
ReportsMoment (Some moments) new moment =
    (moment ≡ next_moment moments) × (new ≡ Some (later_moments moments))
