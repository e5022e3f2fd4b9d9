-- Proofs that a row of `holds` is read back as the rejected reading that it encodes.
use Rattle.std.proofs.Common.{◌≡◌, ◌≤◌, zero-le, ℕ, ℤ, Bool, true, false, List, Option, Some, None, if◌then◌else◌, Ok, Result, IfOk, IfErr, IsTrue, refl, subst, arith}
use Rattle.sqlite.specs.declared.types.Value.{Value}
use Rattle.sqlite.specs.declared.types.Value.TheVariants.{Null, Int, Real, Text, Blob}
use Rattle.sqlite.specs.Order.{Row, column}
use Rattle.energy_core.specs.declared.verdicts.Cause.{Cause}
use Rattle.energy_core.specs.declared.verdicts.Cause.TheVariants as cause
use Rattle.energy_core.specs.Verdict.{cause_number}
use Rattle.office_events.specs.declared.facts.HeldReading.{HeldReading}
use Rattle.store_tables.specs.declared.faults.RowFault.{RowFault}
use Rattle.store_tables.specs.declared.faults.RowFault.TheVariants.{Damaged}
use Rattle.store_tables.specs.Columns.{whole_in, or_damaged, and_then}
use Rattle.store_tables.specs.Limits.{greatest_place, IsPlace, latest_moment}
use Rattle.store_tables.proofs.ReadLemmas.{IsFair, fair_whole, fair_some, whole_bounds}
use Rattle.store_tables.specs.Polls.Rows.{Held}
use Rattle.office_store.specs.Holds.{cause_of, has_sixteen_bits, sixteen_in, greatest_raw, reading_shown, reading_of, reading_in, IsSoundReading}

cause_back : (c : Cause) → cause_of (cause_number c) ≡ Some c
cause_back cause.NotAccumulated = refl
cause_back cause.ScaleChanged = refl
cause_back cause.NotLater = refl
cause_back cause.SpanTooLong = refl
cause_back cause.GapTooLong = refl
cause_back cause.TooFast = refl
cause_back cause.TotalFull = refl
cause_back cause.NotBelowRange = refl

one_of_eight : (c : Cause) → (1 ≤ cause_number c) × (cause_number c ≤ 8)
one_of_eight cause.NotAccumulated = (omega arith, omega arith)
one_of_eight cause.ScaleChanged = (omega arith, omega arith)
one_of_eight cause.NotLater = (omega arith, omega arith)
one_of_eight cause.SpanTooLong = (omega arith, omega arith)
one_of_eight cause.GapTooLong = (omega arith, omega arith)
one_of_eight cause.TooFast = (omega arith, omega arith)
one_of_eight cause.TotalFull = (omega arith, omega arith)
one_of_eight cause.NotBelowRange = (omega arith, omega arith)

-- Lemmas on reading a column of the table `holds` (rejected readings) with a range test: reading
-- returns the value, or `Damaged` if the value is out of its range. The contract allows `Damaged`,
-- because every row with values in their ranges passes the test.
module _ {B : Type 0} (Sound : Type 0) (Is : B → Type 0) (next : ℤ → Result B RowFault) where
  tested : (b : Bool) (n : ℤ) → (Sound → b ≡ true) → IsFair Sound Is (next n) → IsFair Sound Is (and_then (or_damaged (if b then Some n else None)) next)
  tested true n sound rest = rest
  tested false n sound rest = record { read = tt; fault = λ is. let f = sound is in cc }

  fair_sixteen : (n : ℤ) → (Sound → IsTrue (has_sixteen_bits n)) → IsFair Sound Is (next n) → IsFair Sound Is (and_then (or_damaged (sixteen_in (Int n))) next)
  fair_sixteen n sound rest = tested (has_sixteen_bits n) n sound rest

pub fair_reading : (meter : List ℕ) (h : Held) → IsFair (IsSoundReading (reading_of h.meter h)) (λ r. r ≡ reading_of meter h) (reading_in meter (reading_shown h))
fair_reading meter h =
    let S = IsSoundReading (reading_of h.meter h) in
    let P = λ (r : HeldReading). r ≡ reading_of meter h in
    fair_whole S P _ 1 _ h.row.poll (λ is. is.poll)
    (fair_whole S P _ 0 _ h.row.moment (λ is. (zero-le, is.at))
    (fair_whole S P _ 0 _ h.row.raw (λ is. (zero-le, is.raw))
    (fair_sixteen S P _ h.row.sf (λ is. is.sf)
    (fair_whole S P _ 1 8 (cause_number h.row.cause) (λ is. one_of_eight h.row.cause)
    (fair_some S P _ (cause_of (cause_number h.row.cause)) h.row.cause (cause_back h.row.cause)
    (record { read = refl; fault = tt }))))))

-- Lemmas: if a row of the table `holds` (rejected readings) can be parsed, all values of the parsed
-- reading are in their ranges.

sixteen_if : (n m : ℤ) (b : Bool) → has_sixteen_bits n ≡ b → (if b then Some n else None) ≡ Some m → IsTrue (has_sixteen_bits m)
sixteen_if n m true is e = let same : n ≡ m = cc in subst (λ k. IsTrue (has_sixteen_bits k)) same is
sixteen_if n m false is e = absurd (let f = e in cc)

sixteen_bounds : (v : Value) (n : ℤ) → sixteen_in v ≡ Some n → IsTrue (has_sixteen_bits n)
sixteen_bounds (Int k) n e = sixteen_if k n _ refl e
sixteen_bounds Null n e = absurd (let f = e in cc)
sixteen_bounds (Real x) n e = absurd (let f = e in cc)
sixteen_bounds (Text t) n e = absurd (let f = e in cc)
sixteen_bounds (Blob b) n e = absurd (let f = e in cc)

-- The rejected reading that five column values encode, or `Damaged` if a column could not be read.
abbrev of_columns : (meter : List ℕ) → (poll at raw : Option ℕ) → Option ℤ → (number : Option ℕ) → Result HeldReading RowFault
of_columns meter poll at raw sf number =
    and_then (or_damaged poll) (λ p. and_then (or_damaged at) (λ a. and_then (or_damaged raw) (λ w. and_then (or_damaged sf) (λ s. and_then (or_damaged number) (λ n. and_then (or_damaged (cause_of n)) (λ c.
    Ok (let r : HeldReading = record { meter = meter; poll = p; at = a; raw = w; sf = s; cause = c } in r)))))))

module _ (meter : List ℕ) where
  sound_cause : (p a w : ℕ) (s : ℤ) (c : Option Cause) → IsPlace p → a ≤ latest_moment → w ≤ greatest_raw → IsTrue (has_sixteen_bits s)
      → IfOk (and_then (or_damaged c) (λ c. Ok (let r : HeldReading = record { meter = meter; poll = p; at = a; raw = w; sf = s; cause = c } in r))) IsSoundReading
  sound_cause p a w s None poll at raw sf = tt
  sound_cause p a w s (Some c) poll at raw sf = record { poll = poll; at = at; raw = raw; sf = sf }

  sound_of : (p a w : Option ℕ) (s : Option ℤ) (n : Option ℕ) → ((k : ℕ) → p ≡ Some k → IsPlace k) → ((k : ℕ) → a ≡ Some k → k ≤ latest_moment) → ((k : ℕ) → w ≡ Some k → k ≤ greatest_raw)
      → ((k : ℤ) → s ≡ Some k → IsTrue (has_sixteen_bits k)) → IfOk (of_columns meter p a w s n) IsSoundReading
  sound_of None a w s n poll at raw sf = tt
  sound_of (Some p) None w s n poll at raw sf = tt
  sound_of (Some p) (Some a) None s n poll at raw sf = tt
  sound_of (Some p) (Some a) (Some w) None n poll at raw sf = tt
  sound_of (Some p) (Some a) (Some w) (Some s) None poll at raw sf = tt
  sound_of (Some p) (Some a) (Some w) (Some s) (Some n) poll at raw sf = sound_cause p a w s (cause_of n) (poll p refl) (at a refl) (raw w refl) (sf s refl)

  damaged_cause : (p a w : ℕ) (s : ℤ) (c : Option Cause) → IfErr (and_then (or_damaged c) (λ c. Ok (let r : HeldReading = record { meter = meter; poll = p; at = a; raw = w; sf = s; cause = c } in r))) (λ e. e ≡ Damaged)
  damaged_cause p a w s None = refl
  damaged_cause p a w s (Some c) = tt

  damaged_of : (p a w : Option ℕ) (s : Option ℤ) (n : Option ℕ) → IfErr (of_columns meter p a w s n) (λ e. e ≡ Damaged)
  damaged_of None a w s n = refl
  damaged_of (Some p) None w s n = refl
  damaged_of (Some p) (Some a) None s n = refl
  damaged_of (Some p) (Some a) (Some w) None n = refl
  damaged_of (Some p) (Some a) (Some w) (Some s) None = refl
  damaged_of (Some p) (Some a) (Some w) (Some s) (Some n) = damaged_cause p a w s (cause_of n)

  pub sound_reading : (row : Row) → IfOk (reading_in meter row) IsSoundReading
  sound_reading row =
      sound_of (whole_in 1 greatest_place (column row 0)) (whole_in 0 latest_moment (column row 1)) (whole_in 0 greatest_raw (column row 2)) (sixteen_in (column row 3)) (whole_in 1 8 (column row 4))
      (λ k is. whole_bounds 1 greatest_place (column row 0) k is) (λ k is. (whole_bounds 0 latest_moment (column row 1) k is).1) (λ k is. (whole_bounds 0 greatest_raw (column row 2) k is).1) (λ k is. sixteen_bounds (column row 3) k is)

  pub damaged_reading : (row : Row) → IfErr (reading_in meter row) (λ e. e ≡ Damaged)
  damaged_reading row =
      damaged_of (whole_in 1 greatest_place (column row 0)) (whole_in 0 latest_moment (column row 1)) (whole_in 0 greatest_raw (column row 2)) (sixteen_in (column row 3)) (whole_in 1 8 (column row 4))
