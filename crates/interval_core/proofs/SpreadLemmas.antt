-- A step (the energy between two readings) has a share in exactly the quarter hours that it
-- touches.
use Rattle.std.proofs.Common.{◌≡◌, ℕ, zero, suc, ◌+◌, ◌-◌, ◌*◌, ◌/◌, ◌<◌, List, ◌∷◌, map, refl, sym, ap, ◌∙◌, arith, min, max, inl, inr, ◌≤◌}
use Rattle.std.specs.Prelude.{◌↔◌, All, Contains}
use Rattle.std.specs.List.{range_with_len}
use Rattle.std.proofs.lemmas.List.Elements.{All-map}
use Rattle.std.proofs.lemmas.List.FromFn.{length-map-range_with_len, get_or-map-range_with_len, length-range_with_len, get_or-range_with_len}
use Rattle.energy_core.specs.declared.entries.Step.{Step}
use Rattle.interval_core.specs.declared.shares.Share.{Share}
use Rattle.interval_core.specs.Share.{share_at, share_of, shares_of}
use Rattle.energy_core.specs.Account.{intervals_touched}
use Rattle.interval_core.specs.Account.{Touches, IsAscending, IsSpread, starts_of}
use Rattle.std.specs.Prelude.{◌⊎◌}
use Rattle.interval_core.proofs.ShareLemmas.{running_mono}
use Rattle.interval_core.proofs.SumLemmas.{energy-shares_of}

abbrev start_of : ℕ → ℕ
start_of interval = interval * 900

starts-left : (step : Step) (count next : ℕ) → starts_of (map (share_of step) (range_with_len next count)) ≡ map start_of (range_with_len next count)
starts-left step zero next = refl
starts-left step (suc count) next = ap (λ (l : List ℕ). next * 900 ∷ l) (starts-left step count (next + 1))

-- The shares of a step are in ascending order of their starts. A share is the part of the step (the
-- energy between two readings) in one quarter hour.
rising : (count next : ℕ) → IsAscending (map start_of (range_with_len next count))
rising zero next = tt
rising (suc count) next =
    let P : ℕ → Type 0 = λ later. next * 900 < later in
    let each : All (λ (n : ℕ). next * 900 < n * 900) (range_with_len (next + 1) count) = λ k d lt.
    let within : k < count = rw (← length-range_with_len (next + 1) count) lt in
    rw (get_or-range_with_len (next + 1) count k d within) (omega arith) in
    (All-map P start_of (range_with_len (next + 1) count) each, rising count (next + 1))

touched-starts : (step : Step) (start : ℕ) → step.from < step.till
    → Contains (map start_of (range_with_len (step.from / 900) (intervals_touched step.from step.till))) start ↔ Touches step start
touched-starts step start forward =
    let first = step.from / 900 in
    let count = intervals_touched step.from step.till in (
      λ (k, lt, is).
          let within : k < count = rw (← length-map-range_with_len start_of first count) lt in
          let at : (first + k) * 900 ≡ start = sym (get_or-map-range_with_len start_of first count k (first + k) start within refl) ∙ is in
          (omega (arith, at), omega (arith, at, within), omega (arith, at, within)),
      λ touches.
          let k = start / 900 - first in
          let rest = touches.0 in
          let before = touches.1 in
          let after = touches.2 in
          let within : k < count = omega (arith, rest, before, after, forward) in
          let place : first + k ≡ start / 900 = omega (arith, rest, after) in (
            k,
            rw (length-map-range_with_len start_of first count) within,
            get_or-map-range_with_len start_of first count k (start / 900) start within place ∙ omega (arith, rest),
          ),
    )

-- In a quarter hour that is entirely before or after a step (the energy between two readings), the
-- step has the energy 0.
outside-zero : (step : Step) (start : ℕ) → step.from < step.till → (start + 900 ≤ step.from) ⊎ (step.till ≤ start) → share_at step start ≡ 0
outside-zero step start forward (inl before) =
    let up = running_mono step (min (start + 900) step.till) (max start step.from) forward (omega (arith, before)) in
    omega (arith, up)
outside-zero step start forward (inr following) =
    let up = running_mono step (min (start + 900) step.till) (max start step.from) forward (omega (arith, following)) in
    omega (arith, up)

pub spread : (step : Step) → step.from < step.till → IsSpread step (shares_of step)
spread step forward =
    let first = step.from / 900 in
    let count = intervals_touched step.from step.till in
    let P : Share → Type 0 = λ share. share.mwh ≡ share_at step share.start in
    record {
      in_order = rw (starts-left step count first) (rising count first);
      touched = λ start. rw (starts-left step count first) (touched-starts step start forward);
      each = All-map P (share_of step) (range_with_len first count) (λ k d lt. refl);
      outside = λ start. outside-zero step start forward;
      whole = energy-shares_of step forward;
    }
