-- The invariant that an installed meter's entries, with their total energy, obey the rules
-- (`IsAccount`: each entry is later than the last one, has no lower count and is within the
-- limits). Each accepted reading preserves this invariant.
use Rattle.std.proofs.Common.{◌≡◌, ℕ, ◌+◌, ◌-◌, ◌*◌, ◌^◌, ◌<◌, ◌≤◌, List, [], ◌∷◌, sym, refl, ◌∙◌, arith}
use Rattle.std.specs.List.{All, sum_by}
use Rattle.std.proofs.lemmas.List.Elements.{All-nil, All-cons}
use Rattle.energy_core.specs.declared.entries.Last.{Last}
use Rattle.energy_core.specs.declared.entries.Step.{Step}
use Rattle.energy_core.specs.declared.entries.Entry.{Entry}
use Rattle.energy_core.specs.declared.entries.Entry.TheVariants as entry
use Rattle.energy_core.specs.declared.verdicts.Reading.{Reading}
use Rattle.energy_core.specs.declared.verdicts.Verdict.{Verdict}
use Rattle.energy_core.specs.declared.verdicts.Verdict.TheVariants.{Accepted, Held}
use Rattle.energy_core.specs.Value.{unit_of}
use Rattle.energy_core.specs.Account.{last_of, step_to, steps_of, whole_energy, IsScale, AllFollow, IsAccount}
use Rattle.energy_core.specs.Readings.{verdict_on, with_verdict, entries_of_readings}
use Rattle.energy_core.specs.Laws.{AccountsBegin, IsShareable, AccountsAreSound, ReadingsKeepAccounts}
use Rattle.energy_core.proofs.Sums.{sum-step, sum-steps}
use Rattle.energy_core.proofs.Bookings.{never_falls, account_goes_on}
use Rattle.energy_core.proofs.Acceptance.{booked_where_accepted}

last_below : (range : ℕ) (opening : Last) (es : List Entry) → opening.raw < range → AllFollow range opening es → (last_of opening es).raw < range
last_below range opening [] below h = below
last_below range opening (entry.Step at raw rolls ∷ es) below h = h.0.shown
last_below range opening (entry.Change at before new sf ∷ es) below h = h.0.shown.1

last_scale : (range : ℕ) (opening : Last) (es : List Entry) → IsScale opening.sf → AllFollow range opening es → IsScale (last_of opening es).sf
last_scale range opening [] scale h = scale
last_scale range opening (entry.Step at raw rolls ∷ es) scale h = last_scale range opening es scale h.1
last_scale range opening (entry.Change at before new sf ∷ es) scale h = h.0.scale

shareable : (range : ℕ) (opening : Last) (es : List Entry) → AllFollow range opening es
    → sum_by (λ (s : Step). s.mwh) (steps_of range opening es) ≤ 4 * 10 ^ 18 → All IsShareable (steps_of range opening es)
shareable range opening [] h within = All-nil IsShareable
shareable range opening (e ∷ es) h within =
    let first : IsShareable (step_to range (last_of opening es) e) =
    record { later = h.0.later; span = h.0.span; within = omega (arith, sum-step range opening e es) } in
    All-cons IsShareable (step_to range (last_of opening es) e) (steps_of range opening es) first
    (shareable range opening es h.1 (omega (arith, sum-step range opening e es)))

pub accounts_are_sound : AccountsAreSound
accounts_are_sound range opening es last total below scale h =
    let falls = never_falls range opening es h.follow in
    let sum : total ≡ sum_by (λ (s : Step). s.mwh) (steps_of range opening es) = h.total_is ∙ sym (sum-steps range opening es falls) in
    record {
      raw = rw h.last_is (last_below range opening es below h.follow);
      scale = rw h.last_is (last_scale range opening es scale h.follow);
      never_falls = falls;
      sum = sum;
      steps = shareable range opening es h.follow (omega (arith, h.within));
    }

-- True if a meter's entries obey the rules (`IsAccount`: each is later than the last one, has no
-- lower count and is within the limits). The counter's state and the total energy follow from the
-- entries.
abbrev HasAccount : ℕ → Last → List Entry → Type 0
HasAccount range opening es = IsAccount range opening es (last_of opening es) (whole_energy range opening es)

one_more : (range ceiling : ℕ) (opening : Last) (es : List Entry) (r : Reading) (v : Verdict) → opening.raw < range
    → HasAccount range opening es → verdict_on range ceiling opening es r ≡ v → HasAccount range opening (with_verdict es r v)
one_more range ceiling opening es r (Held c) below h is = h
one_more range ceiling opening es r (Accepted rolls step) below h is =
    let booked = booked_where_accepted range (record { ceiling = ceiling; total = whole_energy range opening es }) (last_of opening es) r rolls step
    (last_below range opening es below h.follow) is in
    let next = account_goes_on range opening es _ _ (entry.Step r.at r.raw rolls) _ _ h booked in
    record { last_is = refl; total_is = refl; within = omega (arith, next.total_is, next.within); follow = next.follow }

no_energy : (v : ℕ) → 0 ≡ (v + 0) - (v + 0)
no_energy v = omega arith

pub accounts_begin : AccountsBegin
accounts_begin range opening =
    record { last_is = refl; total_is = no_energy (opening.raw * unit_of opening.sf); within = omega arith; follow = tt }

pub readings_keep_accounts : ReadingsKeepAccounts
readings_keep_accounts range ceiling opening [] below =
    record { last_is = refl; total_is = refl; within = rw (← no_energy (opening.raw * unit_of opening.sf)) (omega arith); follow = tt }
readings_keep_accounts range ceiling opening (r ∷ rs) below =
    one_more range ceiling opening (entries_of_readings range ceiling opening rs) r _ below (readings_keep_accounts range ceiling opening rs below) refl
