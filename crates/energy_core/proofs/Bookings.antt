-- Lemmas: each entry that the check of entries records satisfies the rules for an entry after the
-- last one (later, no lower count, within the limits). With the new entry, all entries of the meter
-- still satisfy these rules (`IsAccount`).
use Rattle.std.proofs.Common.{◌≡◌, ℕ, ◌+◌, ◌*◌, ◌^◌, ◌<◌, ◌≤◌, false, nat_lt, nat_le, List, [], ◌∷◌, Option, Some, None, Ok, ap, subst, refl, ◌∙◌, arith}
use Rattle.std.proofs.lemmas.Bool.Decides.{nat_tests}
use Rattle.std.proofs.lemmas.Int.{ints}
use Rattle.std.specs.List.{find}
use Rattle.energy_core.specs.declared.entries.Last.{Last}
use Rattle.energy_core.specs.declared.entries.Step.{Step}
use Rattle.energy_core.specs.declared.entries.Entry.{Entry}
use Rattle.energy_core.specs.declared.entries.Entry.TheVariants as entry
use Rattle.energy_core.specs.declared.admission.TermFault.{TermFault}
use Rattle.energy_core.specs.Account.{after, last_of, energy_of, step_to, NeverFalls, HasScale, CanBeShown, Follows, AllFollow, IsAccount}
use Rattle.energy_core.specs.Admission.{has_bad_scale, is_beyond, refuses, faults, answered, entered, IsBooked}
use Rattle.energy_core.specs.Laws.{EnteredIsBooked, AccountsGoOn}
use Rattle.energy_core.proofs.Tables.{none_pass, find-none}
use Rattle.energy_core.proofs.Sums.{whole-cons}

answered_ok : (range : ℕ) (last : Last) (e : Entry) (o : Option TermFault) (next : Last) (step : Step)
    → answered range last e o ≡ Ok (next, step) → (o ≡ None) × (next ≡ after last e) × (step ≡ step_to range last e)
answered_ok range last e None next step h =
    let pair : (let p : Last × Step = (next, step) in p) ≡ (after last e, step_to range last e) = cc in
    (refl, ap (λ (p : Last × Step). p.0) pair, ap (λ (p : Last × Step). p.1) pair)
answered_ok range last e (Some f) next step h = absurd (cc)

lawful_scale : (e : Entry) → has_bad_scale e ≡ false → HasScale e
lawful_scale (entry.Step at raw rolls) h = tt
lawful_scale (entry.Change at before new sf) h = (grind (arith, ints), grind (arith, ints))

no_bad_scale : (e : Entry) → HasScale e → has_bad_scale e ≡ false
no_bad_scale (entry.Step at raw rolls) h = refl
no_bad_scale (entry.Change at before new sf) h = grind (arith, ints)

can_be_shown : (range : ℕ) (e : Entry) → is_beyond range e ≡ false → CanBeShown range e
can_be_shown range (entry.Step at raw rolls) h = grind (arith, nat_tests)
can_be_shown range (entry.Change at before new sf) h = (grind (arith, nat_tests), grind (arith, nat_tests))

not_beyond : (range : ℕ) (e : Entry) → CanBeShown range e → is_beyond range e ≡ false
not_beyond range (entry.Step at raw rolls) h = grind (arith, nat_tests)
not_beyond range (entry.Change at before new sf) h = grind (arith, nat_tests)

pub at_least : (a b : ℕ) → nat_lt a b ≡ false → b ≤ a
at_least a b h = grind (arith, nat_tests)

pub below : (a b : ℕ) → nat_le a b ≡ false → b < a
below a b h = grind (arith, nat_tests)

pub not_lt : (a b : ℕ) → b ≤ a → nat_lt a b ≡ false
not_lt a b h = grind (arith, nat_tests)

pub not_le : (a b : ℕ) → b < a → nat_le a b ≡ false
not_le a b h = grind (arith, nat_tests)

pub booked_where_entered : (range total : ℕ) (last : Last) (e : Entry) (next : Last) (step : Step)
    → entered range total last e ≡ Ok (next, step) → IsBooked range total last e next step
booked_where_entered range total last e next step h =
    let ok = answered_ok range last e (find (refuses range total last e) faults) next step h in
    let none = none_pass (refuses range total last e) faults ok.0 in
    let within : total + energy_of range last e ≤ 4 * 10 ^ 18 = at_least _ _ none.1.1.1.0 in
    record {
      next_is = ok.1;
      step_is = ok.2;
      follows = record {
        rises = at_least _ _ none.0;
        later = below _ _ none.1.0;
        span = at_least _ _ none.1.1.0;
        scale = lawful_scale e none.1.1.1.1.0;
        shown = can_be_shown range e none.1.1.1.1.1.0;
      };
      within = rw ok.2 within;
    }

pub entered_where_booked : (range total : ℕ) (last : Last) (e : Entry) (next : Last) (step : Step)
    → IsBooked range total last e next step → entered range total last e ≡ Ok (next, step)
entered_where_booked range total last e next step h =
    let within : total + energy_of range last e ≤ 4 * 10 ^ 18 = rw h.step_is at h.within in
    let none : find (refuses range total last e) faults ≡ None =
    find-none (refuses range total last e) faults (
      not_lt _ _ h.follows.rises,
      (
        not_le _ _ h.follows.later,
        (
          not_lt _ _ h.follows.span,
          (not_lt _ _ within, (no_bad_scale e h.follows.scale, (not_beyond range e h.follows.shown, tt))),
        ),
      ),
    ) in
    rw (h.next_is, h.step_is) (ap (answered range last e) none)

pub entered_is_booked : EnteredIsBooked
entered_is_booked range total last e next step =
    (booked_where_entered range total last e next step, entered_where_booked range total last e next step)

pub never_falls : (range : ℕ) (opening : Last) (es : List Entry) → AllFollow range opening es → NeverFalls range opening es
never_falls range opening [] h = tt
never_falls range opening (e ∷ es) h = (h.0.rises, never_falls range opening es h.1)

pub account_goes_on : AccountsGoOn
account_goes_on range opening es last total e next step h b =
    let follows : Follows range (last_of opening es) e = let P : Last → Type 0 = λ l. Follows range l e in subst P h.last_is b.follows in
    let energy : step.mwh ≡ energy_of range (last_of opening es) e =
    ap (λ (s : Step). s.mwh) b.step_is ∙ ap (λ (l : Last). energy_of range l e) h.last_is in
    let whole = whole-cons range opening e es (follows.rises, never_falls range opening es h.follow) in
    record {
      last_is = b.next_is ∙ ap (λ (l : Last). after l e) h.last_is;
      total_is = omega (arith, h.total_is, energy, whole);
      within = b.within;
      follow = (follows, h.follow);
    }

pub account_where_entered : (range : ℕ) (opening : Last) (es : List Entry) (last : Last) (total : ℕ) (e : Entry) (next : Last) (step : Step)
    → IsAccount range opening es last total → entered range total last e ≡ Ok (next, step)
    → IsAccount range opening (e ∷ es) next (total + step.mwh)
account_where_entered range opening es last total e next step h is =
    account_goes_on range opening es last total e next step h (booked_where_entered range total last e next step is)
