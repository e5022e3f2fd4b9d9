-- Lemmas on the state of a meter after an entry is voided (cancelled): the last entry, steps and
-- interval rows (energies by quarter hour).
use Rattle.std.proofs.Common.{◌≡◌, ℕ, ◌-◌, List, [], ◌∷◌, refl, sym, ap, subst, ◌∙◌, inl, inr, Option, Some, None, arith}
use Rattle.std.specs.Prelude.{All, sum_by}
use Rattle.std.proofs.lemmas.Option.{same_Some}
use Rattle.std.proofs.lemmas.List.Elements.{All-nil, All-cons, All-head, All-tail}
use Rattle.std.proofs.lemmas.List.Sums.{sum_by-cons}
use Rattle.energy_core.specs.declared.entries.Last.{Last}
use Rattle.energy_core.specs.declared.entries.Step.{Step}
use Rattle.energy_core.specs.declared.entries.Entry.{Entry}
use Rattle.energy_core.specs.Account.{step_to, AllFollow}
use Rattle.energy_core.specs.Laws.{IsShareable}
use Rattle.interval_core.specs.Account.{SharesAddUp}
use Rattle.meter_journal.specs.declared.lines.Installed.{Installed}
use Rattle.meter_journal.specs.declared.lines.EntryRow.{EntryRow}
use Rattle.meter_journal.specs.Books.{IsWellInstalled, last_after, total_in, steps_in}
use Rattle.meter_journal.specs.Journal.{Voided, Journal, Around, is_read, entries_in, entries_of, rows_of, with_void}
use Rattle.meter_journal.specs.Fitting.{is_free, VoidFits, AreFitting}
use Rattle.meter_journal.specs.Voids.{last_before, energy_in, steps_out, steps_put, ExchangesSteps, ExchangesShares, IsVoided, VoidsChangeTwoRows}
use Rattle.meter_journal.proofs.AsEntered.{rows_are_kept}
use Rattle.meter_journal.proofs.Chains.{last_moment, not_before, voids_go_no_further}
use Rattle.meter_journal.proofs.Keeping.{all_three, rows_are_sound, journals_are_kept}
use Rattle.meter_journal.proofs.Moving.{exchanged}
use Rattle.meter_journal.proofs.Striking.{weigh, IsOneOf, AreMoved, IsLast, Changes, changes}

abbrev with_next : Around → Option EntryRow → Around
with_next a next = record { before = a.before; row = a.row; next = next }

-- If the last entry of a meter is removed, then only the step (the energy) to this entry is
-- removed.
last_gone : (meter : Installed) (e : Entry) (es : List Entry) → AllFollow meter.range meter.opening (e ∷ es)
    → AreMoved meter (e ∷ es) es (step_to meter.range (last_after meter es) e ∷ []) []
last_gone meter e es h =
    let now = last_moment meter e es in
    record {
      moves = λ w. omega arith;
      within = λ w. omega arith;
      was = λ step there. elim there [ inl first ↦ inl first | inr none ↦ absurd none ];
      is = λ step there. absurd there;
      out_between = (not_before meter es h.1, h.0.later, omega (arith, now), tt);
      write_between = tt;
    }

moved_last : (meter : Installed) (place : ℕ) (rows : List EntryRow) (a : Around) → AllFollow meter.range meter.opening (entries_in rows)
    → IsLast meter place rows a
    → AreMoved meter (entries_in rows) (entries_in (with_void meter.opening place rows)) (steps_out meter (with_next a None)) (steps_put meter (with_next a None))
moved_last meter place rows a h gone =
    let l : Last = last_before meter.opening a in
    let out : List Step = step_to meter.range l a.row.entry ∷ [] in
    let moved = last_gone meter a.row.entry (entries_in a.before) (subst (AllFollow meter.range meter.opening) gone.gap.old h) in
    subst (λ (es : List Entry). AreMoved meter es (entries_in (with_void meter.opening place rows)) out []) (sym gone.gap.old)
    (subst (λ (es : List Entry). AreMoved meter (a.row.entry ∷ entries_in a.before) es out []) (sym gone.gap.new) moved)

weigh_is : (w : Step → ℕ) (steps : List Step) → weigh w steps ≡ sum_by w steps
weigh_is w [] = refl
weigh_is w (step ∷ steps) = omega (arith, weigh_is w steps, sum_by-cons w step steps)

-- The energies of the steps between valid (not voided) entries of a meter's journal (history) add
-- up to the total energy of the meter.
weigh_total : (meter : Installed) (lines : Journal) → IsWellInstalled meter → AreFitting meter lines
    → weigh (λ step. step.mwh) (steps_in meter lines) ≡ total_in meter lines
weigh_total meter lines well h = weigh_is (λ step. step.mwh) (steps_in meter lines) ∙ sym (journals_are_kept meter lines well h).sound.sum

each_is : (P : Step → Type 0) (steps : List Step) → ((step : Step) → IsOneOf step steps → P step) → All P steps
each_is P [] h = All-nil P
each_is P (step ∷ steps) h = All-cons P step steps (h step (inl refl)) (each_is P steps (λ x there. h x (inr there)))

one_is : (P : Step → Type 0) (steps : List Step) (step : Step) → All P steps → IsOneOf step steps → P step
one_is P [] step h there = absurd there
one_is P (first ∷ steps) step h (inl is) = subst P is (All-head P first steps h)
one_is P (first ∷ steps) step h (inr there) = one_is P steps step (All-tail P first steps h) there

steps_exchanged : (meter : Installed) (lines : Journal) (place : ℕ) (a : Around) → IsWellInstalled meter
    → AreFitting meter (Voided place ∷ lines)
    → AreMoved meter (entries_of meter.opening lines) (entries_of meter.opening (Voided place ∷ lines)) (steps_out meter a) (steps_put meter a)
    → ExchangesSteps meter lines place a
steps_exchanged meter lines place a well h moved =
    let mwh : Step → ℕ = λ step. step.mwh in
    let now : Journal = Voided place ∷ lines in
    let old = weigh_total meter lines well h.1 in
    let new = weigh_total meter now well h in
    let out = weigh_is mwh (steps_out meter a) in
    let put = weigh_is mwh (steps_put meter a) in
    record {
      staying = total_in meter lines - energy_in (steps_out meter a);
      before = omega (arith, moved.within mwh, old, out);
      after = omega (arith, moved.moves mwh, moved.within mwh, old, new, out, put);
      out = each_is IsShareable (steps_out meter a)
          (λ step there. one_is IsShareable (steps_in meter lines) step (journals_are_kept meter lines well h.1).sound.steps (moved.was step there));
      put = each_is IsShareable (steps_put meter a)
          (λ step there. one_is IsShareable (steps_in meter now) step (journals_are_kept meter now well h).sound.steps (moved.is step there));
    }

shares_exchanged : SharesAddUp → (meter : Installed) (lines : Journal) (place : ℕ) (a : Around) → IsWellInstalled meter
    → AreFitting meter (Voided place ∷ lines)
    → AreMoved meter (entries_of meter.opening lines) (entries_of meter.opening (Voided place ∷ lines)) (steps_out meter a) (steps_put meter a)
    → ExchangesShares meter lines place a
shares_exchanged law meter lines place a well h moved =
    let both =
    exchanged law meter (entries_of meter.opening lines) (entries_of meter.opening (Voided place ∷ lines)) (steps_out meter a) (steps_put meter a)
    (journals_are_kept meter lines well h.1).account.follow (journals_are_kept meter (Voided place ∷ lines) well h).account.follow
    (voids_go_no_further meter lines place well h) moved in
    record { therein = both.therein; intervals = both.intervals }

voided : SharesAddUp → (meter : Installed) (lines : Journal) (place : ℕ) (a : Around) (next : Option EntryRow) → IsWellInstalled meter
    → AreFitting meter (Voided place ∷ lines) → Changes meter place (rows_of meter.opening lines) a next
    → IsVoided meter lines place (with_next a next)
voided law meter lines place a None well h gone =
    let x : Around = with_next a None in
    let follow = (journals_are_kept meter lines well h.1).account.follow in
    let moved = moved_last meter place (rows_of meter.opening lines) a follow gone in
    record {
      rows = gone.rows_are;
      last = ap (last_after meter) gone.gap.new;
      steps = steps_exchanged meter lines place x well h moved;
      shares = shares_exchanged law meter lines place x well h moved;
    }
voided law meter lines place a (Some next) well h on =
    let x : Around = with_next a (Some next) in
    record {
      rows = on.rows_are;
      last = on.last;
      steps = steps_exchanged meter lines place x well h on.moved;
      shares = shares_exchanged law meter lines place x well h on.moved;
    }

pub voids_change_two_rows : SharesAddUp → VoidsChangeTwoRows
voids_change_two_rows law meter lines place around well h there =
    let fits : VoidFits meter (rows_of meter.opening lines) place = h.0 in
    let a : Around = fits.around in
    let is : a ≡ around = same_Some a around (sym fits.there ∙ there) in
    let may = all_three a.row.stands (is_read a.row.kind a.row.entry) (is_free a.next) fits.voidable in
    let sound = rows_are_sound meter lines well.raw h.1 in
    let numbers = (rows_are_kept meter lines well h.1).places in
    let changed = changes meter place (rows_of meter.opening lines) a fits.there may.0 may.1 may.2 numbers sound.still sound.account.follow in
    subst (IsVoided meter lines place) is (voided law meter lines place a a.next well h changed)
