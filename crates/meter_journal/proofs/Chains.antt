-- Lemmas: the steps between consecutive entries of a meter follow one another without a gap, from
-- the opening (first) entry to the last entry.
use Rattle.std.proofs.Common.{◌≡◌, ℕ, ◌+◌, ◌%◌, ◌<◌, ◌≤◌, List, [], ◌∷◌, inl, inr, ap, subst, Option, Some, None, arith}
use Rattle.std.specs.List.{All}
use Rattle.std.proofs.lemmas.Bool.{cases_lt}
use Rattle.std.proofs.lemmas.List.Elements.{All-nil, All-cons}
use Rattle.energy_core.specs.declared.entries.Last.{Last}
use Rattle.energy_core.specs.declared.entries.Entry.{Entry}
use Rattle.energy_core.specs.declared.entries.Entry.TheVariants as entry
use Rattle.energy_core.specs.Account.{moment_of, AllFollow}
use Rattle.interval_core.specs.declared.shares.Share.{Share}
use Rattle.interval_core.specs.Account.{SharesAddUp}
use Rattle.meter_journal.specs.declared.lines.Installed.{Installed}
use Rattle.meter_journal.specs.declared.lines.EntryRow.{EntryRow}
use Rattle.meter_journal.specs.Books.{last_after, steps_after, steps_in, interval_rows}
use Rattle.meter_journal.specs.Journal.{Around, entries_in, entries_of, rows_of, with_void}
use Rattle.meter_journal.specs.Changes.{LiesWithin, RowsLieWithin, VoidsGoNoFurther}
use Rattle.meter_journal.proofs.Keeping.{Leaves, voids_leave, rows_are_sound, journals_are_kept}
use Rattle.meter_journal.proofs.InTime.{in_time}
use Rattle.meter_journal.proofs.Merging.{Among, TouchedBy, has_rows}

-- After a list of entries of a meter, the time of the counter's state is the time of the latest
-- entry.
pub last_moment : (meter : Installed) (e : Entry) (es : List Entry) → (last_after meter (e ∷ es)).at ≡ moment_of e
last_moment meter (entry.Step at raw rolls) es = omega arith
last_moment meter (entry.Change at before new sf) es = omega arith

-- The last entry of a meter is never before the opening (first) entry.
pub not_before : (meter : Installed) (es : List Entry) → AllFollow meter.range meter.opening es → meter.opening.at ≤ (last_after meter es).at
not_before meter [] h = omega arith
not_before meter (e ∷ es) h = omega (arith, h.0.later, last_moment meter e es, not_before meter es h.1)

-- States that the interval from `s` is a quarter hour that ends after the meter's opening (first)
-- entry and begins before the last entry.
pub record Lies (opened last s : ℕ) : Type 0 where
  pub whole : s % 900 ≡ 0
  pub following : opened < s + 900
  pub before : s < last
  pub gone_on : opened < last

pub touched_lies : (meter : Installed) (es : List Entry) (s : ℕ) → AllFollow meter.range meter.opening es → TouchedBy (steps_after meter es) s
    → Lies meter.opening.at (last_after meter es).at s
touched_lies meter [] s h there = absurd there
touched_lies meter (e ∷ es) s h (inl touches) =
    let now = last_moment meter e es in
    let begun = not_before meter es h.1 in
    record {
      whole = touches.0;
      following = omega (arith, touches.2, begun);
      before = omega (arith, touches.1, now);
      gone_on = omega (arith, begun, h.0.later, now);
    }
touched_lies meter (e ∷ es) s h (inr there) =
    let rest = touched_lies meter es s h.1 there in
    let now = last_moment meter e es in
    record {
      whole = rest.whole;
      following = rest.following;
      before = omega (arith, rest.before, h.0.later, now);
      gone_on = omega (arith, rest.gone_on, h.0.later, now);
    }

pub lies_touched : (meter : Installed) (es : List Entry) (s : ℕ) → AllFollow meter.range meter.opening es
    → Lies meter.opening.at (last_after meter es).at s → TouchedBy (steps_after meter es) s
lies_touched meter [] s h lies = absurd (omega (arith, lies.gone_on))
lies_touched meter (e ∷ es) s h lies =
    let now = last_moment meter e es in
    elim (cases_lt (last_after meter es).at (s + 900)) [
      | inl lt ↦ inl (lies.whole, omega (arith, lies.before, now), lt)
      | inr ge ↦ inr (lies_touched meter es s h.1 (record {
        whole = lies.whole;
        following = lies.following;
        before = omega (arith, ge);
        gone_on = omega (arith, lies.following, ge);
      }))
    ]

all_lie : (opened last : ℕ) (rows : List Share) → ((s : ℕ) → Among s rows → Lies opened last s) → All (LiesWithin opened last) rows
all_lie opened last [] h = All-nil (LiesWithin opened last)
all_lie opened last (row ∷ rows) h =
    let here = h row.start (inl (omega arith)) in
    All-cons (LiesWithin opened last) row rows
    (record { quarter = here.whole; following = here.following; before = here.before; gone_on = here.gone_on })
    (all_lie opened last rows (λ s there. h s (inr there)))

pub rows_lie_within : SharesAddUp → RowsLieWithin
rows_lie_within law meter lines well h =
    let es : List Entry = entries_of meter.opening lines in
    let follow : AllFollow meter.range meter.opening es = (journals_are_kept meter lines well h).account.follow in
    let rows = has_rows law (steps_in meter lines) (in_time meter es follow) in
    all_lie meter.opening.at (last_after meter es).at (interval_rows meter lines)
    (λ s there. touched_lies meter es s follow (rows.touched s there))

no_further : (meter : Installed) (place : ℕ) (rows : List EntryRow) (a : Around) → AllFollow meter.range meter.opening (entries_in rows)
    → Leaves meter place rows a a.next
    → (last_after meter (entries_in (with_void meter.opening place rows))).at ≤ (last_after meter (entries_in rows)).at
no_further meter place rows a h left = by_next a.next left
  where
    by_next : (n : Option EntryRow) → Leaves meter place rows a n
        → (last_after meter (entries_in (with_void meter.opening place rows))).at ≤ (last_after meter (entries_in rows)).at
    by_next (Some n) low = omega (arith, ap (λ (l : Last). l.at) low.last)
    by_next None gap =
        let follow : AllFollow meter.range meter.opening (a.row.entry ∷ entries_in a.before) = subst (AllFollow meter.range meter.opening) gap.old h in
        omega (
          arith,
          follow.0.later,
          last_moment meter a.row.entry (entries_in a.before),
          ap (λ (es : List Entry). (last_after meter es).at) gap.old,
          ap (λ (es : List Entry). (last_after meter es).at) gap.new,
        )

pub voids_go_no_further : VoidsGoNoFurther
voids_go_no_further meter lines place well h =
    let sound = rows_are_sound meter lines well.raw h.1 in
    let left = voids_leave meter (rows_of meter.opening lines) place well.raw h.0 sound.account.follow sound.still in
    no_further meter place (rows_of meter.opening lines) left.0 sound.account.follow left.1.0
