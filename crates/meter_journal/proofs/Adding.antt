-- Lemmas: the energy from the last valid (not voided) entry to a new entry is split into shares,
-- one for each quarter hour. The shares are added one by one to the interval rows (energies by
-- quarter hour).
use Rattle.std.proofs.Common.{◌≡◌, ℕ, ◌+◌, ◌*◌, ◌^◌, ◌/◌, ◌<◌, ◌≤◌, ◌==◌, Bool, true, false, cond, List, [], ◌∷◌, refl, sym, ap, ◌∙◌, inl, arith}
use Rattle.std.proofs.lemmas.Bool.{cond-false, eqb-true}
use Rattle.std.proofs.lemmas.Bool.Decides.{nat_tests}
use Rattle.energy_core.specs.declared.entries.Last.{Last}
use Rattle.energy_core.specs.declared.entries.Step.{Step}
use Rattle.energy_core.specs.declared.entries.Entry.{Entry}
use Rattle.energy_core.specs.Account.{energy_of, step_to}
use Rattle.energy_core.proofs.Bookings.{entered_where_booked}
use Rattle.interval_core.specs.declared.shares.Share.{Share}
use Rattle.interval_core.specs.Share.{shares_of}
use Rattle.interval_core.specs.Account.{Touches, SharesAddUp}
use Rattle.meter_journal.specs.Books.{last_after, total_after, steps_after}
use Rattle.meter_journal.specs.Intervals.{with_shares, rows_of_steps, with_share, with_each}
use Rattle.meter_journal.specs.Journal.{Entered, entries_of}
use Rattle.meter_journal.specs.Changes.{EntriesGoOn}
use Rattle.meter_journal.proofs.Voiding.{whole_with}
use Rattle.meter_journal.proofs.Keeping.{journals_are_kept}
use Rattle.meter_journal.proofs.InTime.{in_time}
use Rattle.meter_journal.proofs.Chains.{Lies, touched_lies}
use Rattle.meter_journal.proofs.Merging.{Above, Among, Rising, UpTo, above_lower, has_rows, rising_of, upto_all, contains_of, among_of}

-- Adding shares (energies of single quarter hours) that start after the first interval row leaves
-- this row unchanged.
pub past_row : (row : Share) (rows shares : List Share) → Above row.start shares → with_each shares (row ∷ rows) ≡ row ∷ with_each shares rows
past_row row rows [] h = refl
past_row row rows (share ∷ shares) h =
    let off : row.start == share.start ≡ false = let lt : row.start < share.start = h.0 in grind (arith, nat_tests, lt) in
    ap (with_each shares) (cond-false _ _ _ off) ∙ past_row row (with_share share rows) shares h.1

-- Adding shares (energies of single quarter hours), in order, to an empty list of interval rows
-- produces these shares as rows.
all_new : (shares : List Share) → Rising shares → with_each shares [] ≡ shares
all_new [] h = refl
all_new (share ∷ shares) h = past_row share [] shares h.0 ∙ ap (λ rows. share ∷ rows) (all_new shares h.1)

same_start : (row share : Share) (shares : List Share) → row.start ≡ share.start → Above share.start shares → Above row.start shares
same_start row share shares is h = above_lower row.start share.start shares (omega (arith, is)) h

one_row : (row share : Share) (shares : List Share) (b : Bool) → row.start == share.start ≡ b → Rising (share ∷ shares) → row.start ≤ share.start
    → with_each shares (cond b (record { start = row.start; mwh = row.mwh + share.mwh } ∷ []) (row ∷ share ∷ []))
    ≡ cond b (record { start = row.start; mwh = row.mwh + share.mwh } ∷ shares) (row ∷ share ∷ shares)
one_row row share shares true e rising le =
    let is : row.start ≡ share.start = eqb-true row.start share.start e in
    let made : Share = record { start = row.start; mwh = row.mwh + share.mwh } in
    past_row made [] shares (same_start row share shares is rising.0) ∙ ap (λ rows. made ∷ rows) (all_new shares rising.1)
one_row row share shares false e rising le =
    let lt : row.start < share.start = grind (arith, nat_tests, le, e) in
    past_row row (share ∷ []) shares (above_lower row.start share.start shares (omega (arith, lt)) rising.0)
    ∙ ap (λ rows. row ∷ rows) (past_row share [] shares rising.0 ∙ ap (λ rows. share ∷ rows) (all_new shares rising.1))

-- Suppose that no share (energy of a quarter hour) in a list starts before the last interval row.
-- Merging the list into the rows then has the same result as adding each share to the row of its
-- quarter hour.
pub added_each : (rows : List Share) (share : Share) (shares : List Share) → Rising rows → Rising (share ∷ shares) → UpTo share.start rows
    → with_shares rows (share ∷ shares) ≡ with_each (share ∷ shares) rows
added_each [] share shares up rising upto = sym (all_new (share ∷ shares) rising)
added_each (row ∷ []) share shares up rising upto = sym (one_row row share shares (row.start == share.start) refl rising upto.0)
added_each (row ∷ next ∷ rows) share shares up rising upto =
    let lt : row.start < share.start = omega (arith, up.0.0, upto.1.0) in
    ap (λ rs. row ∷ rs) (added_each (next ∷ rows) share shares up.1 rising upto.1)
    ∙ sym (past_row row (next ∷ rows) (share ∷ shares) (lt, above_lower row.start share.start shares (omega (arith, lt)) rising.0))

-- States that merging shares (energies of quarter hours) into interval rows has the same result as
-- adding each share to the row of its interval.
abbrev IsAddedEach : List Share → List Share → Type 0
IsAddedEach rows shares = with_shares rows shares ≡ with_each shares rows

added_after : (opened last : ℕ) (step : Step) (rows shares : List Share) → Rising rows → Rising shares → step.from ≡ last
    → ((s : ℕ) → Among s rows → Lies opened last s) → ((s : ℕ) → Among s shares → Touches step s) → (Among (step.from / 900 * 900) shares)
    → IsAddedEach rows shares
added_after opened last step rows [] up rising is lie touch begun = absurd begun
added_after opened last step rows (share ∷ shares) up rising is lie touch begun =
    let first = touch share.start (inl refl) in
    added_each rows share shares up rising (upto_all share.start rows (λ s there.
    let l = lie s there in
    omega (arith, l.whole, l.before, first.0, first.2, is)))

pub entries_go_on : SharesAddUp → EntriesGoOn
entries_go_on law meter lines k e well h =
    let es : List Entry = entries_of meter.opening lines in
    let last : Last = last_after meter es in
    let was = journals_are_kept meter lines well h.1 in
    let now = journals_are_kept meter (Entered k e ∷ lines) well h in
    let follow = now.account.follow in
    let step : Step = step_to meter.range last e in
    let total = whole_with meter e es follow in
    let within : total_after meter es + energy_of meter.range last e ≤ 4 * 10 ^ 18 = omega (arith, now.account.within, total) in
    let before = has_rows law (steps_after meter es) (in_time meter es was.account.follow) in
    let spread = law step follow.0.later in
    record {
      may = record { booked = was.account.within; raw = was.sound.raw; scale = was.sound.scale; follows = follow.0; within = within };
      booked = entered_where_booked meter.range (total_after meter es) last e _ step
          (record { next_is = refl; step_is = refl; follows = follow.0; within = within });
      last = refl;
      total = total;
      joined = refl;
      added = added_after meter.opening.at last.at step (rows_of_steps (steps_after meter es)) (shares_of step) before.rising
          (rising_of (shares_of step) spread.in_order) refl
          (λ s there. touched_lies meter es s was.account.follow (before.touched s there))
          (λ s there. (spread.touched s).0 (contains_of s (shares_of step) there))
          (among_of (step.from / 900 * 900) (shares_of step)
          ((spread.touched (step.from / 900 * 900)).1 (omega arith, omega (arith, follow.0.later), omega arith)));
    }
