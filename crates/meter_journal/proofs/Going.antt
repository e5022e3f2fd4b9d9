-- Lemmas: the state of a meter that is computed row by row is, after each row, the state after the
-- valid (not voided) entries up to this row.
use Rattle.std.proofs.Common.{◌≡◌, ℕ, ◌+◌, ◌*◌, ◌^◌, ◌<◌, ◌≤◌, true, false, List, [], ◌∷◌, ◌++◌, reverse, take, drop, length, get_or, refl, sym, ap, subst, ◌∙◌, inl, inr, arith, Some, None}
use Rattle.std.proofs.lemmas.Bool.{cases_Bool, cond-true, cond-false}
use Rattle.std.proofs.lemmas.Option.{same_Some}
use Rattle.std.proofs.lemmas.List.{reverse-append, take-append-drop, take_all}
use Rattle.energy_core.specs.declared.entries.Last.{Last}
use Rattle.energy_core.specs.declared.entries.Step.{Step}
use Rattle.energy_core.specs.declared.entries.Entry.{Entry}
use Rattle.energy_core.specs.Account.{step_to, energy_of}
use Rattle.energy_core.proofs.Soundness.{accounts_are_sound}
use Rattle.meter_journal.specs.declared.lines.Installed.{Installed}
use Rattle.meter_journal.specs.declared.lines.EntryRow.{EntryRow}
use Rattle.meter_journal.specs.Books.{last_after, total_after, steps_after, HasAccount, IsWellInstalled}
use Rattle.meter_journal.specs.Journal.{entries_in}
use Rattle.meter_journal.specs.Lists.{latest_first, following, step_past, energy_past, MayGoOn}
use Rattle.interval_core.specs.declared.shares.Share.{Share}
use Rattle.interval_core.specs.Share.{shares_of}
use Rattle.interval_core.specs.Account.{SharesAddUp, energy_of as energy_in}
use Rattle.meter_journal.specs.Intervals.{with_shares, rows_of_steps}
use Rattle.meter_journal.proofs.Voiding.{whole_with}
use Rattle.meter_journal.proofs.Joining.{energy_is_total}
use Rattle.meter_journal.proofs.Forward.{turned, last_more}
use Rattle.meter_journal.proofs.Keeping.{entries_standing, entries_struck}

account_tail : (meter : Installed) (e : Entry) (es : List Entry) → HasAccount meter (e ∷ es) → HasAccount meter es
account_tail meter e es h =
    record { last_is = refl; total_is = refl; within = omega (arith, h.within, whole_with meter e es h.follow); follow = h.follow.1 }

-- The valid (not voided) entries of the rows before the index `i`.
abbrev earlier : List EntryRow → (i : ℕ) → List Entry
earlier rows i = entries_in (latest_first (take i rows))

pub account_below : (meter : Installed) (newer older : List EntryRow) → HasAccount meter (entries_in (newer ++ older)) → HasAccount meter (entries_in older)
account_below meter [] older h = h
account_below meter (row ∷ newer) older h =
    account_below meter newer older (elim (cases_Bool row.stands) [
      | inl on ↦ account_tail meter row.entry (entries_in (newer ++ older)) (subst (HasAccount meter) (entries_standing row (newer ++ older) on) h)
      | inr off ↦ subst (HasAccount meter) (entries_struck row (newer ++ older) off) h
    ])

account_at : (meter : Installed) (rows : List EntryRow) (i : ℕ) → HasAccount meter (entries_in (latest_first rows)) → HasAccount meter (earlier rows i)
account_at meter rows i h =
    let split : reverse rows ≡ reverse (drop i rows) ++ reverse (take i rows) =
    ap (λ (rs : List EntryRow). reverse rs) (sym (take-append-drop i rows)) ∙ reverse-append (take i rows) (drop i rows) in
    account_below meter (reverse (drop i rows)) (reverse (take i rows)) (subst (λ (rs : List EntryRow). HasAccount meter (entries_in rs)) split h)

-- If the row at the index `i` is valid, then its entry is added to the valid (not voided) entries
-- of the rows before it.
pub earlier_standing : (rows : List EntryRow) (i : ℕ) (d : EntryRow) → i < length rows → (get_or rows i d).stands ≡ true
    → earlier rows (i + 1) ≡ (get_or rows i d).entry ∷ earlier rows i
earlier_standing rows i d lt on = ap entries_in (turned rows i d lt) ∙ entries_standing (get_or rows i d) (reverse (take i rows)) on

pub earlier_struck : (rows : List EntryRow) (i : ℕ) (d : EntryRow) → i < length rows → (get_or rows i d).stands ≡ false
    → earlier rows (i + 1) ≡ earlier rows i
earlier_struck rows i d lt off = ap entries_in (turned rows i d lt) ∙ entries_struck (get_or rows i d) (reverse (take i rows)) off

pub earlier_all : (rows : List EntryRow) (i : ℕ) → length rows ≤ i → earlier rows i ≡ entries_in (latest_first rows)
earlier_all rows i le = ap (λ (rs : List EntryRow). entries_in (latest_first rs)) (take_all i rows le)

pub account_next : (meter : Installed) (rows : List EntryRow) (i : ℕ) (d : EntryRow) → HasAccount meter (entries_in (latest_first rows))
    → i < length rows → (get_or rows i d).stands ≡ true → HasAccount meter ((get_or rows i d).entry ∷ earlier rows i)
account_next meter rows i d h lt on = subst (HasAccount meter) (earlier_standing rows i d lt on) (account_at meter rows (i + 1) h)

pub may_go_on : (meter : Installed) (rows : List EntryRow) (i : ℕ) (d : EntryRow) (last : Last) (total : ℕ) → IsWellInstalled meter
    → HasAccount meter (entries_in (latest_first rows)) → i < length rows → (get_or rows i d).stands ≡ true
    → last ≡ last_after meter (earlier rows i) → total ≡ total_after meter (earlier rows i)
    → MayGoOn meter last total (get_or rows i d).entry
may_go_on meter rows i d last total well h lt on last_is total_is =
    let e : Entry = (get_or rows i d).entry in
    let es : List Entry = earlier rows i in
    let now : HasAccount meter es = account_at meter rows i h in
    let next : HasAccount meter (e ∷ es) = account_next meter rows i d h lt on in
    let sound = accounts_are_sound meter.range meter.opening es (last_after meter es) (total_after meter es) well.raw well.scale now in
    let may : MayGoOn meter (last_after meter es) (total_after meter es) e = record {
      booked = now.within;
      raw = sound.raw;
      scale = sound.scale;
      follows = next.follow.0;
      within = omega (arith, next.within, whole_with meter e es next.follow);
    } in
    subst (λ (l : Last). MayGoOn meter l total e) (sym last_is) (subst (λ n. MayGoOn meter (last_after meter es) n e) (sym total_is) may)

-- The state of a meter's counter after one more row is the state after all valid (not voided)
-- entries up to that row.
pub last_next : (meter : Installed) (rows : List EntryRow) (i : ℕ) (d : EntryRow) (last next : Last) → i < length rows
    → last ≡ last_after meter (earlier rows i) → next ≡ following last (get_or rows i d) → next ≡ last_after meter (earlier rows (i + 1))
last_next meter rows i d last next lt last_is next_is =
    last_more meter.opening rows i d last next lt last_is next_is

pub total_next : (meter : Installed) (rows : List EntryRow) (i : ℕ) (d : EntryRow) (last : Last) (total next : ℕ)
    → HasAccount meter (entries_in (latest_first rows)) → i < length rows
    → last ≡ last_after meter (earlier rows i) → total ≡ total_after meter (earlier rows i)
    → next ≡ total + energy_past meter.range last (get_or rows i d) → next ≡ total_after meter (earlier rows (i + 1))
total_next meter rows i d last total next h lt last_is total_is next_is =
    let row : EntryRow = get_or rows i d in
    let es : List Entry = earlier rows i in
    let gain : energy_past meter.range last row ≡ energy_past meter.range (last_after meter es) row = ap (λ (l : Last). energy_past meter.range l row) last_is in
    elim (cases_Bool row.stands) [
      | inl on ↦
          let energy : energy_past meter.range (last_after meter es) row ≡ energy_of meter.range (last_after meter es) row.entry = cond-true _ _ _ on in
          let more : next ≡ total_after meter (row.entry ∷ es) =
          omega (arith, next_is, total_is, gain, energy, whole_with meter row.entry es (account_next meter rows i d h lt on).follow) in
          more ∙ ap (total_after meter) (sym (earlier_standing rows i d lt on))
      | inr off ↦
          let energy : energy_past meter.range (last_after meter es) row ≡ 0 = cond-false _ _ _ off in
          let more : next ≡ total_after meter es = omega (arith, next_is, total_is, gain, energy) in
          more ∙ ap (total_after meter) (sym (earlier_struck rows i d lt off))
    ]

-- If a row of a meter's entries has a step (the energy since the last valid entry), then the row is
-- valid. A row without a step is voided (cancelled).
pub step_is : (range : ℕ) (rows : List EntryRow) (i : ℕ) (d : EntryRow) (last : Last) (step : Step) → Some step ≡ step_past range last (get_or rows i d)
    → ((get_or rows i d).stands ≡ true) × (step ≡ step_to range last (get_or rows i d).entry)
step_is range rows i d last step is =
    elim (cases_Bool (get_or rows i d).stands) [
      | inl on ↦ (on, same_Some _ _ (is ∙ cond-true _ _ _ on))
      | inr off ↦ absurd (let e : Some step ≡ None = is ∙ cond-false _ _ _ off in cc)
    ]

pub no_step : (range : ℕ) (rows : List EntryRow) (i : ℕ) (d : EntryRow) (last : Last) → None ≡ step_past range last (get_or rows i d)
    → (get_or rows i d).stands ≡ false
no_step range rows i d last is =
    elim (cases_Bool (get_or rows i d).stands) [
      | inl on ↦ absurd (let e : None ≡ Some (step_to range last (get_or rows i d).entry) = is ∙ cond-true _ _ _ on in cc)
      | inr off ↦ off
    ]

-- The interval rows (energies by quarter hour) after one more valid (not voided) row are those of
-- all valid entries up to that row.
pub shares_next : (meter : Installed) (rows : List EntryRow) (i : ℕ) (d : EntryRow) (last : Last) (shares next : List Share) (step : Step)
    → i < length rows → (get_or rows i d).stands ≡ true → last ≡ last_after meter (earlier rows i)
    → shares ≡ rows_of_steps (steps_after meter (earlier rows i)) → step ≡ step_to meter.range last (get_or rows i d).entry
    → next ≡ with_shares shares (shares_of step) → next ≡ rows_of_steps (steps_after meter (earlier rows (i + 1)))
shares_next meter rows i d last shares next step lt on last_is shares_is step_is next_is =
    let e : Entry = (get_or rows i d).entry in
    let es : List Entry = earlier rows i in
    next_is ∙ ap (λ (ss : List Share). with_shares ss (shares_of step)) shares_is
    ∙ ap (λ (s : Step). with_shares (rows_of_steps (steps_after meter es)) (shares_of s)) (step_is ∙ ap (λ (l : Last). step_to meter.range l e) last_is)
    ∙ ap (λ (xs : List Entry). rows_of_steps (steps_after meter xs)) (sym (earlier_standing rows i d lt on))

-- The energy of a meter's interval rows and the energy of the next step (to the next valid entry)
-- are together at most the limit of 4 * 10^18 mWh.
pub shares_within : SharesAddUp → (meter : Installed) (rows : List EntryRow) (i : ℕ) (d : EntryRow) (last : Last) (total : ℕ) (shares : List Share) (step : Step)
    → IsWellInstalled meter → HasAccount meter (entries_in (latest_first rows)) → i < length rows → (get_or rows i d).stands ≡ true
    → last ≡ last_after meter (earlier rows i) → total ≡ total_after meter (earlier rows i)
    → shares ≡ rows_of_steps (steps_after meter (earlier rows i)) → step ≡ step_to meter.range last (get_or rows i d).entry
    → energy_in shares + step.mwh ≤ 4 * 10 ^ 18
shares_within law meter rows i d last total shares step well h lt on last_is total_is shares_is step_is =
    let may = may_go_on meter rows i d last total well h lt on last_is total_is in
    let sum : energy_in shares ≡ total_after meter (earlier rows i) =
    ap energy_in shares_is ∙ energy_is_total law meter (earlier rows i) (account_at meter rows i h).follow in
    let energy : step.mwh ≡ energy_of meter.range last (get_or rows i d).entry = ap (λ (s : Step). s.mwh) step_is in
    omega (arith, may.within, sum, energy, total_is)
