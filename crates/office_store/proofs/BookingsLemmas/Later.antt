-- Proofs that the entry that follows a voided (cancelled) entry is not later than the meter's last
-- entry that is not voided.
use Rattle.std.proofs.Common.{◌≡◌, ◌≤◌, ◌<◌, ℕ, ◌==◌, Bool, true, false, cond, inl, inr, List, [], ◌∷◌, Option, Some, None, option_map, refl, sym, ap, subst, ◌∙◌, arith}
use Rattle.std.specs.Option.{option_or}
use Rattle.std.specs.List.{AllByRecursion, Contains}
use Rattle.std.proofs.lemmas.Bool.{cases_Bool, cond-true, cond-false}
use Rattle.std.proofs.lemmas.Option.{same_Some}
use Rattle.std.proofs.lemmas.List.Elements.{All-contains_itself, recursion_from_All}
use Rattle.sqlite_keyed.proofs.ListLemmas.{all_unmap}
use Rattle.energy_core.specs.declared.entries.Last.{Last}
use Rattle.energy_core.specs.declared.entries.Step.{Step}
use Rattle.energy_core.specs.declared.entries.Entry.{Entry}
use Rattle.energy_core.specs.declared.entries.Entry.TheVariants as entry
use Rattle.energy_core.specs.Account.{after, last_of, moment_of, AllFollow}
use Rattle.interval_core.specs.declared.shares.Share.{Share}
use Rattle.interval_core.specs.Share.{shares_of}
use Rattle.interval_core.specs.Account.{SharesAddUp, starts_of}
use Rattle.meter_journal.specs.declared.lines.EntryRow.{EntryRow}
use Rattle.meter_journal.specs.Journal.{Around, entries_in, if_standing, passed, row_at}
use Rattle.meter_journal.proofs.Keeping.{entries_standing, entries_struck}

moment_after : (last : Last) (e : Entry) → (after last e).at ≡ moment_of e
moment_after last (entry.Step at raw rolls) = refl
moment_after last (entry.Change at before new sf) = refl

module _ (range : ℕ) (opening : Last) where
  abbrev at_end : List EntryRow → ℕ
  at_end rows = (last_of opening (entries_in rows)).at

  -- If the rules for meter entries accept each entry in a meter's history after the entry before
  -- it, they also accept the entries of the history without its latest row.
  follow_tail : (row : EntryRow) (rows : List EntryRow) (stands : Bool) → row.stands ≡ stands → AllFollow range opening (entries_in (row ∷ rows)) → AllFollow range opening (entries_in rows)
  follow_tail row rows true is h = (subst (AllFollow range opening) (entries_standing row rows is) h).1
  follow_tail row rows false is h = subst (AllFollow range opening) (entries_struck row rows is) h

  goes_on : (row : EntryRow) (rows : List EntryRow) (stands : Bool) → row.stands ≡ stands → AllFollow range opening (entries_in (row ∷ rows)) → at_end rows ≤ at_end (row ∷ rows)
  goes_on row rows true is h =
      let later = (subst (AllFollow range opening) (entries_standing row rows is) h).0.later in
      let end : at_end (row ∷ rows) ≡ moment_of row.entry = ap (λ es. (last_of opening es).at) (entries_standing row rows is) ∙ moment_after (last_of opening (entries_in rows)) row.entry in
      omega (arith, later, end)
  goes_on row rows false is h = let end : at_end (row ∷ rows) ≡ at_end rows = ap (λ es. (last_of opening es).at) (entries_struck row rows is) in omega (arith, end)

  begins_first : (rows : List EntryRow) → AllFollow range opening (entries_in rows) → opening.at ≤ at_end rows
  begins_first [] h = omega arith
  begins_first (row ∷ rows) h =
      let rest = begins_first rows (follow_tail row rows row.stands refl h) in let more = goes_on row rows row.stands refl h in omega (arith, rest, more)

  -- True if the entry `next` is later than the meter's opening (its first entry), and not later
  -- than the meter's last entry that is not voided.
  pub record LiesBetween (next : EntryRow) (rows : List EntryRow) : Type 0 where
    pub later : opening.at < moment_of next.entry
    pub earlier : moment_of next.entry ≤ at_end rows

  standing_one : (row : EntryRow) (rows : List EntryRow) (next : EntryRow) (stands : Bool) → row.stands ≡ stands → (let o : Option EntryRow = cond stands (Some row) None in o) ≡ Some next → AllFollow range opening (entries_in (row ∷ rows)) → LiesBetween next (row ∷ rows)
  standing_one row rows next true is found h =
      let this : row ≡ next = same_Some row next found in
      let follows = (subst (AllFollow range opening) (entries_standing row rows is) h) in
      let later = follows.0.later in
      let first = begins_first rows follows.1 in
      let end : at_end (row ∷ rows) ≡ moment_of row.entry = ap (λ es. (last_of opening es).at) (entries_standing row rows is) ∙ moment_after (last_of opening (entries_in rows)) row.entry in
      subst (λ (n : EntryRow). LiesBetween n (row ∷ rows)) this (record { later = omega (arith, later, first); earlier = omega (arith, end) })
  standing_one row rows next false is found h = absurd (let e = found in cc)

  seen_past : (row : EntryRow) (rows : List EntryRow) (o : Option EntryRow) (next : EntryRow) → ((n : EntryRow) → o ≡ Some n → LiesBetween n rows) → option_or o (if_standing row) ≡ Some next
      → AllFollow range opening (entries_in (row ∷ rows)) → LiesBetween next (row ∷ rows)
  seen_past row rows (Some m) next before found h =
      let it = before next found in
      let more = goes_on row rows row.stands refl h in
      record { later = it.later; earlier = (let le = it.earlier in omega (arith, le, more)) }
  seen_past row rows None next before found h = standing_one row rows next row.stands refl found h

  found_rest : (row : EntryRow) (o : Option Around) (around : Around) → option_map (passed row) o ≡ Some around → (rest : Around) × (o ≡ Some rest) × (around.next ≡ option_or rest.next (if_standing row))
  found_rest row None around h = absurd (let e = h in cc)
  found_rest row (Some rest) around h = (rest, refl, ap (λ (a : Around). a.next) (sym (same_Some (passed row rest) around h)))

  pub next_lies : (place : ℕ) (rows : List EntryRow) (around : Around) (next : EntryRow) → row_at place rows ≡ Some around → around.next ≡ Some next → AllFollow range opening (entries_in rows) → LiesBetween next rows
  next_lies place [] around next found is h = absurd (let e = found in cc)
  next_lies place (row ∷ rows) around next found is h = elim (cases_Bool (row.place == place)) [
    | inl at ↦
        let this = same_Some (let a : Around = record { before = rows; row = row; next = None } in a) around (sym (cond-true _ _ _ at) ∙ found) in
        absurd (let e : None ≡ Some next = ap (λ (a : Around). a.next) this ∙ is in cc)
    | inr off ↦
        let it = found_rest row (row_at place rows) around (sym (cond-false _ _ _ off) ∙ found) in
        seen_past row rows it.0.next next (λ n e. next_lies place rows it.0 n it.1 e (follow_tail row rows row.stands refl h)) (sym it.2 ∙ is) h
  ]

-- Lemmas that all quarter hours with energy between two meter entries start before the second
-- entry.

all_starts : (shares : List Share) (till : ℕ) → ((start : ℕ) → Contains (starts_of shares) start → start < till) → AllByRecursion (λ (s : Share). s.start < till) shares
all_starts shares till each =
    all_unmap (λ n. n < till) (λ (s : Share). s.start) shares (recursion_from_All (λ n. n < till) (starts_of shares) (λ i d low. each _ (All-contains_itself (starts_of shares) i d low)))

pub shares_begin : SharesAddUp → (step : Step) (bound : ℕ) → step.from < step.till → step.till ≤ bound → AllByRecursion (λ (s : Share). s.start < bound) (shares_of step)
shares_begin law step bound forward le =
    all_starts (shares_of step) bound (λ start has. let low = (((law step forward).touched start).0 has).1 in omega (arith, low, le))
