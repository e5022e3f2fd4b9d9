-- Lemmas: a search through a meter's entries, chunk by chunk, finds the last valid (not voided)
-- entry up to a timestamp. A new database file continues the meter from this entry.
use Rattle.std.proofs.Common.{◌≡◌, ℕ, ◌+◌, ◌<◌, true, false, ◌&&◌, List, [], ◌∷◌, ◌++◌, map, take, drop, length, Option, Some, None, inl, inr, refl, sym, ap, subst, ◌∙◌, arith}
use Rattle.std.specs.List.{find}
use Rattle.std.specs.Option.{option_map}
use Rattle.std.proofs.lemmas.Bool.{cases_Bool, cond-true, cond-false}
use Rattle.std.proofs.lemmas.List.{drop_all, reverse-append, reverse-reverse, take_all}
use Rattle.energy_core.specs.declared.entries.Entry.{Entry}
use Rattle.energy_core.specs.declared.entries.Entry.TheVariants as entry
use Rattle.energy_core.specs.declared.entries.Last.{Last}
use Rattle.energy_core.specs.Account.{after, last_of}
use Rattle.meter_journal.specs.declared.lines.EntryRow.{EntryRow}
use Rattle.meter_journal.specs.Journal as journal
use Rattle.office_events.specs.declared.facts.Fact.{Fact}
use Rattle.office_events.specs.declared.facts.Opening.{Opening}
use Rattle.office_events.specs.declared.questions.Installation.{Installation}
use Rattle.office_books.specs.Facts.{opening_of}
use Rattle.office_books.specs.Meters.{installation_of, meter_of, opened, rows_of}
use Rattle.office_books.specs.declared.entries.MeterEntry.{MeterEntry}
use Rattle.office_books.specs.declared.entries.MeterEntry.TheVariants as listed
use Rattle.office_books.specs.Entries.{all_entries, entries_at, entries_from, first_from, listed_rows}
use Rattle.office_books.proofs.Listing.{none_listed}
use Rattle.office_books.proofs.Pieces.{last_piece, one_piece_more, piece_at}
use Rattle.carried_books.specs.Carrying.Standings.{counts, is_until, last_among, last_until, set_by, shown_by}

module _ (until : Option ℕ) where
  abbrev latest : List MeterEntry → Option Last
  latest entries = option_map shown_by (find (counts until) entries)

  pub last_more : (before : List MeterEntry) (e : MeterEntry) → counts until e ≡ true → last_among until (before ++ e ∷ []) ≡ Some (shown_by e)
  last_more before e is = ap latest (reverse-append before (e ∷ [])) ∙ ap (option_map shown_by) (cond-true _ _ _ is)

  pub last_same : (before : List MeterEntry) (e : MeterEntry) → counts until e ≡ false → last_among until (before ++ e ∷ []) ≡ last_among until before
  last_same before e is = ap latest (reverse-append before (e ∷ [])) ∙ ap (option_map shown_by) (cond-false _ _ _ is)

  -- Lemmas: the current state of a meter's counter is its state after the meter's last valid (not
  -- voided) entry.

  set_after : (last : Last) (e : Entry) → set_by e (after last e).sf ≡ after last e
  set_after last (entry.Step at raw rolls) = refl
  set_after last (entry.Change at before new sf) = refl

  at_row : (opening : Opening) (row : EntryRow) (rows : List EntryRow) → row.stands ≡ true
      → is_until until (last_of (opened opening) (journal.entries_in (row ∷ rows))).at ≡ true
      → latest (listed_rows opening (row ∷ rows)) ≡ Some (last_of (opened opening) (journal.entries_in (row ∷ rows)))
  at_row opening row rows so is =
      let o : Last = opened opening in
      let last : Last = last_of o (journal.entries_in (row ∷ rows)) in
      let before : Last = last_of o (journal.entries_in rows) in
      let e : MeterEntry = listed.Later row last.sf in
      let more : last ≡ after before row.entry =
      ap (λ (those : List EntryRow). last_of o (map (λ (r : EntryRow). r.entry) those)) (cond-true _ _ _ so) in
      let shown : shown_by e ≡ last = ap (λ (l : Last). set_by row.entry l.sf) more ∙ set_after before row.entry ∙ sym more in
      let counted : counts until e ≡ true =
      ap (λ b. b && is_until until (shown_by e).at) so ∙ ap (λ (l : Last). is_until until l.at) shown ∙ is in
      ap (option_map shown_by) (cond-true _ _ _ counted) ∙ ap Some shown

  past_row : (opening : Opening) (row : EntryRow) (rows : List EntryRow) → row.stands ≡ false
      → (is_until until (last_of (opened opening) (journal.entries_in rows)).at ≡ true
      → latest (listed_rows opening rows) ≡ Some (last_of (opened opening) (journal.entries_in rows)))
      → is_until until (last_of (opened opening) (journal.entries_in (row ∷ rows))).at ≡ true
      → latest (listed_rows opening (row ∷ rows)) ≡ Some (last_of (opened opening) (journal.entries_in (row ∷ rows)))
  past_row opening row rows so rest is =
      let o : Last = opened opening in
      let last : Last = last_of o (journal.entries_in (row ∷ rows)) in
      let before : Last = last_of o (journal.entries_in rows) in
      let e : MeterEntry = listed.Later row last.sf in
      let same : last ≡ before = ap (λ (those : List EntryRow). last_of o (map (λ (r : EntryRow). r.entry) those)) (cond-false _ _ _ so) in
      let passed : counts until e ≡ false = ap (λ b. b && is_until until (shown_by e).at) so in
      ap (option_map shown_by) (cond-false _ _ _ passed)
      ∙ rest (ap (λ (l : Last). is_until until l.at) (sym same) ∙ is) ∙ ap Some (sym same)

  standing_last : (opening : Opening) (rows : List EntryRow) → is_until until (last_of (opened opening) (journal.entries_in rows)).at ≡ true
      → latest (listed_rows opening rows) ≡ Some (last_of (opened opening) (journal.entries_in rows))
  standing_last opening [] is = ap (option_map shown_by) (cond-true _ _ _ is)
  standing_last opening (row ∷ rows) is =
      elim (cases_Bool row.stands) [
        | inl so ↦ at_row opening row rows so is
        | inr so ↦ past_row opening row rows so (standing_last opening rows) is
      ]

  abbrev last_or : Last → Option Installation → Last
  last_or last None = last
  last_or last (Some row) = row.last

  opened_last : (facts : List Fact) (row : Installation) (found : Option Opening) → option_map (installation_of facts) found ≡ Some row
      → is_until until row.last.at ≡ true → last_among until (entries_at facts found) ≡ Some row.last
  opened_last facts row None is counted = absurd (cc is)
  opened_last facts row (Some opening) is counted =
      let same : (installation_of facts opening).last ≡ row.last = ap (last_or row.last) is in
      ap latest (reverse-reverse (listed_rows opening (rows_of facts opening)))
      ∙ standing_last opening (rows_of facts opening) (ap (λ (l : Last). is_until until l.at) same ∙ counted) ∙ ap Some same

  no_last : (facts : List Fact) (found : Option Opening) → option_map (installation_of facts) found ≡ None
      → last_among until (entries_at facts found) ≡ None
  no_last facts None is = refl
  no_last facts (Some opening) is = absurd (cc is)

  pub where_it_stands : (facts : List Fact) (meter : List ℕ) (row : Installation) → meter_of facts meter ≡ Some row
      → is_until until row.last.at ≡ true → last_until facts until meter ≡ Some row.last
  where_it_stands facts meter row is counted = opened_last facts row (opening_of facts meter) is counted

  pub not_there : (facts : List Fact) (meter : List ℕ) → meter_of facts meter ≡ None → last_until facts until meter ≡ None
  not_there facts meter is = no_last facts (opening_of facts meter) is

  pub piece_of : (facts : List Fact) (found : Option Opening) (n most : ℕ)
      → first_from (n + 1) most (entries_at facts found) ≡ take most (drop n (entries_at facts found))
  piece_of facts None n most = none_listed (n + 1) most ∙ sym (ap (take most) (drop_all n [] (omega arith)) ∙ take_all most [] (omega arith))
  piece_of facts (Some opening) n most = piece_at facts opening n most

  -- Suppose that `found` is the counter state at the last valid (not voided) entry among a meter's
  -- first `n` entries. After the next chunk of entries is searched too, the search's result is the
  -- state at the last valid entry so far.
  pub piece_more : (facts : List Fact) (meter : List ℕ) (n : ℕ) (piece : List MeterEntry) (found more : Option Last)
      → piece ≡ entries_from facts meter (n + 1) 65536 → found ≡ last_among until (take n (all_entries facts meter))
      → ((before : List MeterEntry) → found ≡ last_among until before → more ≡ last_among until (before ++ piece))
      → more ≡ last_among until (take (n + 65536) (all_entries facts meter))
  piece_more facts meter n piece found more are is went =
      let es : List MeterEntry = all_entries facts meter in
      went (take n es) is
      ∙ ap (λ (those : List MeterEntry). last_among until (take n es ++ those)) (are ∙ piece_of facts (opening_of facts meter) n 65536)
      ∙ ap (last_among until) (one_piece_more n 65536 es)

  -- If a query for a chunk of a meter's entries returns fewer entries than requested, then the
  -- meter has no further entries. The search's result is then the counter state at the meter's last
  -- valid (not voided) entry.
  pub piece_last : (facts : List Fact) (meter : List ℕ) (n : ℕ) (piece : List MeterEntry) (found more : Option Last)
      → piece ≡ entries_from facts meter (n + 1) 65536 → found ≡ last_among until (take n (all_entries facts meter))
      → ((before : List MeterEntry) → found ≡ last_among until before → more ≡ last_among until (before ++ piece))
      → length piece < 65536 → more ≡ last_until facts until meter
  piece_last facts meter n piece found more are is went few =
      let es : List MeterEntry = all_entries facts meter in
      let items : piece ≡ take 65536 (drop n es) = are ∙ piece_of facts (opening_of facts meter) n 65536 in
      went (take n es) is
      ∙ ap (λ (those : List MeterEntry). last_among until (take n es ++ those)) items
      ∙ ap (last_among until) (last_piece n 65536 es (subst (λ (those : List MeterEntry). length those < 65536) items few))
