-- Lemmas about a voided (cancelled) entry, and the verdict on the entry after it. The verdict can
-- be computed from the meter's present total energy or from the energy before the voided entry. The
-- results are equal, unless the total exceeds its limit.
use Rattle.std.proofs.Common.{◌≡◌, ◌⊎◌, ℕ, ◌+◌, ◌*◌, ◌≤◌, ◌<◌, Bool, true, false, List, [], ◌∷◌, refl, sym, ap, subst, ◌∙◌, inl, inr, Option, Some, None, is_some, arith, lt-ltb, ltb-true}
use Rattle.std.specs.List.{find}
use Rattle.std.specs.Option.{option_map, option_and_then}
use Rattle.std.proofs.lemmas.Bool.{cases_Bool, cond-true, cond-false}
use Rattle.energy_core.specs.declared.limits.TheConstants.{MAX_TOTAL}
use Rattle.energy_core.specs.declared.entries.Entry.{Entry}
use Rattle.energy_core.specs.declared.entries.Entry.TheVariants as entry
use Rattle.energy_core.specs.declared.entries.Last.{Last}
use Rattle.energy_core.specs.declared.verdicts.Cause.{Cause}
use Rattle.energy_core.specs.declared.verdicts.Cause.TheVariants as cause
use Rattle.energy_core.specs.declared.verdicts.Reading.{Reading}
use Rattle.energy_core.specs.Value.{unit_of}
use Rattle.energy_core.specs.Verdict.{applies, causes, distance, judged}
use Rattle.meter_journal.specs.declared.lines.EntryRow.{EntryRow}
use Rattle.meter_journal.specs.Journal.{row_at}
use Rattle.office_events.specs.declared.facts.Fact.{Fact}
use Rattle.office_events.specs.declared.facts.Opening.{Opening}
use Rattle.office_events.specs.declared.questions.EntryContext.{EntryContext}
use Rattle.office_events.specs.declared.questions.Installation.{Installation}
use Rattle.office_books.specs.Facts.{opening_of}
use Rattle.office_books.specs.Meters.{rows_of, installation_of, place_in, entry_at}
use Rattle.office_books.specs.Refusals.{verdict_between, verdict_at, is_held_for, is_not_voidable}
use Rattle.office_books.specs.Near.{with_energy, ReportsNear}
use Rattle.office_core.specs.Refusing.Spots.{is_full, IsJudgedAs}

-- Suppose that two tests of causes differ only at `TotalFull` (total energy above its limit), which
-- only the first test accepts. If a search with the first test does not find `TotalFull`, then
-- searches with both tests find the same cause.
find_less : (p q : Cause → Bool) → ((c : Cause) → (p c ≡ q c) ⊎ ((c ≡ cause.TotalFull) × (q c ≡ true → p c ≡ true))) → (cs : List Cause) → (find p cs ≡ Some cause.TotalFull → ⊥) → find p cs ≡ find q cs
find_less p q less [] none = refl
find_less p q less (c ∷ cs) none = elim (cases_Bool (p c)) [
  | inl on ↦ elim (less c) [
    | inl same ↦ cond-true (p c) _ _ on ∙ sym (cond-true (q c) _ _ (sym same ∙ on))
    | inr full ↦ absurd (none (cond-true (p c) _ _ on ∙ ap (λ x. Some x) full.0))
  ]
  | inr off ↦
      let out : q c ≡ false = elim (less c) [
        | inl same ↦ sym same ∙ off
        | inr full ↦ elim (cases_Bool (q c)) [
          | inl applied ↦ absurd (let e : true ≡ false = sym (full.1 applied) ∙ off in cc)
          | inr out ↦ out
        ]
      ] in
      cond-false (p c) _ _ off ∙ find_less p q less cs (λ h. none (cond-false (p c) _ _ off ∙ h)) ∙ sym (cond-false (q c) _ _ out)
]

module _ (range ceiling few many : ℕ) (last : Last) (reading : Reading) (le : few ≤ many) where
  abbrev by : (total : ℕ) → Cause → Bool
  by total = applies range (record { ceiling = ceiling; total = total }) last reading

  fuller : by few cause.TotalFull ≡ true → by many cause.TotalFull ≡ true
  fuller applied =
      let step : ℕ = distance range last.raw reading.raw * unit_of last.sf in
      let lt : MAX_TOTAL < few + step = ltb-true MAX_TOTAL (few + step) applied in
      lt-ltb MAX_TOTAL (many + step) (omega (arith, lt, le))

  same_causes : (c : Cause) → (by many c ≡ by few c) ⊎ ((c ≡ cause.TotalFull) × (by few c ≡ true → by many c ≡ true))
  same_causes cause.NotAccumulated = inl refl
  same_causes cause.ScaleChanged = inl refl
  same_causes cause.NotLater = inl refl
  same_causes cause.SpanTooLong = inl refl
  same_causes cause.GapTooLong = inl refl
  same_causes cause.TooFast = inl refl
  same_causes cause.NotBelowRange = inl refl
  same_causes cause.TotalFull = inr (refl, fuller)

  judged_alike : is_held_for cause.TotalFull (Some (judged range last reading (find (by many) causes))) ≡ false
      → judged range last reading (find (by many) causes) ≡ judged range last reading (find (by few) causes)
  judged_alike less =
      ap (judged range last reading) (find_less (by many) (by few) same_causes causes
      (λ full. absurd (let e : true ≡ false = subst (λ (o : Option Cause). is_held_for cause.TotalFull (Some (judged range last reading o)) ≡ false) full less in cc)))

module _ (before : Installation) (many : ℕ) (le : before.total ≤ many) where
  abbrev fuller_by : Installation
  fuller_by = record before { total = many }

  between : (e : Entry) → is_held_for cause.TotalFull (verdict_between fuller_by e) ≡ false → verdict_between fuller_by e ≡ verdict_between before e
  between (entry.Step at raw rolls) less =
      ap (λ v. Some v) (judged_alike before.opening.range before.opening.ceiling before.total many before.last (record { at = at; raw = raw; sf = before.last.sf }) le less)
  between (entry.Change at set_before after sf) less = refl

  following : (next : Option EntryRow) → is_held_for cause.TotalFull (option_and_then (λ (n : EntryRow). verdict_between fuller_by n.entry) next) ≡ false
      → option_and_then (λ (n : EntryRow). verdict_between fuller_by n.entry) next ≡ option_and_then (λ (n : EntryRow). verdict_between before n.entry) next
  following None less = refl
  following (Some next) less = between next.entry less

-- If two lookups of a meter entry give the same result, then a void (cancellation) of the entry is
-- judged equally by both results.
pub judged_itself : (own found : Option EntryContext) → found ≡ own → IsJudgedAs own found
judged_itself own found is = record { there = ap is_some is; voidable = ap is_not_voidable is; verdict = ap verdict_at is }

by_whole : (own found : Option EntryContext) (many : ℕ) → found ≡ option_map (with_energy many) own → ((p : EntryContext) → own ≡ Some p → p.before.total ≤ many) → is_full found ≡ false → IsJudgedAs own found
by_whole None found many is le less = judged_itself None found is
by_whole (Some p) found many is le less =
    let short : is_full (Some (with_energy many p)) ≡ false = subst (λ (f : Option EntryContext). is_full f ≡ false) is less in
    subst (IsJudgedAs (Some p)) (sym is) (record { there = refl; voidable = refl; verdict = following p.before many (le p refl) p.next short })

by_opening : (facts : List Fact) (place : ℕ) (opening : Option Opening) (found : Option EntryContext) → let own : Option EntryContext = option_and_then (λ o. option_map (place_in facts o) (row_at place (rows_of facts o))) opening in
    found ≡ option_and_then (λ (whole : Installation). option_map (with_energy whole.total) own) (option_map (installation_of facts) opening)
    → ((whole : Installation) (p : EntryContext) → option_map (installation_of facts) opening ≡ Some whole → own ≡ Some p → p.before.total ≤ whole.total)
    → is_full found ≡ false → IsJudgedAs own found
by_opening facts place None found is le less = judged_itself None found is
by_opening facts place (Some o) found is le less =
    by_whole (option_map (place_in facts o) (row_at place (rows_of facts o))) found (installation_of facts o).total is (λ p at. le (installation_of facts o) p refl at) less

-- A void (cancellation) of an entry has the same result if it is judged from the entry and its
-- neighbors or from all rows of the meter. The exception is a present total energy that would
-- exceed its limit.
pub judged_near : (facts : List Fact) (meter : List ℕ) (place : ℕ) (found : Option EntryContext) → ReportsNear facts meter place found → is_full found ≡ false → IsJudgedAs (entry_at facts meter place) found
judged_near facts meter place found reported less = by_opening facts place (opening_of facts meter) found reported.near reported.within less
