-- Lemmas that the energy of a meter before an entry is at most the meter's total energy.
use Rattle.std.proofs.Common.{◌≡◌, ℕ, ◌≤◌, ◌==◌, List, [], ◌∷◌, refl, sym, ap, subst, ◌∙◌, inl, inr, Option, Some, None, arith}
use Rattle.std.specs.Prelude.{sum_by}
use Rattle.std.specs.Option.{option_map, option_and_then}
use Rattle.std.proofs.lemmas.Bool.{cases_Bool, cond-true, cond-false}
use Rattle.std.proofs.lemmas.Option.{same_Some}
use Rattle.energy_core.specs.declared.entries.Last.{Last}
use Rattle.energy_core.specs.declared.entries.Step.{Step}
use Rattle.energy_core.specs.declared.entries.Entry.{Entry}
use Rattle.energy_core.specs.Account.{steps_of}
use Rattle.energy_core.proofs.Sums.{sum-step}
use Rattle.meter_journal.specs.declared.lines.EntryRow.{EntryRow}
use Rattle.meter_journal.specs.Journal.{Around, entries_in, passed, row_at}
use Rattle.meter_journal.specs.Laws.{JournalsAreKept}
use Rattle.meter_journal.specs.Changes.{PlacesWereKept}
use Rattle.meter_journal.proofs.Keeping.{entries_standing, entries_struck, mapped_some}
use Rattle.office_events.specs.declared.facts.Opening.{Opening}
use Rattle.office_events.specs.declared.facts.Fact.{Fact}
use Rattle.office_events.specs.declared.questions.Installation.{Installation}
use Rattle.office_events.specs.declared.questions.EntryContext.{EntryContext}
use Rattle.office_books.specs.Facts.{opening_of}
use Rattle.office_books.specs.Lawful.{AreLawful}
use Rattle.office_books.specs.Meters.{opened, installed, journal_of, rows_of, installation_of, meter_of, place_in, entry_at}
use Rattle.office_books.proofs.Journals.{IsInstalled, well, installed_fits}
use Rattle.office_books.proofs.Stepping.{installed_so}
use Rattle.office_books.specs.Near.{with_energy, IsWithinWhole, ReportsNear}

module _ (range : ℕ) (opening : Last) where
  abbrev energy : List Entry → ℕ
  energy es = sum_by (λ (s : Step). s.mwh) (steps_of range opening es)

  -- An entry row added to a meter never lowers the meter's energy.
  one_more : (row : EntryRow) (rows : List EntryRow) → energy (entries_in rows) ≤ energy (entries_in (row ∷ rows))
  one_more row rows = elim (cases_Bool row.stands) [
    | inl on ↦
        let more = sum-step range opening row.entry (entries_in rows) in
        subst (λ es. energy (entries_in rows) ≤ energy es) (sym (entries_standing row rows on)) (omega (arith, more))
    | inr off ↦ subst (λ es. energy (entries_in rows) ≤ energy es) (sym (entries_struck row rows off)) (omega arith)
  ]

  rest_of : (row : EntryRow) (o : Option Around) (around : Around) → option_map (passed row) o ≡ Some around → (rest : Around) × (o ≡ Some rest) × (around.before ≡ rest.before)
  rest_of row None around h = absurd (let e = h in cc)
  rest_of row (Some rest) around h = (rest, refl, ap (λ (a : Around). a.before) (sym (same_Some (passed row rest) around h)))

  less_before : (place : ℕ) (rows : List EntryRow) (around : Around) → row_at place rows ≡ Some around → energy (entries_in around.before) ≤ energy (entries_in rows)
  less_before place [] around h = absurd (let e = h in cc)
  less_before place (row ∷ rows) around h = elim (cases_Bool (row.place == place)) [
    | inl is ↦
        let this : record { before = rows; row = row; next = None } ≡ around = same_Some _ around (sym (cond-true _ _ _ is) ∙ h) in
        subst (λ (a : Around). energy (entries_in a.before) ≤ energy (entries_in (row ∷ rows))) this (one_more row rows)
    | inr off ↦
        let it = rest_of row (row_at place rows) around (sym (cond-false _ _ _ off) ∙ h) in
        let low = less_before place rows it.0 it.1 in
        let more = one_more row rows in
        subst (λ (rs : List EntryRow). energy (entries_in rs) ≤ energy (entries_in (row ∷ rows))) (sym it.2) (omega (arith, low, more))
  ]

module _ (kept : JournalsAreKept) (places : PlacesWereKept) (facts : List Fact) (lawful : AreLawful facts) where
  of_opening : (o : Opening) (place : ℕ) (around : Around) → IsInstalled facts o → row_at place (rows_of facts o) ≡ Some around → (place_in facts o around).before.total ≤ (installation_of facts o).total
  of_opening o place around there at =
      let begun = well facts o lawful there in
      let fits = installed_fits facts o lawful there in
      let whole = (kept (installed o) (journal_of facts o.meter) begun fits).sound.sum in
      let before = (places (installed o) (journal_of facts o.meter) place around begun fits at).sound.sum in
      let less = less_before o.range (opened o) place (rows_of facts o) around at in
      omega (arith, whole, before, less)

  by_opening : (meter : List ℕ) (place : ℕ) (opening : Option Opening) (whole : Installation) (p : EntryContext) → opening_of facts meter ≡ opening → option_map (installation_of facts) opening ≡ Some whole
      → option_and_then (λ o. option_map (place_in facts o) (row_at place (rows_of facts o))) opening ≡ Some p → p.before.total ≤ whole.total
  by_opening meter place None whole p named is at = absurd (let e = is in cc)
  by_opening meter place (Some o) whole p named is at =
      let around = mapped_some (place_in facts o) (row_at place (rows_of facts o)) p at in
      let less = of_opening o place around.0 (installed_so facts meter o named) around.1 in
      subst (λ (w : Installation). p.before.total ≤ w.total) (same_Some _ whole is) (subst (λ (q : EntryContext). q.before.total ≤ (installation_of facts o).total) around.2 less)

  -- The energy of a meter before any of its entries is at most the meter's total energy.
  pub within_whole : (meter : List ℕ) (place : ℕ) → IsWithinWhole facts meter place
  within_whole meter place = λ whole p is at. by_opening meter place (opening_of facts meter) whole p refl is at

-- If a meter is installed, a lookup of one of its entries has the guarantees `ReportsNear`. The
-- result has the meter's present total energy, which is at least the energy before the entry.
pub reports_near : (facts : List Fact) (meter : List ℕ) (place : ℕ) (whole : Installation) (found : Option EntryContext) → Some whole ≡ meter_of facts meter → found ≡ entry_at facts meter place
    → IsWithinWhole facts meter place → ReportsNear facts meter place (option_map (with_energy whole.total) found)
reports_near facts meter place whole found is at within = record {
  near = ap (option_map (with_energy whole.total)) at ∙ ap (option_and_then (λ (w : Installation). option_map (with_energy w.total) (entry_at facts meter place))) is;
  within = within;
}

-- A lookup of an entry finds nothing if its meter is not installed.
pub reports_none : (facts : List Fact) (meter : List ℕ) (place : ℕ) → None ≡ meter_of facts meter → IsWithinWhole facts meter place → ReportsNear facts meter place None
reports_none facts meter place is within = record {
  near = ap (option_and_then (λ (w : Installation). option_map (with_energy w.total) (entry_at facts meter place))) is;
  within = within;
}
