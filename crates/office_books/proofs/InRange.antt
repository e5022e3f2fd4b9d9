-- Lemmas that the counter values, scale factors and energies of installed meters are in range, so
-- that the next entry can be judged without overflow.
use Rattle.std.proofs.Common.{◌≡◌, ℕ, ◌≤◌, List, [], ◌∷◌, refl, sym, subst, ◌∙◌, inl, inr, Option, Some, None}
use Rattle.std.specs.Option.{option_map, option_and_then}
use Rattle.std.proofs.lemmas.Bool.{cases_Bool, cond-true, cond-false}
use Rattle.std.proofs.lemmas.Option.{same_Some}
use Rattle.meter_journal.specs.Journal as journal
use Rattle.meter_journal.specs.Laws.{JournalsAreKept}
use Rattle.meter_journal.specs.Changes.{PlacesWereKept}
use Rattle.meter_journal.proofs.Keeping.{mapped_some}
use Rattle.office_events.specs.declared.facts.Opening.{Opening}
use Rattle.office_events.specs.declared.facts.Fact.{Fact}
use Rattle.office_events.specs.declared.facts.Fact.TheVariants as fact
use Rattle.office_events.specs.declared.questions.Installation.{Installation}
use Rattle.office_events.specs.declared.questions.EntryContext.{EntryContext}
use Rattle.office_books.specs.Facts.{opening_of, installed_at}
use Rattle.office_books.specs.Lawful.{OpeningFits, AreLawful}
use Rattle.office_books.specs.Meters.{installed, journal_of, rows_of, installation_of, meter_of, installation_at, if_open, open_at, place_in, entry_at}
use Rattle.office_books.specs.Ranges.{IsSound, InstallationsAreInRange}
use Rattle.office_books.proofs.Journals.{IsInstalled, by_opening, installed_fits, well, found}
use Rattle.office_books.proofs.FoundOpenings.{found_installed}
use Rattle.office_books.proofs.Stepping.{installed_so}

record HasTerms (o : Opening) : Type 0 where
  range : (65536 ≤ o.range) × (o.range ≤ 4294967296)
  ceiling : (1 ≤ o.ceiling) × (o.ceiling ≤ 1000000000)

terms : (facts : List Fact) (o : Opening) → AreLawful facts → IsInstalled facts o → HasTerms o
terms [] o h there = absurd (cc)
terms (fact.Device d ∷ facts) o h there = terms facts o h.1 there
terms (fact.List l ∷ facts) o h there = terms facts o h.1 there
terms (fact.Register r ∷ facts) o h there = terms facts o h.1 there
terms (fact.Opening p ∷ facts) o h there =
    by_opening facts p o there
    (λ is. let fits : OpeningFits facts p = h.0.0 in subst HasTerms is (record { range = fits.range; ceiling = fits.ceiling }))
    (λ before. terms facts o h.1 before)
terms (fact.Entry b ∷ facts) o h there = terms facts o h.1 there
terms (fact.Hold b ∷ facts) o h there = terms facts o h.1 there
terms (fact.Void v ∷ facts) o h there = terms facts o h.1 there
terms (fact.Poll p ∷ facts) o h there = terms facts o h.1 there
terms (fact.Outcome e ∷ facts) o h there = terms facts o h.1 there
terms (fact.Reply r ∷ facts) o h there = terms facts o h.1 there

in_range : JournalsAreKept → (facts : List Fact) (o : Opening) → AreLawful facts → IsInstalled facts o → IsSound (installation_of facts o)
in_range law facts o h there =
    let own = terms facts o h there in
    let kept = law (installed o) (journal_of facts o.meter) (well facts o h there) (installed_fits facts o h there) in
    record { range = own.range; ceiling = own.ceiling; raw = kept.sound.raw; scale = kept.sound.scale; total = kept.account.within }

place_in_range : PlacesWereKept → (facts : List Fact) (o : Opening) (place : ℕ) (a : journal.Around) → AreLawful facts → IsInstalled facts o
    → journal.row_at place (rows_of facts o) ≡ Some a → IsSound (place_in facts o a).before
place_in_range law facts o place a h there found =
    let own = terms facts o h there in
    let kept = law (installed o) (journal_of facts o.meter) place a (well facts o h there) (installed_fits facts o h there) found in
    record { range = own.range; ceiling = own.ceiling; raw = kept.sound.raw; scale = kept.sound.scale; total = kept.account.within }

-- If a search in two stages finds a result, then the first stage found an element, from which the
-- second stage found the result.
bound_some : {X Y : Type 0} (f : X → Option Y) (o : Option X) (y : Y) → option_and_then f o ≡ Some y → (x : X) × (o ≡ Some x) × (f x ≡ Some y)
bound_some f None y h = absurd (cc)
bound_some f (Some x) y h = (x, refl, h)

named_in_range : JournalsAreKept → (facts : List Fact) (m : List ℕ) (row : Installation) → AreLawful facts → meter_of facts m ≡ Some row → IsSound row
named_in_range law facts m row h there =
    let o = mapped_some (installation_of facts) (opening_of facts m) row there in
    subst IsSound o.2 (in_range law facts o.0 h (installed_so facts m o.0 o.1))

installed_in_range : JournalsAreKept → (facts : List Fact) (r : List ℕ) (row : Installation) → AreLawful facts → installation_at facts r ≡ Some row → IsSound row
installed_in_range law facts r row h there =
    let o = mapped_some (installation_of facts) (installed_at facts r) row there in
    subst IsSound o.2 (in_range law facts o.0 h (found_installed facts r o.0 h o.1))

open_is : (row other : Installation) → if_open other ≡ Some row → other ≡ row
open_is row other h =
    elim (cases_Bool other.ended) [
      | inl e ↦ absurd (let n : None ≡ Some row = sym (cond-true _ _ _ e) ∙ h in cc)
      | inr e ↦ same_Some other row (sym (cond-false _ _ _ e) ∙ h)
    ]

open_in_range : JournalsAreKept → (facts : List Fact) (r : List ℕ) (row : Installation) → AreLawful facts → open_at facts r ≡ Some row → IsSound row
open_in_range law facts r row h there =
    let other = bound_some if_open (installation_at facts r) row there in
    subst IsSound (open_is row other.0 other.2) (installed_in_range law facts r other.0 h other.1)

placed_in_range : PlacesWereKept → (facts : List Fact) (m : List ℕ) (place : ℕ) (p : EntryContext) → AreLawful facts → entry_at facts m place ≡ Some p → IsSound p.before
placed_in_range law facts m place p h there =
    let o = bound_some (λ (x : Opening). option_map (place_in facts x) (journal.row_at place (rows_of facts x))) (opening_of facts m) p there in
    let a = mapped_some (place_in facts o.0) (journal.row_at place (rows_of facts o.0)) p o.2 in
    subst (λ (x : EntryContext). IsSound x.before) a.2 (place_in_range law facts o.0 place a.0 h (installed_so facts m o.0 o.1) a.1)

pub installations_are_in_range : JournalsAreKept → PlacesWereKept → InstallationsAreInRange
installations_are_in_range kept places facts h =
    record {
      recorded = λ o there. in_range kept facts o h (found facts o h there);
      by_name = λ m row there. named_in_range kept facts m row h there;
      at_register = λ r row there. installed_in_range kept facts r row h there;
      unended = λ r row there. open_in_range kept facts r row h there;
      placed = λ m place p there. placed_in_range places facts m place p h there;
    }
