-- Proofs that the list of a meter's entries from a given index, which is built from table rows, has
-- the entries of the store's records.
use Rattle.std.proofs.Common.{◌≡◌, ℕ, List, [], reverse, Option, Some, None, option_map, refl, sym, ap, ap₂, subst, ◌∙◌}
use Rattle.std.proofs.lemmas.Option.{same_Some}
use Rattle.meter_journal.specs.declared.lines.EntryRow.{EntryRow}
use Rattle.meter_journal.specs.Lists.{latest_first}
use Rattle.office_events.specs.declared.facts.Opening.{Opening}
use Rattle.office_events.specs.declared.facts.Fact.{Fact}
use Rattle.office_events.specs.declared.questions.Installation.{Installation}
use Rattle.office_books.specs.Facts.{opening_of}
use Rattle.office_books.specs.Meters.{rows_of, installation_of, meter_of}
use Rattle.office_books.specs.declared.entries.MeterEntry.{MeterEntry}
use Rattle.office_books.specs.Entries.{entries_at, entries_from, first_from, listed_rows}
use Rattle.office_books.proofs.Listing.{none_listed}
use Rattle.office_store.specs.Metering.Entries.{FindsJournal}

-- If a meter was never installed, the list of its entries is empty.
none_of : (facts : List Fact) (from most : ℕ) (opening : Option Opening) → None ≡ option_map (installation_of facts) opening → [] ≡ first_from from most (entries_at facts opening)
none_of facts from most None is = sym (none_listed from most)
none_of facts from most (Some o) is = absurd (let e = is in cc)

pub no_entries : (facts : List Fact) (meter : List ℕ) (from most : ℕ) → None ≡ meter_of facts meter → [] ≡ entries_from facts meter from most
no_entries facts meter from most is = none_of facts from most (opening_of facts meter) is

by_opening : (facts : List Fact) (from most : ℕ) (whole : Installation) (rows : List EntryRow) (opening : Option Opening) → Some whole ≡ option_map (installation_of facts) opening
    → ((o : Opening) → opening ≡ Some o → latest_first rows ≡ rows_of facts o)
    → first_from from most (reverse (listed_rows whole.opening (latest_first rows))) ≡ first_from from most (entries_at facts opening)
by_opening facts from most whole rows None is journal = absurd (let e = is in cc)
by_opening facts from most whole rows (Some o) is journal =
    let whole_is : whole ≡ installation_of facts o = same_Some _ _ is in
    ap₂ (λ (p : Opening) (rs : List EntryRow). first_from from most (reverse (listed_rows p rs))) (ap (λ (w : Installation). w.opening) whole_is) (journal o refl)

pub listed_is : (facts : List Fact) (meter text : List ℕ) (from most : ℕ) (x : Option Installation) (whole : Installation) (rows reported : List EntryRow) (v : List MeterEntry) → x ≡ Some whole → x ≡ meter_of facts meter → text ≡ meter
    → reported ≡ rows → FindsJournal text facts rows → v ≡ first_from from most (reverse (listed_rows whole.opening (latest_first reported))) → v ≡ entries_from facts meter from most
listed_is facts meter text from most x whole rows reported v is found named same_rows journal listed =
    listed ∙ by_opening facts from most whole reported (opening_of facts meter) (sym is ∙ found)
    (λ o there. ap latest_first same_rows ∙ subst (λ (t : List ℕ). FindsJournal t facts rows) named journal o there)
