-- Proofs of properties of each kind of record, such as point lists and meter entries. The
-- properties follow if the records are lawful (the store's rules accepted each after the earlier
-- ones).
use Rattle.std.proofs.Common.{◌≡◌, ℕ, ◌+◌, ◌≤◌, ◌==◌, ◌&&◌, ◌||◌, Bool, true, false, cond, List, [], ◌∷◌, length, refl, ap, ◌∙◌, Option, Some, None, arith}
use Rattle.std.specs.List.{AllByRecursion, find, list_any, cons_option}
use Rattle.std.proofs.lemmas.List.Elements.{recursion_from_All}
use Rattle.sqlite_keyed.proofs.ListLemmas.{all_weaker}
use Rattle.meter_journal.specs.declared.lines.EntryKind.{EntryKind}
use Rattle.energy_core.specs.declared.entries.Entry.{Entry}
use Rattle.meter_journal.specs.Journal as journal
use Rattle.meter_journal.specs.Lists.{AreNumbered}
use Rattle.meter_journal.specs.Laws.{RowsStand}
use Rattle.meter_journal.specs.Standing.{is_voided}
use Rattle.read_plan.specs.PlannedLists.{IsPlanned}
use Rattle.office_events.specs.declared.facts.DeviceList.{DeviceList}
use Rattle.office_events.specs.declared.facts.Opening.{Opening}
use Rattle.office_events.specs.declared.facts.Poll.{Poll}
use Rattle.office_events.specs.declared.facts.VoidedEntry.{VoidedEntry}
use Rattle.office_events.specs.declared.facts.Fact.{Fact}
use Rattle.office_events.specs.declared.facts.Fact.TheVariants as fact
use Rattle.office_books.specs.Facts.{same, lists_in, openings_in, opening_of, polls_in, voids_in}
use Rattle.office_books.specs.Lawful.{AreLawful}
use Rattle.office_books.specs.Meters.{held_line, installed, journal_of, rows_of}
use Rattle.office_books.proofs.Lookups.{each_found}
use Rattle.office_books.proofs.FoundOpenings.{openings_apart}
use Rattle.office_books.proofs.Journals.{installed_fits, well}
use Rattle.office_store.proofs.LawsLemmas.Lists.{InOrder, found_has}
use Rattle.office_store.proofs.LawsLemmas.Placed.{Falls}
use Rattle.office_store.proofs.LawsLemmas.Journals.{IsFormed, StandsBy, rows_are_formed, rows_stand_by}
use Rattle.office_store.proofs.LawsLemmas.Points.{IsPut}

-- Lemmas that every point list in lawful records (each accepted by the store's rules after the
-- earlier ones) obeys the rules of point lists.

all_planned : (facts : List Fact) → AreLawful facts → AllByRecursion (λ put. IsPlanned put.list) (lists_in facts)
all_planned [] h = tt
all_planned (fact.Device d ∷ facts) h = all_planned facts h.1
all_planned (fact.List l ∷ facts) h = (h.0.0.planned, all_planned facts h.1)
all_planned (fact.Register r ∷ facts) h = all_planned facts h.1
all_planned (fact.Opening o ∷ facts) h = all_planned facts h.1
all_planned (fact.Entry b ∷ facts) h = all_planned facts h.1
all_planned (fact.Hold b ∷ facts) h = all_planned facts h.1
all_planned (fact.Void v ∷ facts) h = all_planned facts h.1
all_planned (fact.Poll p ∷ facts) h = all_planned facts h.1
all_planned (fact.Outcome e ∷ facts) h = all_planned facts h.1
all_planned (fact.Reply r ∷ facts) h = all_planned facts h.1

write_planned : (p : DeviceList → Bool) (lists : List DeviceList) (found : Option DeviceList) → AllByRecursion (λ put. IsPlanned put.list) lists
    → find p lists ≡ found → IsPut found
write_planned p lists None h is = tt
write_planned p lists (Some put) h is = found_has (λ (x : DeviceList). IsPlanned x.list) p lists put h is

pub last_put : (facts : List Fact) (device : List ℕ) → AreLawful facts → IsPut (find (λ put. same put.device device) (lists_in facts))
last_put facts device h = write_planned (λ put. same put.device device) (lists_in facts) _ (all_planned facts h) refl

Counted : List Poll → Type 0
Counted [] = Unit {0}
Counted (p ∷ ps) = (p.number ≡ length ps + 1) × Counted ps

polls_counted : (facts : List Fact) → AreLawful facts → Counted (polls_in facts)
unfolding Counted
polls_counted [] h = tt
polls_counted (fact.Device d ∷ facts) h = polls_counted facts h.1
polls_counted (fact.List l ∷ facts) h = polls_counted facts h.1
polls_counted (fact.Register r ∷ facts) h = polls_counted facts h.1
polls_counted (fact.Opening o ∷ facts) h = polls_counted facts h.1
polls_counted (fact.Entry b ∷ facts) h = polls_counted facts h.1
polls_counted (fact.Hold b ∷ facts) h = polls_counted facts h.1
polls_counted (fact.Void v ∷ facts) h = polls_counted facts h.1
polls_counted (fact.Poll p ∷ facts) h = (h.0.0.number, polls_counted facts h.1)
polls_counted (fact.Outcome e ∷ facts) h = polls_counted facts h.1
polls_counted (fact.Reply r ∷ facts) h = polls_counted facts h.1

abbrev pub number_of : Poll → ℕ
number_of p = p.number

few : (n : ℕ) (ps : List Poll) → Counted ps → length ps ≤ n → AllByRecursion (λ p. number_of p ≤ n) ps
unfolding Counted
few n [] h le = tt
few n (p ∷ ps) h le = (let is = h.0 in omega (arith, is), few n ps h.1 (omega arith))

counted_fall : (ps : List Poll) → Counted ps → InOrder (Falls number_of) ps
unfolding Counted
counted_fall [] h = tt
counted_fall (p ∷ ps) h = (
  let is = h.0 in all_weaker (λ q. number_of q ≤ length ps) (Falls number_of p) (λ q le. omega (arith, is)) ps (few (length ps) ps h.1 (omega arith)),
  counted_fall ps h.1,
)

pub polls_fall : (facts : List Fact) → AreLawful facts → InOrder (Falls number_of) (polls_in facts)
polls_fall facts h = counted_fall (polls_in facts) (polls_counted facts h)

-- Lemmas on lawful records (each accepted by the store's rules after the earlier ones). Each meter
-- was installed once. Its entries are numbered, fit their kinds, and are marked as voided exactly
-- if they were voided.

abbrev pub IsInstalled : List Fact → Opening → Type 0
IsInstalled facts o = opening_of facts o.meter ≡ Some o

pub all_installed : (facts : List Fact) → AreLawful facts → AllByRecursion (IsInstalled facts) (openings_in facts)
all_installed facts h =
    recursion_from_All (IsInstalled facts) (openings_in facts) (each_found (λ (o : Opening). o.meter) (openings_in facts) (openings_apart facts h))

-- The properties of each meter's entries in lawful records (each accepted by the store's rules
-- after the earlier ones). The entries' rows are numbered, fit their kinds of entry, and are marked
-- as voided exactly if they were voided.
pub record HasRows (facts : List Fact) (o : Opening) : Type 0 where
  pub numbered : AreNumbered (rows_of facts o)
  pub formed : AllByRecursion IsFormed (rows_of facts o)
  pub stand : AllByRecursion (StandsBy (journal_of facts o.meter)) (rows_of facts o)

pub has_rows : RowsStand → (facts : List Fact) (o : Opening) → AreLawful facts → IsInstalled facts o → HasRows facts o
has_rows law facts o h there =
    let fits = installed_fits facts o h there in
    record {
      numbered = (law (installed o) (journal_of facts o.meter) (well facts o h there) fits).places;
      formed = rows_are_formed (installed o) (journal_of facts o.meter) fits;
      stand = rows_stand_by (installed o) (journal_of facts o.meter) fits;
    }

-- True if the given record voids (cancels) the entry of the meter `meter` at index `place`.
abbrev pub names : (meter : List ℕ) → (place : ℕ) → VoidedEntry → Bool
names meter place v = same v.meter meter && (place == v.place)

named_line : (b : Bool) (place named : ℕ) (lines : journal.Journal)
    → is_voided place (cons_option (cond b (Some (journal.Voided named)) None) lines) ≡ ((b && (place == named)) || is_voided place lines)
named_line true place named lines = refl
named_line false place named lines = refl

entered_line : (b : Bool) (place : ℕ) (k : EntryKind) (e : Entry) (lines : journal.Journal)
    → is_voided place (cons_option (cond b (Some (journal.Entered k e)) None) lines) ≡ is_voided place lines
entered_line true place k e lines = refl
entered_line false place k e lines = refl

held_no_line : (b : Bool) (place : ℕ) (line : journal.Line) (lines : journal.Journal) → is_voided place (line ∷ lines) ≡ is_voided place lines
    → is_voided place (cons_option (cond b (Some line) None) lines) ≡ is_voided place lines
held_no_line true place line lines h = h
held_no_line false place line lines h = refl

-- A meter's history marks an entry as voided if and only if the store's records void (cancel) this
-- entry.
pub voids_named : (facts : List Fact) (meter : List ℕ) (place : ℕ) → is_voided place (journal_of facts meter) ≡ list_any (names meter place) (voids_in facts)
voids_named [] meter place = refl
voids_named (fact.Device d ∷ facts) meter place = voids_named facts meter place
voids_named (fact.List l ∷ facts) meter place = voids_named facts meter place
voids_named (fact.Register r ∷ facts) meter place = voids_named facts meter place
voids_named (fact.Opening o ∷ facts) meter place = voids_named facts meter place
voids_named (fact.Entry b ∷ facts) meter place =
    entered_line (same b.meter meter) place b.kind b.entry (journal_of facts meter) ∙ voids_named facts meter place
voids_named (fact.Hold b ∷ facts) meter place =
    held_no_line (same b.meter meter) place (held_line b) (journal_of facts meter) refl ∙ voids_named facts meter place
voids_named (fact.Void v ∷ facts) meter place =
    named_line (same v.meter meter) place v.place (journal_of facts meter) ∙ ap (λ b. names meter place v || b) (voids_named facts meter place)
voids_named (fact.Poll p ∷ facts) meter place = voids_named facts meter place
voids_named (fact.Outcome e ∷ facts) meter place = voids_named facts meter place
voids_named (fact.Reply r ∷ facts) meter place = voids_named facts meter place
