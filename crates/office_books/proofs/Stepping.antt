-- Lemmas: an installation record gives its meter the first state, and an entry record advances the
-- state of its meter. Rejected readings and records of other meters leave a meter's state
-- unchanged.
use Rattle.std.proofs.Common.{◌≡◌, ℕ, true, false, cond, List, [], ◌∷◌, sym, ap, subst, ◌∙◌, inl, inr, Some, None}
use Rattle.std.specs.List.{cons_option}
use Rattle.std.proofs.lemmas.Bool.{cases_Bool, cond-true, cond-false}
use Rattle.std.proofs.lemmas.Option.{same_Some}
use Rattle.energy_core.specs.declared.entries.Entry.{Entry}
use Rattle.energy_core.proofs.Soundness.{accounts_begin}
use Rattle.meter_journal.specs.declared.lines.EntryKind.{EntryKind}
use Rattle.meter_journal.specs.Books as books
use Rattle.meter_journal.specs.Changes.{EntriesGoOn}
use Rattle.meter_journal.specs.Journal as journal
use Rattle.meter_journal.specs.Fitting as journals
use Rattle.office_events.specs.declared.facts.Opening.{Opening}
use Rattle.office_events.specs.declared.facts.Fact.{Fact}
use Rattle.office_events.specs.declared.facts.Fact.TheVariants as fact
use Rattle.office_events.specs.declared.questions.Installation.{Installation}
use Rattle.office_books.specs.Facts.{same, openings_in, opening_of}
use Rattle.office_books.specs.Lawful.{LineFits}
use Rattle.office_books.specs.Meters.{held_line, opened, installed, journal_of, standing}
use Rattle.office_books.specs.Steps.{Stays, OtherMetersStay, HoldsChangeNothing, OpeningsBegin, EntriesMoveOn}
use Rattle.office_books.proofs.Lookups.{same_text, same_itself, find_passes}
use Rattle.office_books.proofs.Journals.{nothing_before, IsInstalled, installed_fits, well}

-- The state of a meter, computed from its journal (history).
abbrev pub installation_by : Opening → journal.Journal → Installation
installation_by o lines = standing o (journal.entries_of (opened o) lines) (journal.is_ended lines)

-- If a record leaves the journal (history) of a meter unchanged, then the record leaves the meter's
-- state unchanged.
same_journal : (f : Fact) (facts : List Fact) (o : Opening) → journal_of (f ∷ facts) o.meter ≡ journal_of facts o.meter → Stays f facts o
same_journal f facts o is =
    record {
      installation = ap (installation_by o) is;
      rows = ap (journal.rows_of (opened o)) is;
      intervals = ap (books.interval_rows (installed o)) is;
    }

pub other_meters_stay : OtherMetersStay
other_meters_stay f facts o none = same_journal f facts o (ap (λ line. cons_option line (journal_of facts o.meter)) none)

pub holds_change_nothing : HoldsChangeNothing
holds_change_nothing held facts o =
    elim (cases_Bool (same held.meter o.meter)) [
      | inl e ↦
          let is : journal_of (fact.Hold held ∷ facts) o.meter ≡ held_line held ∷ journal_of facts o.meter =
          ap (λ b. cons_option (cond b (Some (held_line held)) None) (journal_of facts o.meter)) e in
          record {
            installation = ap (installation_by o) is;
            rows = ap (journal.rows_of (opened o)) is;
            intervals = ap (books.interval_rows (installed o)) is;
          }
      | inr e ↦ other_meters_stay (fact.Hold held) facts o (cond-false _ _ _ e)
    ]

pub openings_begin : OpeningsBegin
openings_begin o facts h =
    let none : journal_of facts o.meter ≡ [] = nothing_before facts o.meter h.1 h.0.0.new in
    let nothing : books.total_after (installed o) [] ≡ 0 = sym (accounts_begin o.range (opened o)).total_is in
    record {
      by_name = cond-true _ _ _ (same_itself o.meter);
      at_register = cond-true _ _ _ (same_itself o.register);
      installation = ap (installation_by o) none
          ∙ ap (λ n. let row : Installation = record { opening = o; last = opened o; total = n; ended = false } in row) nothing;
      rows = ap (journal.rows_of (opened o)) none;
      intervals = ap (books.interval_rows (installed o)) none;
    }

-- If a search by name finds an opening (installation record), then the installed meter has this
-- name.
pub named : (facts : List Fact) (m : List ℕ) (o : Opening) → opening_of facts m ≡ Some o → o.meter ≡ m
named facts m o there = same_text o.meter m (find_passes (λ (x : Opening). same x.meter m) (openings_in facts) o there)

-- Suppose that a line may be added to a meter's journal (history), and a search finds the meter by
-- name. Then the journal rules of this meter accept the line.
pub own_line : (facts : List Fact) (meter : List ℕ) (line : journal.Line) (o : Opening) → LineFits facts meter line → opening_of facts meter ≡ Some o
    → journals.Fits (installed o) (journal_of facts o.meter) line
own_line facts meter line o fits there =
    subst (λ (x : Opening). journals.Fits (installed x) (journal_of facts x.meter) line) (same_Some fits.opening o (sym fits.there ∙ there)) fits.fits

pub installed_so : (facts : List Fact) (meter : List ℕ) (o : Opening) → opening_of facts meter ≡ Some o → IsInstalled facts o
installed_so facts meter o there = ap (opening_of facts) (named facts meter o there) ∙ there

pub line_after : (facts : List Fact) (meter : List ℕ) (line : journal.Line) (o : Opening) → o.meter ≡ meter
    → cons_option (cond (same meter o.meter) (Some line) None) (journal_of facts o.meter) ≡ line ∷ journal_of facts o.meter
line_after facts meter line o is =
    let e : same meter o.meter ≡ true = ap (same meter) is ∙ same_itself meter in
    ap (λ b. cons_option (cond b (Some line) None) (journal_of facts o.meter)) e

-- The state of a meter after one more entry, with the total energy `n`.
abbrev with_total : Opening → EntryKind → Entry → journal.Journal → ℕ → Installation
with_total o k e lines n = record {
  opening = o;
  last = books.last_in (installed o) (journal.Entered k e ∷ lines);
  total = n;
  ended = journal.is_ended (journal.Entered k e ∷ lines);
}

pub entries_move_on : EntriesGoOn → EntriesMoveOn
entries_move_on law b facts o h there =
    let lines : journal.Journal = journal_of facts o.meter in
    let line : journal.Line = journal.Entered b.kind b.entry in
    let own = installed_so facts b.meter o there in
    let fits = own_line facts b.meter line o h.0.0 there in
    let on = law (installed o) lines b.kind b.entry (well facts o h.1 own) (fits, installed_fits facts o h.1 own) in
    let is : journal_of (fact.Entry b ∷ facts) o.meter ≡ line ∷ lines = line_after facts b.meter line o (named facts b.meter o there) in
    record {
      unended = fits.0;
      goes_on = on;
      installation = ap (installation_by o) is ∙ ap (with_total o b.kind b.entry lines) on.total;
      rows = ap (journal.rows_of (opened o)) is;
      joined = ap (books.interval_rows (installed o)) is ∙ on.joined;
      added = ap (books.interval_rows (installed o)) is ∙ on.added;
    }
