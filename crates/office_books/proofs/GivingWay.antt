-- Proves the theorem `VoidedEntriesGiveWay`: how a void, which cancels an entry, changes the state
-- of the entry's meter.
use Rattle.std.proofs.Common.{◌≡◌, ℕ, ◌+◌, if◌then◌else◌, ◌∷◌, sym, ap, ◌∙◌, Option}
use Rattle.std.specs.Option.{is_some, option_map, option_and_then}
use Rattle.energy_core.specs.declared.entries.Last.{Last}
use Rattle.meter_journal.specs.Books as books
use Rattle.meter_journal.specs.Journal as journal
use Rattle.meter_journal.specs.Fitting as journals
use Rattle.meter_journal.specs.Voids.{last_before, energy_in, steps_out, steps_put, rows_until, VoidsChangeTwoRows}
use Rattle.meter_journal.specs.Intervals.{with_each, without_each, all_shares}
use Rattle.office_events.specs.declared.facts.Opening.{Opening}
use Rattle.office_events.specs.declared.facts.Fact.TheVariants as fact
use Rattle.office_events.specs.declared.questions.Installation.{Installation}
use Rattle.office_books.specs.Intervals.{rows_of_opening}
use Rattle.office_books.specs.Meters.{opened, installed, journal_of, rows_of, installation_of, place_in}
use Rattle.office_books.specs.Voids.{VoidedEntriesGiveWay}
use Rattle.office_books.proofs.Journals.{installed_fits, well}
use Rattle.office_books.proofs.Stepping.{installation_by, named, own_line, installed_so, line_after}

-- The state of a meter with a given state of its counter and a given total energy. The meter's
-- journal (history) determines whether the meter is closed.
abbrev stood : Opening → journal.Journal → Last → ℕ → Installation
stood o lines last total = record { opening = o; last = last; total = total; ended = journal.is_ended lines }

pub voided_entries_give_way : VoidsChangeTwoRows → VoidedEntriesGiveWay
voided_entries_give_way law v facts o h there =
    let lines : journal.Journal = journal_of facts o.meter in
    let line : journal.Line = journal.Voided v.place in
    let own = installed_so facts v.meter o there in
    let fits : journals.VoidFits (installed o) (journal.rows_of (opened o) lines) v.place = own_line facts v.meter line o h.0.0 there in
    let a : journal.Around = fits.around in
    let changed = law (installed o) lines v.place a (well facts o h.1 own) (fits, installed_fits facts o h.1 own) fits.there in
    let is : journal_of (fact.Void v ∷ facts) o.meter ≡ line ∷ lines = line_after facts v.meter line o (named facts v.meter o there) in
    let last : Last = if is_some a.next then books.last_in (installed o) lines else last_before (opened o) a in
    let at : (installation_of (fact.Void v ∷ facts) o).last ≡ books.last_in (installed o) (line ∷ lines) =
    ap (λ (row : Installation). row.last) (ap (installation_by o) is) in
    record {
      around = a;
      found = ap (λ (x : Option Opening). option_and_then (λ (p : Opening). option_map (place_in facts p) (journal.row_at v.place (rows_of facts p))) x) there
          ∙ ap (option_map (place_in facts o)) fits.there;
      entry = changed;
      installation = ap (installation_by o) is
          ∙ ap (λ n. stood o lines (books.last_in (installed o) (line ∷ lines)) n) changed.steps.after
          ∙ ap (λ (l : Last). stood o lines l (changed.steps.staying + energy_in (steps_put (installed o) a))) changed.last;
      rows = ap (journal.rows_of (opened o)) is ∙ changed.rows;
      intervals = ap (books.interval_rows (installed o)) is ∙ changed.shares.intervals
          ∙ ap (λ (l : Last). rows_until o.at l.at
          (with_each (all_shares (steps_put (installed o) a)) (without_each (all_shares (steps_out (installed o) a)) (rows_of_opening facts o)))) (sym at);
    }
