use Rattle.std.proofs.Common.{◌≡◌, ◌∙◌, List, Some, Bool, false, take, refl, sym, ap, subst, IsTrue}
use Rattle.std.specs.Option.{option_map}
use Rattle.energy_core.specs.declared.entries.Entry.{Entry}
use Rattle.meter_journal.specs.declared.lines.EntryRow.{EntryRow}
use Rattle.meter_journal.specs.Books.{HasAccount}
use Rattle.meter_journal.specs.Journal.{Around, entries_in, row_at}
use Rattle.meter_journal.specs.Lists as lists
use Rattle.office_events.specs.declared.facts.Opening.{Opening}
use Rattle.office_events.specs.declared.questions.Installation.{Installation}
use Rattle.office_books.specs.Meters.{opened, installed, journal_of, rows_of, standing, is_ended, place_in}
use Rattle.office_books.specs.Sound.{HasNumbers}
use Rattle.memory_books.proofs.TablesLemmas.Known.{known}
use Rattle.memory_books.proofs.TablesLemmas.Passing.{rows_numbered}
use Rattle.memory_books.proofs.tables.meter.Meter.placed.Goals as goal

pub returns-then-not-are_numbered-clause-found : goal.returns-then-not-are_numbered-clause-found
returns-then-not-are_numbered-clause-found c = λ facts o lawful there said.
    let is : lists.latest_first c.deref.result.now ≡ rows_of facts o = ap lists.latest_first c.deref.ensures.value ∙ said.rows in
    let numbered : lists.AreNumbered (lists.latest_first c.deref.result.now) =
    subst lists.AreNumbered (sym is) (rows_numbered (opened o) (journal_of facts o.meter)) in
    absurd (let bad : IsTrue false = c.if-not-are_numbered.ensures.if_so numbered in cc)

pub returns-in_default-installation_after-clause-found : goal.returns-in_default-installation_after-clause-found
returns-in_default-installation_after-clause-found c = λ facts o lawful there said.
    let all = known c.journals_fit.ensures c.journals_are_kept.ensures c.installations_are_in_range.ensures facts o lawful there in
    let opening_is : c.args.self.now.row.opening ≡ o = ap (λ (row : Installation). row.opening) said.row in
    let items : c.deref-2.result.now ≡ c.args.self.now.rows.items = c.deref-2.ensures.value in
    let is : lists.latest_first c.deref-2.result.now ≡ rows_of facts o = ap lists.latest_first items ∙ said.rows in
    let around : Around = record { before = lists.latest_first (take c.in-Some.found.index c.deref-2.result.now); row = c.in-Some.found.row; next = c.in-Some.found.next } in
    let at : row_at c.args.place (rows_of facts o) ≡ Some around = ap (row_at c.args.place) (sym is) ∙ c.in-Some.ensures.found in
    let kept = c.places_were_kept.ensures (installed o) (journal_of facts o.meter) c.args.place around all.well all.fits at in
    let before : c.first.result.now ≡ take c.in-Some.found.index c.deref-2.result.now =
    c.first.ensures ∙ ap (take c.in-Some.found.index) (c.deref-3.ensures.value ∙ sym items) in
    let es : List Entry = entries_in (lists.latest_first c.first.result.now) in
    let account : HasAccount (installed o) es =
    subst (λ (rs : List EntryRow). HasAccount (installed o) (entries_in (lists.latest_first rs))) (sym before) kept.account in
    absurd (c.in_default-installation_after.ensures.none refl (subst HasNumbers (sym opening_is) all.numbers)
    (subst (λ (p : Opening). HasAccount (installed p) es) (sym opening_is) account))

pub returns-clause-found : goal.returns-clause-found
returns-clause-found c = λ facts o lawful there said.
    let all = known c.journals_fit.ensures c.journals_are_kept.ensures c.installations_are_in_range.ensures facts o lawful there in
    let opening_is : c.args.self.now.row.opening ≡ o = ap (λ (row : Installation). row.opening) said.row in
    let ended_is : c.args.self.now.row.ended ≡ is_ended facts o = ap (λ (row : Installation). row.ended) said.row in
    let items : c.deref-2.result.now ≡ c.args.self.now.rows.items = c.deref-2.ensures.value in
    let is : lists.latest_first c.deref-2.result.now ≡ rows_of facts o = ap lists.latest_first items ∙ said.rows in
    let around : Around = record { before = lists.latest_first (take c.in-Some.found.index c.deref-2.result.now); row = c.in-Some.found.row; next = c.in-Some.found.next } in
    let at : row_at c.args.place (rows_of facts o) ≡ Some around = ap (row_at c.args.place) (sym is) ∙ c.in-Some.ensures.found in
    let kept = c.places_were_kept.ensures (installed o) (journal_of facts o.meter) c.args.place around all.well all.fits at in
    let before : c.first.result.now ≡ take c.in-Some.found.index c.deref-2.result.now =
    c.first.ensures ∙ ap (take c.in-Some.found.index) (c.deref-3.ensures.value ∙ sym items) in
    let es : List Entry = entries_in (lists.latest_first c.first.result.now) in
    let account : HasAccount (installed o) es =
    subst (λ (rs : List EntryRow). HasAccount (installed o) (entries_in (lists.latest_first rs))) (sym before) kept.account in
    let stood : Some c.in-Some-installation_after.before ≡ Some (standing o (entries_in around.before) (is_ended facts o)) =
    ap (λ (row : Installation). Some row) c.in-Some-installation_after.ensures.stands
    ∙ ap (λ (p : Opening). Some (standing p es c.args.self.now.row.ended)) opening_is
    ∙ ap (λ (rs : List EntryRow). Some (standing o (entries_in (lists.latest_first rs)) c.args.self.now.row.ended)) before
    ∙ ap (λ (b : Bool). Some (standing o (entries_in around.before) b)) ended_is in
    ap (option_map (λ (row : Installation). record { before = row; row = around.row; next = around.next })) stood
    ∙ sym (ap (option_map (place_in facts o)) at)
