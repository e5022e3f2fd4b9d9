-- Lemmas: after one more record is added to a store, the updated table of meters has the content
-- that follows from the store's records.
use Rattle.std.proofs.Common.{◌≡◌, ℕ, ◌+◌, ◌≤◌, ◌<◌, Bool, true, false, cond, ◌&&◌, List, [], ◌∷◌, reverse, length, Option, Some, None, Result, Ok, refl, sym, ap, subst, ◌∙◌}
use Rattle.std.specs.Option.{option_map}
use Rattle.std.specs.Ordering.{is_eq}
use Rattle.std.specs.BTreeMap.{get, get_by, UpdatesBy}
use Rattle.std.proofs.lemmas.Bool.{cond-false}
use Rattle.std.proofs.lemmas.List.{reverse-append}
use Rattle.energy_core.specs.declared.entries.Last.{Last}
use Rattle.energy_core.specs.declared.entries.Step.{Step}
use Rattle.energy_core.specs.declared.admission.TermFault.{TermFault}
use Rattle.energy_core.specs.Account.{after, step_to}
use Rattle.meter_journal.specs.declared.lines.EntryRow.{EntryRow}
use Rattle.meter_journal.specs.Books.{HasAccount}
use Rattle.meter_journal.specs.Fitting.{VoidFits}
use Rattle.meter_journal.specs.Journal as journal
use Rattle.meter_journal.specs.Laws.{JournalsAreKept}
use Rattle.meter_journal.specs.Lists as lists
use Rattle.office_events.specs.declared.facts.Opening.{Opening}
use Rattle.office_events.specs.declared.facts.BookedEntry.{BookedEntry}
use Rattle.office_events.specs.declared.facts.HeldReading.{HeldReading}
use Rattle.office_events.specs.declared.facts.VoidedEntry.{VoidedEntry}
use Rattle.office_events.specs.declared.facts.Fact.{Fact}
use Rattle.office_events.specs.declared.facts.Fact.TheVariants as fact
use Rattle.office_events.specs.declared.questions.Installation.{Installation}
use Rattle.office_books.specs.Ranges.{IsSound, InstallationsAreInRange}
use Rattle.office_books.specs.Facts.{same, openings_in, opening_of}
use Rattle.office_books.specs.Lawful.{AreLawful, LineFits}
use Rattle.office_books.specs.Meters.{line_of, opened, installed, journal_of, rows_of, is_ended, standing, installation_of}
use Rattle.office_books.specs.Laws.{IsRecorded, JournalsFit}
use Rattle.office_books.specs.Steps.{Stays, OtherMetersStay, HoldsChangeNothing, OpeningsBegin, EntriesMoveOn, moved_by}
use Rattle.office_books.proofs.Journals.{by_name, none_and_some}
use Rattle.office_books.proofs.Stepping.{named as named_so, own_line, line_after}
use Rattle.memory_books.specs.declared.tables.keys.Key.{Key}
use Rattle.memory_books.specs.declared.tables.meter.Meter.{Meter}
use Rattle.memory_books.specs.declared.tables.meters.Meters.{Meters}
use Rattle.office_books.specs.Sound.{HasNumbers}
use Rattle.memory_books.specs.Tables.Keys.{key_cmp, named}
use Rattle.memory_books.specs.Tables.Meters.{meter_at, Stands, IsMeter, AreMeters, Changes, Begins, IfThere}
use Rattle.office_books.specs.Sound.{MayEnter}
use Rattle.memory_books.specs.Tables.Moving.{HasBegun, HasEntered, IsSame, HasStruck}
use Rattle.memory_books.proofs.TablesLemmas.Known.{known, found_is_there}
use Rattle.memory_books.proofs.TablesLemmas.Passing.{rows_numbered, row_inside}
use Rattle.memory_books.proofs.TablesLemmas.SameKeys.{is_eq-key_cmp}

-- If a lookup key (a name and a number, which is 0 here) is made from one meter's name, it differs
-- from the keys of all meters with other names.
other_key : (meter name : List ℕ) (key : Key) → key ≡ named meter → same meter name ≡ false → is_eq (key_cmp key (named name)) ≡ false
other_key meter name key is apart =
    ap (λ (k : Key). is_eq (key_cmp k (named name))) is ∙ is_eq-key_cmp (named meter) (named name) ∙ ap (λ (b : Bool). b && true) apart

at_key : (meters : Meters) (meter : List ℕ) (key : Key) → key ≡ named meter → meter_at meters meter ≡ get_by (key_cmp key) meters.meters
at_key meters meter key is = ap (λ (k : Key). get key_cmp meters.meters k) (sym is)

pub changed : (became : Meter → Meter → Type 0) (old new : Meters) (meter : List ℕ) (key : Key) (m n : Meter) → key ≡ named meter
    → get_by (key_cmp key) old.meters ≡ Some m → UpdatesBy key_cmp (key_cmp key) old.meters new.meters (Some n) → became m n
    → Changes meter (IfThere became) old new
changed became old new meter key m n is there updates so = record {
  own = subst (λ (o : Option Meter). IfThere became o (meter_at new meter)) (sym (at_key old meter key is ∙ there))
      (n, at_key new meter key is ∙ updates.1, so);
  others = λ name apart. updates.2 (named name) (other_key meter name key is apart);
}

pub absent : (became : Meter → Meter → Type 0) (old new : Meters) (meter : List ℕ) (key : Key) → key ≡ named meter
    → None ≡ get_by (key_cmp key) old.meters → ((k : Key) → get key_cmp new.meters k ≡ get key_cmp old.meters k) → Changes meter (IfThere became) old new
absent became old new meter key is none same_map =
    let gone : meter_at old meter ≡ None = at_key old meter key is ∙ sym none in
    record {
      own = subst (λ (o : Option Meter). IfThere became o (meter_at new meter)) (sym gone) (same_map (named meter) ∙ gone);
      others = λ name apart. same_map (named name);
    }

itself : (meter : Option Meter) → IfThere IsSame meter meter
itself None = refl
itself (Some m) = (m, refl, record { row = refl; rows = refl })

pub unchanged : (old new : Meters) (meter : List ℕ) → ((k : Key) → get key_cmp new.meters k ≡ get key_cmp old.meters k) → Changes meter (IfThere IsSame) old new
unchanged old new meter same_map = record {
  own = subst (λ (o : Option Meter). IfThere IsSame (meter_at old meter) o) (sym (same_map (named meter))) (itself (meter_at old meter));
  others = λ name apart. same_map (named name);
}

pub begun : (old new : Meters) (opening : Opening) (key : Key) (n : Meter) → key ≡ named opening.meter
    → UpdatesBy key_cmp (key_cmp key) old.meters new.meters (Some n) → HasBegun opening n → Changes opening.meter (Begins opening) old new
begun old new opening key n is updates so = record {
  own = (n, at_key new opening.meter key is ∙ updates.1, so);
  others = λ name apart. updates.2 (named name) (other_key opening.meter name key is apart);
}

-- If a new record changes neither the state nor the entries of a meter, the meter's row in the
-- store's table of meters is unchanged. The row still has the content that follows from the
-- records.
stays_so : (f : Fact) (facts : List Fact) (meter : Option Meter) (found : Option Opening) → ((o : Opening) → found ≡ Some o → Stays f facts o)
    → IsMeter facts meter found → IsMeter (f ∷ facts) meter found
stays_so f facts None found law is = is
stays_so f facts (Some m) found law is =
    let s = law is.opening is.there in
    record { opening = is.opening; there = is.there; row = is.row ∙ sym s.installation; rows = is.rows ∙ sym s.rows }

-- After a rejected reading is recorded, the unchanged table of meters still has the content that
-- follows from the records.
pub hold_comes : HoldsChangeNothing → (b : HeldReading) (facts : List Fact) (meters : Meters) → AreMeters meters facts → AreMeters meters (fact.Hold b ∷ facts)
hold_comes law b facts meters are name =
    stays_so (fact.Hold b) facts (meter_at meters name) (opening_of facts name) (λ o there. law b facts o) (are name)

-- Suppose that a meter's row in the table of meters of a store in memory has the content that
-- follows from the store's records. If an update leaves the row's state and entries unchanged, the
-- row still has this content.
same_one : (facts : List Fact) (found : Option Opening) (before after : Option Meter) → IfThere IsSame before after → IsMeter facts before found → IsMeter facts after found
same_one facts found None after gone is = subst (λ (m : Option Meter). IsMeter facts m found) (sym gone) is
same_one facts found (Some m) after (n, there, so) is =
    subst (λ (x : Option Meter). IsMeter facts x found) (sym there)
    (record { opening = is.opening; there = is.there; row = so.row ∙ is.row; rows = ap reverse so.rows ∙ is.rows })

pub same_meters : (facts : List Fact) (old new : Meters) (meter : List ℕ) → Changes meter (IfThere IsSame) old new → AreMeters old facts → AreMeters new facts
same_meters facts old new meter changes are name =
    by_name meter name
    (λ e is. subst (λ (nm : List ℕ). IsMeter facts (meter_at new nm) (opening_of facts nm)) is
    (same_one facts (opening_of facts meter) (meter_at old meter) (meter_at new meter) changes.own (are meter)))
    (λ apart. subst (λ (m : Option Meter). IsMeter facts m (opening_of facts name)) (sym (changes.others name apart)) (are name))

-- Suppose that a new record concerns one meter, that only this meter's row in the in-memory table
-- of meters changes, and that the new row follows from the records. Then the table has the content
-- that follows from the records.
line_comes : OtherMetersStay → (f : Fact) (facts : List Fact) (old new : Meters) (meter : List ℕ) (became : Option Meter → Option Meter → Type 0)
    → ((name : List ℕ) → opening_of (f ∷ facts) name ≡ opening_of facts name) → ((name : List ℕ) → same meter name ≡ false → line_of name f ≡ None)
    → Changes meter became old new → IsMeter (f ∷ facts) (meter_at new meter) (opening_of facts meter) → AreMeters old facts → AreMeters new (f ∷ facts)
line_comes law f facts old new meter became openings none changes own are name =
    subst (IsMeter (f ∷ facts) (meter_at new name)) (sym (openings name))
    (by_name meter name
    (λ e is. subst (λ (nm : List ℕ). IsMeter (f ∷ facts) (meter_at new nm) (opening_of facts nm)) is own)
    (λ apart. subst (λ (m : Option Meter). IsMeter (f ∷ facts) m (opening_of facts name)) (sym (changes.others name apart))
    (stays_so f facts (meter_at old name) (opening_of facts name)
    (λ o there. law f facts o (none o.meter (ap (same meter) (named_so facts name o there) ∙ apart))) (are name))))

no_line : (line : journal.Line) (b : Bool) → b ≡ false → let o : Option journal.Line = cond b (Some line) None in o ≡ None
no_line line b is = cond-false _ _ _ is

-- Helper lemmas: after an entry of a meter is recorded and added to the table of meters, the
-- meter's row has the content that follows from the records.
pub sound_so : (row : Installation) → IsSound row → IsSound row
sound_so row h = record { range = h.range; ceiling = h.ceiling; raw = h.raw; scale = h.scale; total = h.total }

booked_so : Last → Step → Result (Last × Step) TermFault
booked_so last step = Ok (last, step)

entered_one : EntriesMoveOn → InstallationsAreInRange → (facts : List Fact) (b : BookedEntry) → AreLawful (fact.Entry b ∷ facts) → (before after : Option Meter)
    → IfThere (HasEntered b) before after → IsMeter facts before (opening_of facts b.meter) → IsMeter (fact.Entry b ∷ facts) after (opening_of facts b.meter)
unfolding booked_so
entered_one law ranges facts b lawful None after gone is =
    let fits : LineFits facts b.meter (journal.Entered b.kind b.entry) = lawful.0.0 in
    none_and_some (opening_of facts b.meter) fits.opening is fits.there
entered_one law ranges facts b lawful (Some m) after (n, there, has) is =
    let o : Opening = is.opening in
    let row : Installation = installation_of facts o in
    let moves = law b facts o lawful is.there in
    let sound : IsSound m.row =
    subst IsSound (sym is.row) (sound_so row ((ranges facts lawful.1).by_name b.meter row (ap (option_map (installation_of facts)) is.there))) in
    let may : MayEnter m.row b.entry =
    subst (λ (r : Installation). MayEnter r b.entry) (sym is.row)
    (moves.goes_on.booked ∙ ap (λ (l : Last). booked_so l (step_to o.range row.last b.entry)) moves.goes_on.last) in
    let rows : List EntryRow = rows_of facts o in
    let stands : Stands (fact.Entry b ∷ facts) n (opening_of facts b.meter) = record {
      opening = o;
      there = is.there;
      row = has.row sound may ∙ ap (moved_by b.kind b.entry) is.row ∙ sym moves.installation;
      rows = ap reverse has.rows ∙ reverse-append m.rows.items (journal.new_row (lists.latest_first m.rows.items) b.kind b.entry ∷ [])
          ∙ ap (λ (rs : List EntryRow). journal.new_row rs b.kind b.entry ∷ rs) is.rows ∙ sym moves.rows;
    } in
    subst (λ (x : Option Meter). IsMeter (fact.Entry b ∷ facts) x (opening_of facts b.meter)) (sym there) stands

pub entry_comes : EntriesMoveOn → OtherMetersStay → InstallationsAreInRange → (facts : List Fact) (b : BookedEntry) (old new : Meters)
    → AreLawful (fact.Entry b ∷ facts) → Changes b.meter (IfThere (HasEntered b)) old new → AreMeters old facts → AreMeters new (fact.Entry b ∷ facts)
entry_comes law others ranges facts b old new lawful changes are =
    line_comes others (fact.Entry b) facts old new b.meter (IfThere (HasEntered b)) (λ name. refl)
    (λ name apart. no_line (journal.Entered b.kind b.entry) (same b.meter name) apart) changes
    (entered_one law ranges facts b lawful (meter_at old b.meter) (meter_at new b.meter) changes.own (are b.meter)) are

-- After an entry of a meter is voided (cancelled) in the records and in the in-memory table of
-- meters, the meter's row has the content that follows from the records.
struck_one : JournalsFit → JournalsAreKept → InstallationsAreInRange → (facts : List Fact) (v : VoidedEntry) → AreLawful (fact.Void v ∷ facts) → (before after : Option Meter)
    → IfThere (HasStruck v.place) before after → IsMeter facts before (opening_of facts v.meter) → IsMeter (fact.Void v ∷ facts) after (opening_of facts v.meter)
struck_one fit kept ranges facts v lawful None after gone is =
    let fits : LineFits facts v.meter (journal.Voided v.place) = lawful.0.0 in
    none_and_some (opening_of facts v.meter) fits.opening is fits.there
struck_one fit kept ranges facts v lawful (Some m) after (n, there, has) is =
    let o : Opening = is.opening in
    let later : List Fact = fact.Void v ∷ facts in
    let line : journal.Line = journal.Voided v.place in
    let lines : journal.Journal = journal_of facts o.meter in
    let following : journal_of later o.meter ≡ line ∷ lines = line_after facts v.meter line o (named_so facts v.meter o is.there) in
    let fits : VoidFits (installed o) (rows_of facts o) v.place = own_line facts v.meter line o lawful.0.0 is.there in
    let numbered : lists.AreNumbered (rows_of facts o) = rows_numbered (opened o) lines in
    let inside = row_inside v.place (rows_of facts o) fits.around numbered fits.there in
    let opening_is : m.row.opening ≡ o = ap (λ (r : Installation). r.opening) is.row in
    let ended_is : m.row.ended ≡ is_ended later o = ap (λ (r : Installation). r.ended) is.row ∙ sym (ap journal.is_ended following) in
    let low : 2 ≤ v.place = inside.0 in
    let high : v.place < length (lists.latest_first m.rows.items) + 2 =
    subst (λ (rs : List EntryRow). v.place < length rs + 2) (sym is.rows) inside.1 in
    let rows_are : lists.latest_first n.rows.items ≡ rows_of later o =
    has.rows (subst lists.AreNumbered (sym is.rows) numbered) low high
    ∙ ap (λ (p : Opening). journal.with_void (opened p) v.place (lists.latest_first m.rows.items)) opening_is
    ∙ ap (journal.with_void (opened o) v.place) is.rows ∙ sym (ap (journal.rows_of (opened o)) following) in
    let recorded : IsRecorded later o = found_is_there (λ (x : Opening). same x.meter v.meter) (openings_in facts) o is.there in
    let all = known fit kept ranges later o lawful recorded in
    let numbers : HasNumbers m.row.opening = subst HasNumbers (sym opening_is) all.numbers in
    let account : HasAccount (installed m.row.opening) (journal.entries_in (lists.latest_first n.rows.items)) =
    subst (λ (p : Opening). HasAccount (installed p) (journal.entries_in (lists.latest_first n.rows.items))) (sym opening_is) (all.account (lists.latest_first n.rows.items) rows_are) in
    let stands : Stands later n (opening_of facts v.meter) = record {
      opening = o;
      there = is.there;
      row = has.row numbers account
          ∙ ap (λ (p : Opening). standing p (journal.entries_in (lists.latest_first n.rows.items)) m.row.ended) opening_is
          ∙ ap (λ (rs : List EntryRow). standing o (journal.entries_in rs) m.row.ended) rows_are
          ∙ ap (standing o (journal.entries_in (rows_of later o))) ended_is;
      rows = rows_are;
    } in
    subst (λ (x : Option Meter). IsMeter later x (opening_of facts v.meter)) (sym there) stands

pub void_comes : OtherMetersStay → JournalsFit → JournalsAreKept → InstallationsAreInRange → (facts : List Fact) (v : VoidedEntry) (old new : Meters)
    → AreLawful (fact.Void v ∷ facts) → Changes v.meter (IfThere (HasStruck v.place)) old new → AreMeters old facts → AreMeters new (fact.Void v ∷ facts)
void_comes others fit kept ranges facts v old new lawful changes are =
    line_comes others (fact.Void v) facts old new v.meter (IfThere (HasStruck v.place)) (λ name. refl)
    (λ name apart. no_line (journal.Voided v.place) (same v.meter name) apart) changes
    (struck_one fit kept ranges facts v lawful (meter_at old v.meter) (meter_at new v.meter) changes.own (are v.meter)) are

-- Suppose that the installation of a meter is recorded and added to the table of meters in a store
-- in memory. Then the row of the meter has the content that follows from the records.
pub opening_comes : OpeningsBegin → OtherMetersStay → (facts : List Fact) (o : Opening) (old new : Meters) → AreLawful (fact.Opening o ∷ facts)
    → Changes o.meter (Begins o) old new → AreMeters old facts → AreMeters new (fact.Opening o ∷ facts)
opening_comes law others facts o old new lawful changes are name =
    let later : List Fact = fact.Opening o ∷ facts in
    let begins = law o facts lawful in
    by_name o.meter name
    (λ e is.
    let n : Meter = changes.own.0 in
    let has : HasBegun o n = changes.own.2 in
    let stands : Stands later n (opening_of later o.meter) =
    record { opening = o; there = begins.by_name; row = has.row ∙ sym begins.installation; rows = ap reverse has.rows ∙ sym begins.rows } in
    subst (λ (nm : List ℕ). IsMeter later (meter_at new nm) (opening_of later nm)) is
    (subst (λ (x : Option Meter). IsMeter later x (opening_of later o.meter)) (sym changes.own.1) stands))
    (λ apart.
    subst (IsMeter later (meter_at new name)) (sym (cond-false _ _ _ apart))
    (subst (λ (x : Option Meter). IsMeter later x (opening_of facts name)) (sym (changes.others name apart))
    (stays_so (fact.Opening o) facts (meter_at old name) (opening_of facts name) (λ p there. others (fact.Opening o) facts p refl) (are name))))

-- If a search by name finds a meter in the table of meters, its state and entries are those that
-- follow from the records.
pub stands_at : (facts : List Fact) (meters : Meters) (name : List ℕ) (key : Key) (m : Meter) → key ≡ named name → Some m ≡ get_by (key_cmp key) meters.meters
    → AreMeters meters facts → Stands facts m (opening_of facts name)
stands_at facts meters name key m is there are =
    subst (λ (o : Option Meter). IsMeter facts o (opening_of facts name)) (at_key meters name key is ∙ sym there) (are name)

pub none_at : (facts : List Fact) (meters : Meters) (name : List ℕ) (key : Key) → key ≡ named name → None ≡ get_by (key_cmp key) meters.meters
    → AreMeters meters facts → opening_of facts name ≡ None
none_at facts meters name key is there are =
    subst (λ (o : Option Meter). IsMeter facts o (opening_of facts name)) (at_key meters name key is ∙ sym there) (are name)
