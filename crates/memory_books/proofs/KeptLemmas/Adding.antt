-- Lemmas: after one more record is added to a store, each result in the updated cache of lookup
-- results still follows from the store's records.
use Rattle.std.proofs.Common.{◌≡◌, ℕ, ◌+◌, ◌<◌, Bool, false, cond, List, ◌∷◌, ◌++◌, reverse, take, length, get_or, Option, Some, None, refl, sym, ap, subst, ◌∙◌}
use Rattle.std.specs.List.{find, filter}
use Rattle.std.specs.Option.{option_and_then}
use Rattle.std.proofs.lemmas.Bool.{cond-false}
use Rattle.meter_journal.specs.Journal as journal
use Rattle.office_events.specs.declared.facts.BookedEntry.{BookedEntry}
use Rattle.office_events.specs.declared.facts.DeviceList.{DeviceList}
use Rattle.office_events.specs.declared.facts.Register.{Register}
use Rattle.office_events.specs.declared.facts.VoidedEntry.{VoidedEntry}
use Rattle.office_events.specs.declared.facts.Fact.{Fact}
use Rattle.office_events.specs.declared.facts.Fact.TheVariants as fact
use Rattle.office_events.specs.declared.questions.Installation.{Installation}
use Rattle.office_books.specs.Facts.{same, if_some, lists_in, list_of, registers_in, registers_of}
use Rattle.office_books.specs.Lawful.{AreLawful}
use Rattle.office_books.specs.Ranges.{InstallationsAreInRange}
use Rattle.office_books.specs.Steps.{OtherMetersStay, HoldsChangeNothing, EntriesMoveOn}
use Rattle.office_books.proofs.Journals.{by_name}
use Rattle.office_books.proofs.Lists.{reverse_more}
use Rattle.office_books.specs.Ledgers.{with_facts}
use Rattle.memory_books.specs.declared.kept.answers.Answers.{Answers}
use Rattle.memory_books.specs.declared.kept.known.Known.{Known}
use Rattle.memory_books.specs.Kept.Answers.{answer_to, EachIs}
use Rattle.memory_books.specs.Kept.Changes.{Changes, EntryKeepsAnswers, StaysKept}
use Rattle.memory_books.specs.Kept.Known.{AreTrue, IsLatest}
use Rattle.memory_books.specs.declared.kept.polls.Polls.{Polls}
use Rattle.memory_books.specs.Kept.Polls.{PollsAreTrue, PollsChange}
use Rattle.memory_books.proofs.KeptLemmas.Answering.{each_same, each_left, none_kept}
use Rattle.memory_books.proofs.KeptLemmas.Latest.{latest_stays, moved_latest}
use Rattle.memory_books.proofs.KeptLemmas.Waiting.{polls_come}

-- After a point list (the Modbus registers to read) of one device is recorded, the point lists of
-- all other devices are unchanged.
other_list : (put : DeviceList) (facts : List Fact) (device : List ℕ) → same put.device device ≡ false
    → list_of (fact.List put ∷ facts) device ≡ list_of facts device
other_list put facts device apart =
    ap (λ (b : Bool). option_and_then (λ (p : DeviceList). if_some p.list.points p.list) (cond b (Some put) (find (λ (p : DeviceList). same p.device device) (lists_in facts)))) apart

-- After an accounting register (a named energy counter) of one device is recorded, the accounting
-- registers of all other devices are unchanged.
other_registers : (r : Register) (facts : List Fact) (device : List ℕ) → same r.device device ≡ false
    → registers_of (fact.Register r ∷ facts) device ≡ registers_of facts device
other_registers r facts device apart =
    ap (λ (b : Bool). reverse (cond b (r ∷ filter (λ (s : Register). same s.device device) (registers_in facts)) (filter (λ (s : Register). same s.device device) (registers_in facts)))) apart

no_line : (line : journal.Line) (b : Bool) → b ≡ false → let o : Option journal.Line = cond b (Some line) None in o ≡ None
no_line line b is = cond-false _ _ _ is

-- After an entry of one meter is recorded, the states of all other meters are unchanged.
other_entry : OtherMetersStay → (b : BookedEntry) (facts : List Fact) (meter : List ℕ) (row : Installation) → same b.meter meter ≡ false
    → IsLatest facts meter row → IsLatest (fact.Entry b ∷ facts) meter row
other_entry law b facts meter row apart is =
    latest_stays law (fact.Entry b) facts meter row
    (no_line (journal.Entered b.kind b.entry) (same b.meter row.opening.meter) (ap (same b.meter) is.own ∙ apart)) refl is

other_void : OtherMetersStay → (v : VoidedEntry) (facts : List Fact) (meter : List ℕ) (row : Installation) → same v.meter meter ≡ false
    → IsLatest facts meter row → IsLatest (fact.Void v ∷ facts) meter row
other_void law v facts meter row apart is =
    latest_stays law (fact.Void v) facts meter row
    (no_line (journal.Voided v.place) (same v.meter row.opening.meter) (ap (same v.meter) is.own ∙ apart)) refl is

entry_comes : OtherMetersStay → EntriesMoveOn → InstallationsAreInRange → (b : BookedEntry) (facts : List Fact) (old new : Answers Installation)
    → AreLawful (fact.Entry b ∷ facts) → EntryKeepsAnswers b old new → EachIs (IsLatest facts) old → EachIs (IsLatest (fact.Entry b ∷ facts)) new
entry_comes stay move ranges b facts old new lawful goes are meter row there =
    by_name b.meter meter
    (λ e is.
    let own = goes.own row (ap (answer_to new) is ∙ there) in
    subst (λ (m : List ℕ). IsLatest (fact.Entry b ∷ facts) m row) is
    (moved_latest move ranges facts b own.0 row lawful (are b.meter own.0 own.1) own.2))
    (λ apart. other_entry stay b facts meter row apart (are meter row (sym (goes.others meter apart) ∙ there)))

-- True if each cached point list, list of accounting registers (named energy counters) and state of
-- a meter follows from the records.
pub record NamesAreTrue (kept : Known) (facts : List Fact) : Type 0 where
  pub lists : EachIs (λ device list. list_of facts device ≡ Some list) kept.lists
  pub registers : EachIs (λ device v. v.items ≡ registers_of facts device) kept.registers
  pub standing : EachIs (IsLatest facts) kept.standing

-- Suppose that a new record changes no device's point list or accounting registers (named energy
-- counters), and no meter's state. Then the cached results of these three kinds still follow from
-- the records.
quiet : (f : Fact) (facts : List Fact) (old new : Known) → ((device : List ℕ) → list_of (f ∷ facts) device ≡ list_of facts device)
    → ((device : List ℕ) → registers_of (f ∷ facts) device ≡ registers_of facts device)
    → ((meter : List ℕ) (row : Installation) → IsLatest facts meter row → IsLatest (f ∷ facts) meter row)
    → StaysKept old new → AreTrue old facts → NamesAreTrue new (f ∷ facts)
quiet f facts old new lists registers standing stays are = record {
  lists = each_same _ _ old.lists new.lists stays.lists (λ device list is. lists device ∙ is) are.lists;
  registers = each_same _ _ old.registers new.registers stays.registers (λ device v is. is ∙ sym (registers device)) are.registers;
  standing = each_same _ _ old.standing new.standing stays.standing standing are.standing;
}

comes : OtherMetersStay → HoldsChangeNothing → EntriesMoveOn → InstallationsAreInRange → (f : Fact) (facts : List Fact) (old new : Known)
    → AreLawful (f ∷ facts) → Changes f old new → AreTrue old facts → NamesAreTrue new (f ∷ facts)
comes stay hold move ranges (fact.Device d) facts old new lawful changes are =
    quiet (fact.Device d) facts old new (λ device. refl) (λ device. refl) (λ meter row is. latest_stays stay (fact.Device d) facts meter row refl refl is) changes are
comes stay hold move ranges (fact.List put) facts old new lawful changes are = record {
  lists = each_left _ _ old.lists new.lists put.device changes.0 (λ device list apart is. other_list put facts device apart ∙ is) are.lists;
  registers = each_same _ _ old.registers new.registers changes.1 (λ device v is. is) are.registers;
  standing = each_same _ _ old.standing new.standing changes.2 (λ meter row is. latest_stays stay (fact.List put) facts meter row refl refl is) are.standing;
}
comes stay hold move ranges (fact.Register r) facts old new lawful changes are = record {
  lists = each_same _ _ old.lists new.lists changes.0 (λ device list is. is) are.lists;
  registers = each_left _ _ old.registers new.registers r.device changes.1 (λ device v apart is. is ∙ sym (other_registers r facts device apart)) are.registers;
  standing = each_same _ _ old.standing new.standing changes.2 (λ meter row is. latest_stays stay (fact.Register r) facts meter row refl refl is) are.standing;
}
comes stay hold move ranges (fact.Opening o) facts old new lawful changes are = record {
  lists = each_same _ _ old.lists new.lists changes.0 (λ device list is. is) are.lists;
  registers = each_same _ _ old.registers new.registers changes.1 (λ device v is. is) are.registers;
  standing = none_kept _ new.standing changes.2;
}
comes stay hold move ranges (fact.Entry b) facts old new lawful changes are = record {
  lists = each_same _ _ old.lists new.lists changes.0 (λ device list is. is) are.lists;
  registers = each_same _ _ old.registers new.registers changes.1 (λ device v is. is) are.registers;
  standing = entry_comes stay move ranges b facts old.standing new.standing lawful changes.2 are.standing;
}
comes stay hold move ranges (fact.Hold b) facts old new lawful changes are =
    quiet (fact.Hold b) facts old new (λ device. refl) (λ device. refl)
    (λ meter row is. record { own = is.own; there = is.there; stands = is.stands ∙ sym (hold b facts row.opening).installation }) changes are
comes stay hold move ranges (fact.Void v) facts old new lawful changes are = record {
  lists = each_same _ _ old.lists new.lists changes.0 (λ device list is. is) are.lists;
  registers = each_same _ _ old.registers new.registers changes.1 (λ device v is. is) are.registers;
  standing = each_left _ _ old.standing new.standing v.meter changes.2 (λ meter row apart is. other_void stay v facts meter row apart is) are.standing;
}
comes stay hold move ranges (fact.Poll p) facts old new lawful changes are =
    quiet (fact.Poll p) facts old new (λ device. refl) (λ device. refl) (λ meter row is. latest_stays stay (fact.Poll p) facts meter row refl refl is) changes are
comes stay hold move ranges (fact.Outcome e) facts old new lawful changes are =
    quiet (fact.Outcome e) facts old new (λ device. refl) (λ device. refl) (λ meter row is. latest_stays stay (fact.Outcome e) facts meter row refl refl is) changes are
comes stay hold move ranges (fact.Reply r) facts old new lawful changes are =
    quiet (fact.Reply r) facts old new (λ device. refl) (λ device. refl) (λ meter row is. latest_stays stay (fact.Reply r) facts meter row refl refl is) changes are

-- If all results in a cache follow from a store's records, and the cache is updated for one more
-- record, then its results follow from the records including this one.
pub all_comes : OtherMetersStay → HoldsChangeNothing → EntriesMoveOn → InstallationsAreInRange → (f : Fact) (facts : List Fact) (old mid new : Known) (polls : Polls)
    → AreLawful (f ∷ facts) → Changes f old mid → mid.polls ≡ old.polls → PollsChange f mid.polls polls
    → new.lists ≡ mid.lists → new.registers ≡ mid.registers → new.standing ≡ mid.standing → new.polls ≡ polls
    → AreTrue old facts → AreTrue new (f ∷ facts)
all_comes stay hold move ranges f facts old mid new polls lawful changes same_polls go lists registers standing own are =
    let names = comes stay hold move ranges f facts old mid lawful changes are in
    let there = polls_come f facts mid.polls polls lawful go (subst (λ (p : Polls). PollsAreTrue p facts) (sym same_polls) are.polls) in
    record {
      lists = each_same _ _ mid.lists new.lists lists (λ device list is. is) names.lists;
      registers = each_same _ _ mid.registers new.registers registers (λ device v is. is) names.registers;
      standing = each_same _ _ mid.standing new.standing standing (λ meter row is. is) names.standing;
      polls = subst (λ (p : Polls). PollsAreTrue p (f ∷ facts)) (sym own) there;
    }

-- A loop updates the cache of lookup results for new records one by one. If the cached results
-- follow from the store's records after the first `i` new records, then also after the first `i +
-- 1`.
pub one_more : (old now new : Known) (known facts : List Fact) (i : ℕ) (f : Fact) → i < length facts → f ≡ get_or facts i f
    → ((known : List Fact) → AreLawful (f ∷ known) → AreTrue now known → AreTrue new (f ∷ known))
    → (AreLawful (with_facts (take i facts) known) → AreTrue old known → AreTrue now (with_facts (take i facts) known))
    → AreLawful (with_facts (take (i + 1) facts) known) → AreTrue old known → AreTrue new (with_facts (take (i + 1) facts) known)
one_more old now new known facts i f lt is adds before lawful are =
    let more : with_facts (take (i + 1) facts) known ≡ f ∷ with_facts (take i facts) known = ap (λ (fs : List Fact). fs ++ known) (reverse_more facts i f lt is) in
    let own : AreLawful (f ∷ with_facts (take i facts) known) = subst AreLawful more lawful in
    subst (AreTrue new) (sym more) (adds (with_facts (take i facts) known) own (before own.1 are))
