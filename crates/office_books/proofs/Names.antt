-- Lemmas for lawful records, in which the rules for adding records accept each record after the
-- earlier ones. Names are distinct, and the open meter of an accounting register (an energy
-- counter) is its latest meter.
use Rattle.std.proofs.Common.{◌≡◌, ℕ, true, false, cond, Bool, List, [], ◌∷◌, sym, ap, subst, ◌∙◌, inl, inr, Option, Some, None}
use Rattle.std.specs.Prelude.{All}
use Rattle.std.specs.List.{cons_option}
use Rattle.std.specs.Option.{option_map, option_and_then}
use Rattle.std.proofs.lemmas.Bool.{cases_Bool, cond-true, cond-false}
use Rattle.std.proofs.lemmas.Option.{same_Some}
use Rattle.std.proofs.lemmas.List.Elements.{All-contains}
use Rattle.energy_core.specs.declared.entries.Entry.{Entry}
use Rattle.meter_journal.specs.declared.lines.EntryKind.{EntryKind}
use Rattle.meter_journal.specs.Journal as journal
use Rattle.office_events.specs.declared.facts.Device.{Device}
use Rattle.office_events.specs.declared.facts.Register.{Register}
use Rattle.office_events.specs.declared.facts.Opening.{Opening}
use Rattle.office_events.specs.declared.facts.HeldReading.{HeldReading}
use Rattle.office_events.specs.declared.facts.Fact.{Fact}
use Rattle.office_events.specs.declared.facts.Fact.TheVariants as fact
use Rattle.office_books.specs.Facts.{same, devices_in, registers_in, openings_in, opening_of, installed_at}
use Rattle.office_books.specs.Meters.{held_line, is_ended, installation_of, if_open, open_at, journal_of}
use Rattle.office_books.specs.Lawful.{AreLawful}
use Rattle.office_books.specs.Lawfulness.{NamesAreDistinct}
use Rattle.office_books.proofs.Lookups.{same_text, same_itself, AreApart, each_found, all_differ}
use Rattle.office_books.proofs.FoundOpenings.{openings_apart}

devices_apart : (facts : List Fact) → AreLawful facts → AreApart (λ (d : Device). d.name) (devices_in facts)
devices_apart [] h = tt
devices_apart (fact.Device d ∷ facts) h = (h.0.0.new, devices_apart facts h.1)
devices_apart (fact.List l ∷ facts) h = devices_apart facts h.1
devices_apart (fact.Register r ∷ facts) h = devices_apart facts h.1
devices_apart (fact.Opening o ∷ facts) h = devices_apart facts h.1
devices_apart (fact.Entry b ∷ facts) h = devices_apart facts h.1
devices_apart (fact.Hold b ∷ facts) h = devices_apart facts h.1
devices_apart (fact.Void v ∷ facts) h = devices_apart facts h.1
devices_apart (fact.Poll p ∷ facts) h = devices_apart facts h.1
devices_apart (fact.Outcome e ∷ facts) h = devices_apart facts h.1
devices_apart (fact.Reply r ∷ facts) h = devices_apart facts h.1

registers_apart : (facts : List Fact) → AreLawful facts → AreApart (λ (r : Register). r.name) (registers_in facts)
registers_apart [] h = tt
registers_apart (fact.Device d ∷ facts) h = registers_apart facts h.1
registers_apart (fact.List l ∷ facts) h = registers_apart facts h.1
registers_apart (fact.Register r ∷ facts) h = (h.0.0.new, registers_apart facts h.1)
registers_apart (fact.Opening o ∷ facts) h = registers_apart facts h.1
registers_apart (fact.Entry b ∷ facts) h = registers_apart facts h.1
registers_apart (fact.Hold b ∷ facts) h = registers_apart facts h.1
registers_apart (fact.Void v ∷ facts) h = registers_apart facts h.1
registers_apart (fact.Poll p ∷ facts) h = registers_apart facts h.1
registers_apart (fact.Outcome e ∷ facts) h = registers_apart facts h.1
registers_apart (fact.Reply r ∷ facts) h = registers_apart facts h.1

-- If a meter is open after a line of its journal (history), then the meter was also open before
-- this line.
by_closing : (c x : Bool) → cond c true x ≡ false → x ≡ false
by_closing true x h = absurd (let e : true ≡ false = h in cc)
by_closing false x h = h

before_entry : (b : Bool) (k : EntryKind) (e : Entry) (lines : journal.Journal)
    → journal.is_ended (cons_option (cond b (Some (journal.Entered k e)) None) lines) ≡ false → journal.is_ended lines ≡ false
before_entry true k e lines h = by_closing (journal.is_closing k) (journal.is_ended lines) h
before_entry false k e lines h = h

before_hold : (b : Bool) (held : HeldReading) (lines : journal.Journal)
    → journal.is_ended (cons_option (cond b (Some (held_line held)) None) lines) ≡ false → journal.is_ended lines ≡ false
before_hold true held lines h = h
before_hold false held lines h = h

before_void : (b : Bool) (place : ℕ) (lines : journal.Journal)
    → journal.is_ended (cons_option (cond b (Some (journal.Voided place)) None) lines) ≡ false → journal.is_ended lines ≡ false
before_void true place lines h = h
before_void false place lines h = h

-- True if a search for a meter by name finds the given opening (installation record).
abbrev IsInstalled : List Fact → Opening → Type 0
IsInstalled facts o = opening_of facts o.meter ≡ Some o

open_there : (facts : List Fact) (r : List ℕ) (o : Opening) → installed_at facts r ≡ Some o → is_ended facts o ≡ false
    → open_at facts r ≡ Some (installation_of facts o)
open_there facts r o there unended =
    ap (λ (x : Option Opening). option_and_then if_open (option_map (installation_of facts) x)) there ∙ cond-false _ _ _ unended

-- If an accounting register (an energy counter) has an open meter, then no other meter can be
-- installed at the register.
not_free : {P : Type 0} (facts : List Fact) (p o : Opening) → p.register ≡ o.register → open_at facts p.register ≡ None
    → installed_at facts o.register ≡ Some o → is_ended facts o ≡ false → P
not_free facts p o same_one free there unended =
    let none : open_at facts o.register ≡ None = subst (λ (r : List ℕ). open_at facts r ≡ None) same_one free in
    let some : open_at facts o.register ≡ Some (installation_of facts o) = open_there facts o.register o there unended in
    absurd (let e : None ≡ Some (installation_of facts o) = sym none ∙ some in cc)

later_there : (facts : List Fact) (p o : Opening) → open_at facts p.register ≡ None → installed_at facts o.register ≡ Some o
    → is_ended facts o ≡ false → installed_at (fact.Opening p ∷ facts) o.register ≡ Some o
later_there facts p o free there unended =
    elim (cases_Bool (same p.register o.register)) [
      | inl e ↦ not_free facts p o (same_text p.register o.register e) free there unended
      | inr e ↦ cond-false _ _ _ e ∙ there
    ]

opened_now : (facts : List Fact) (p o : Opening) → p ≡ o → installed_at (fact.Opening p ∷ facts) o.register ≡ Some o
opened_now facts p o is =
    subst (λ (x : Opening). installed_at (fact.Opening x ∷ facts) o.register ≡ Some o) (sym is) (cond-true _ _ _ (same_itself o.register))

opened_at : (facts : List Fact) (p o : Opening) → open_at facts p.register ≡ None → IsInstalled (fact.Opening p ∷ facts) o
    → (IsInstalled facts o → installed_at facts o.register ≡ Some o) → is_ended facts o ≡ false
    → installed_at (fact.Opening p ∷ facts) o.register ≡ Some o
opened_at facts p o free there before unended =
    elim (cases_Bool (same p.meter o.meter)) [
      | inl e ↦ opened_now facts p o (same_Some p o (sym (cond-true _ _ _ e) ∙ there))
      | inr e ↦ later_there facts p o free (before (sym (cond-false _ _ _ e) ∙ there)) unended
    ]

-- If a meter is open, then it is the latest meter that was installed at its accounting register (an
-- energy counter).
open_is_latest : (facts : List Fact) (o : Opening) → AreLawful facts → IsInstalled facts o → is_ended facts o ≡ false
    → installed_at facts o.register ≡ Some o
open_is_latest [] o h there unended = absurd (cc)
open_is_latest (fact.Device d ∷ facts) o h there unended = open_is_latest facts o h.1 there unended
open_is_latest (fact.List l ∷ facts) o h there unended = open_is_latest facts o h.1 there unended
open_is_latest (fact.Register r ∷ facts) o h there unended = open_is_latest facts o h.1 there unended
open_is_latest (fact.Opening p ∷ facts) o h there unended =
    opened_at facts p o h.0.0.free there (λ before. open_is_latest facts o h.1 before unended) unended
open_is_latest (fact.Entry b ∷ facts) o h there unended =
    open_is_latest facts o h.1 there (before_entry (same b.meter o.meter) b.kind b.entry (journal_of facts o.meter) unended)
open_is_latest (fact.Hold b ∷ facts) o h there unended =
    open_is_latest facts o h.1 there (before_hold (same b.meter o.meter) b (journal_of facts o.meter) unended)
open_is_latest (fact.Void v ∷ facts) o h there unended =
    open_is_latest facts o h.1 there (before_void (same v.meter o.meter) v.place (journal_of facts o.meter) unended)
open_is_latest (fact.Poll p ∷ facts) o h there unended = open_is_latest facts o h.1 there unended
open_is_latest (fact.Outcome e ∷ facts) o h there unended = open_is_latest facts o h.1 there unended
open_is_latest (fact.Reply r ∷ facts) o h there unended = open_is_latest facts o h.1 there unended

meters_found : (facts : List Fact) → AreLawful facts → All (IsInstalled facts) (openings_in facts)
meters_found facts h = each_found (λ (o : Opening). o.meter) (openings_in facts) (openings_apart facts h)

pub names_are_distinct : NamesAreDistinct
names_are_distinct facts h = record {
  devices = all_differ (λ (d : Device). d.name) (devices_in facts) (devices_apart facts h);
  registers = all_differ (λ (r : Register). r.name) (registers_in facts) (registers_apart facts h);
  meters = all_differ (λ (o : Opening). o.meter) (openings_in facts) (openings_apart facts h);
  device_found = each_found (λ (d : Device). d.name) (devices_in facts) (devices_apart facts h);
  register_found = each_found (λ (r : Register). r.name) (registers_in facts) (registers_apart facts h);
  meter_found = meters_found facts h;
  latest = λ o recorded unended.
      open_is_latest facts o h (All-contains (IsInstalled facts) (openings_in facts) o (meters_found facts h) recorded) unended;
}
