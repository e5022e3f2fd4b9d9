-- Lemmas that three kinds of records of an open meter follow the rules for meter entries: an
-- accepted reading, a rejected reading, and a manual entry without a fault.
use Rattle.std.proofs.Common.{◌≡◌, ℕ, ℤ, ◌≤◌, nat_lt, Bool, true, false, cond, ◌||◌, List, ◌∷◌, ◌++◌, reverse, refl, sym, ap, subst, Option, Some, None, arith}
use Rattle.std.specs.List.{AllByRecursion}
use Rattle.std.specs.Option.{option_map, option_and_then, option_to_list, is_some}
use Rattle.std.proofs.lemmas.Bool.{or_parts, ltb-false}
use Rattle.std.proofs.lemmas.Option.{same_Some}
use Rattle.energy_core.specs.declared.entries.Last.{Last}
use Rattle.energy_core.specs.declared.entries.Entry.{Entry}
use Rattle.energy_core.specs.declared.entries.Entry.TheVariants as entry
use Rattle.energy_core.specs.declared.admission.TermFault.TheVariants as fault
use Rattle.energy_core.specs.declared.verdicts.Reading.{Reading}
use Rattle.energy_core.specs.declared.verdicts.Terms.{Terms}
use Rattle.energy_core.specs.declared.verdicts.Verdict.{Verdict}
use Rattle.energy_core.specs.declared.verdicts.Verdict.TheVariants as verdict
use Rattle.energy_core.specs.Account.{after, step_to}
use Rattle.energy_core.specs.Admission as entering
use Rattle.energy_core.proofs.Acceptance.{accepted_is_plausible}
use Rattle.energy_core.proofs.Tables.{none_pass, find-none}
use Rattle.meter_journal.specs.declared.lines.EntryKind.TheVariants as kind
use Rattle.meter_journal.specs.Fitting as journals
use Rattle.office_events.specs.declared.facts.Opening.{Opening}
use Rattle.office_events.specs.declared.facts.Fact.{Fact}
use Rattle.office_events.specs.declared.facts.Fact.TheVariants as fact
use Rattle.office_events.specs.declared.questions.Installation.{Installation}
use Rattle.office_events.specs.declared.commands.Manual.{Manual}
use Rattle.office_events.specs.declared.commands.Command.TheVariants as command
use Rattle.office_events.specs.declared.events.Event.TheVariants as event
use Rattle.office_books.specs.Facts.{moment_limit, opening_of, installed_at, poll_of}
use Rattle.office_books.specs.Meters.{installed, is_ended, entries_of, installation_of, if_open, open_at}
use Rattle.office_books.specs.Readings.{judgement, as_fact, with_reading}
use Rattle.office_books.specs.History.{History, Fed, facts_of, read_at, made_on}
use Rattle.office_books.specs.Refusals.{refuses, reasons, refusal_of, makes_fault, is_later}
use Rattle.office_books.specs.Lawful.{AreLawful}
use Rattle.office_books.proofs.FoundOpenings.{found_installed}

-- True if `row` is the state of the open meter of an accounting register (an energy counter). The
-- meter is the latest at the register, a search for its name finds its opening (first entry), and
-- it was not closed.
pub record IsOpen (facts : List Fact) (register : List ℕ) (row : Installation) : Type 0 where
  pub opening : Opening
  pub there : installed_at facts register ≡ Some opening
  pub installed : opening_of facts opening.meter ≡ Some opening
  pub unended : is_ended facts opening ≡ false
  pub row_is : installation_of facts opening ≡ row

open_row : (facts : List Fact) (register : List ℕ) (row : Installation) (o : Opening) (b : Bool) → installed_at facts register ≡ Some o
    → opening_of facts o.meter ≡ Some o → is_ended facts o ≡ b → cond b None (Some (installation_of facts o)) ≡ Some row → IsOpen facts register row
open_row facts register row o true there installed e h = absurd (cc)
open_row facts register row o false there installed e h =
    record { opening = o; there = there; installed = installed; unended = e; row_is = same_Some (installation_of facts o) row h }

open_by : (facts : List Fact) (register : List ℕ) (row : Installation) (found : Option Opening) → AreLawful facts → installed_at facts register ≡ found
    → option_and_then if_open (option_map (installation_of facts) found) ≡ Some row → IsOpen facts register row
open_by facts register row None h there e = absurd (cc)
open_by facts register row (Some o) h there e =
    open_row facts register row o (is_ended facts o) there
    (found_installed facts register o h there) refl e

pub is_open : (facts : List Fact) (register : List ℕ) (row : Installation) → AreLawful facts → open_at facts register ≡ Some row → IsOpen facts register row
is_open facts register row h e = open_by facts register row (installed_at facts register) h refl e

by_verdict : (facts : List Fact) (o : Opening) (poll : ℕ) (r : Reading) (v : Verdict) → AreLawful facts → opening_of facts o.meter ≡ Some o → is_ended facts o ≡ false
    → is_some (poll_of facts poll) ≡ true → r.at ≤ moment_limit
    → judgement (installation_of facts o) r ≡ v → AreLawful (as_fact o.meter poll r v ∷ facts)
by_verdict facts o poll r (verdict.Held c) h there unended started timely e =
    ((record { started = started; line = record { opening = o; there = there; fits = (unended, e) } }, timely), h)
by_verdict facts o poll r (verdict.Accepted rolls step) h there unended started timely e =
    let row : Installation = installation_of facts o in
    let terms : Terms = record { ceiling = o.ceiling; total = row.total } in
    let plain = (accepted_is_plausible o.range terms row.last r rolls step).0 e in
    let here : judgement row (record { at = r.at; raw = r.raw; sf = row.last.sf }) ≡ verdict.Accepted rolls step =
    subst (λ (sf : ℤ). judgement row (record { at = r.at; raw = r.raw; sf = sf }) ≡ verdict.Accepted rolls step) plain.0.scale e in
    ((record { opening = o; there = there; fits = (unended, record { step = step; accepted = here }) }, timely), h)

-- If a poll was started, then the records with a reading of the poll's response still follow the
-- rules for adding records (`AreLawful`).
pub reading_fits : (facts : List Fact) (register : List ℕ) (poll : ℕ) (r : Reading) (row : Option Installation) → AreLawful facts
    → is_some (poll_of facts poll) ≡ true → r.at ≤ moment_limit
    → open_at facts register ≡ row → AreLawful (with_reading poll r row facts)
reading_fits facts register poll r None h started timely e = h
reading_fits facts register poll r (Some row) h started timely e =
    let open_there = is_open facts register row h e in
    subst (λ (x : Installation). AreLawful (with_reading poll r (Some x) facts)) open_there.row_is
    (by_verdict facts open_there.opening poll r (judgement (installation_of facts open_there.opening) r) h open_there.installed open_there.unended started timely refl)

-- Lemmas that the rules for meter entries accept a manual entry (made by a person) of an open meter
-- if it has no fault.

pub entered_fits : (facts : List Fact) (o : Opening) (e : Entry)
    → AllByRecursion (λ why. entering.refuses o.range (installation_of facts o).total (installation_of facts o).last e why ≡ false) entering.faults
    → journals.IsEntered (installed o) (entries_of facts o) e
entered_fits facts o e all =
    let l : Last = (installation_of facts o).last in
    record {
      next = after l e;
      step = step_to o.range l e;
      entered = ap (entering.answered o.range l e) (find-none (entering.refuses o.range (installation_of facts o).total l e) entering.faults all);
    }

-- If a manual entry has no fault for the open meter, then the records with the entry still follow
-- the rules for adding records (`AreLawful`). Without an open meter, no entry is added.
manual_row : (facts : List Fact) (at : ℕ) (c : Manual) (register : List ℕ) (row : Option Installation) → AreLawful facts → open_at facts register ≡ row
    → read_at at c.at ≤ moment_limit
    → makes_fault at fault.NegativeStep (command.Manual c) row ≡ false → makes_fault at fault.NotLater (command.Manual c) row ≡ false
    → makes_fault at fault.SpanTooLong (command.Manual c) row ≡ false → makes_fault at fault.TotalFull (command.Manual c) row ≡ false
    → makes_fault at fault.NotBelowRange (command.Manual c) row ≡ false
    → AreLawful (reverse (option_to_list (option_and_then (made_on at (command.Manual c)) row)) ++ facts)
manual_row facts at c register None h is timely a b d e f = h
manual_row facts at c register (Some row) h is timely a b d e f =
    let open_there = is_open facts register row h is in
    let o : Opening = open_there.opening in
    let x : Entry = entry.Step (read_at at c.at) c.raw c.rolls in
    let all : AllByRecursion (λ why. entering.refuses row.opening.range row.total row.last x why ≡ false) entering.faults = (a, (b, (d, (e, (refl, (f, tt)))))) in
    let own : AllByRecursion (λ why. entering.refuses o.range (installation_of facts o).total (installation_of facts o).last x why ≡ false) entering.faults =
    subst (λ (y : Installation). AllByRecursion (λ why. entering.refuses y.opening.range y.total y.last x why ≡ false) entering.faults) (sym open_there.row_is) all in
    subst (λ (y : Installation). AreLawful (fact.Entry (record { meter = y.opening.meter; kind = kind.Manual; entry = x }) ∷ facts)) open_there.row_is
    ((record { opening = o; there = open_there.installed; fits = (open_there.unended, entered_fits facts o x own) }, timely), h)

-- If a manual reading is accepted, then its time does not exceed the greatest timestamp that a
-- record may have.
read_in_time : (at : ℕ) (given : Option ℕ) → is_later at given ≡ false → at ≤ moment_limit → read_at at given ≤ moment_limit
read_in_time at None h timely = timely
read_in_time at (Some earlier) h timely = let before : earlier ≤ at = ltb-false at earlier h in omega (arith, before, timely)

manual_by : (past : History) (at raw rolls : ℕ) (given : Option ℕ) (register : Option (List ℕ)) → AreLawful (facts_of past)
    → refusal_of past at (event.Command (command.Manual (record { register = register; raw = raw; rolls = rolls; at = given }))) ≡ None
    → AreLawful (facts_of (Fed at (event.Command (command.Manual (record { register = register; raw = raw; rolls = rolls; at = given }))) ∷ past))
manual_by past at raw rolls given None h taken = h
manual_by past at raw rolls given (Some register) h taken =
    let c : Manual = record { register = Some register; raw = raw; rolls = rolls; at = given } in
    let facts : List Fact = facts_of past in
    let all = none_pass (refuses past at (event.Command (command.Manual c))) reasons taken in
    let four = all.1.1.1.1 in
    let limit = or_parts (nat_lt moment_limit at) _ four.1.1.1.1.1.1.0 in
    let beyond = or_parts _ (makes_fault at fault.NotBelowRange (command.Manual c) (open_at facts register)) limit.1 in
    let fields = or_parts (nat_lt 255 rolls || is_later at given) _ beyond.0 in
    let later = or_parts (nat_lt 255 rolls) (is_later at given) fields.0 in
    manual_row facts at c register (open_at facts register) h refl (read_in_time at given later.1 (ltb-false moment_limit at limit.0))
    four.0 four.1.0 four.1.1.0 four.1.1.1.0 beyond.1

-- If a manual entry is accepted, then the records with the entry still follow the rules for adding
-- records (`AreLawful`).
pub manual_lawful : (past : History) (at : ℕ) (c : Manual) → AreLawful (facts_of past) → refusal_of past at (event.Command (command.Manual c)) ≡ None
    → AreLawful (facts_of (Fed at (event.Command (command.Manual c)) ∷ past))
manual_lawful past at c h taken = manual_by past at c.raw c.rolls c.at c.register h taken
