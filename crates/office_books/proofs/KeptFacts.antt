-- Lemmas that the end of a poll adds only an outcome and readings to the records.
use Rattle.std.proofs.Common.{◌≡◌, ℕ, Bool, true, false, cond, List, [], ◌∷◌, ◌++◌, map, reverse, refl, sym, ap, ◌∙◌, Option, Some, None, append_assoc}
use Rattle.std.specs.List.{filter_map, cons_option, flat_map}
use Rattle.std.proofs.lemmas.List.{reverse-append}
use Rattle.energy_core.specs.declared.verdicts.Reading.{Reading}
use Rattle.energy_core.specs.declared.verdicts.Verdict.{Verdict}
use Rattle.energy_core.specs.declared.verdicts.Verdict.TheVariants.{Accepted, Held}
use Rattle.poll_core.specs.Settling as session
use Rattle.poll_core.specs.declared.outcome.LostCause.TheVariants.{Restart}
use Rattle.office_events.specs.declared.facts.Poll.{Poll}
use Rattle.office_events.specs.declared.facts.Register.{Register}
use Rattle.office_events.specs.declared.facts.BookedEntry.{BookedEntry}
use Rattle.office_events.specs.declared.facts.HeldReading.{HeldReading}
use Rattle.office_events.specs.declared.facts.EndedPoll.{EndedPoll}
use Rattle.office_events.specs.declared.facts.Fact.{Fact}
use Rattle.office_events.specs.declared.facts.Fact.TheVariants as fact
use Rattle.office_events.specs.declared.events.Event.{Event}
use Rattle.office_events.specs.declared.questions.Installation.{Installation}
use Rattle.office_books.specs.Facts.{pending_in, poll_of, registers_of}
use Rattle.office_books.specs.Meters.{open_at}
use Rattle.office_books.specs.Readings.{as_fact, judgement, reading_of, is_read_by, with_reading, with_register, with_registers, with_reply}
use Rattle.office_books.specs.Sessions.{Slot}
use Rattle.office_books.specs.History.{with_words, with_outcome, with_outcomes, settled_by, with_settled, lost, with_lost}

-- True if a filter of the records finds neither entries of meters nor rejected readings.
pub record SkipsReadings {X : Type 0} (f : Fact → Option X) : Type 0 where
  pub entry : (b : BookedEntry) → f (fact.Entry b) ≡ None
  pub hold : (h : HeldReading) → f (fact.Hold h) ≡ None

skips : {X : Type 0} (f : Fact → Option X) → SkipsReadings f → (meter : List ℕ) (poll : ℕ) (r : Reading) (v : Verdict)
    → f (as_fact meter poll r v) ≡ None
skips f s meter poll r (Accepted rolls step) = s.entry _
skips f s meter poll r (Held cause) = s.hold _

pub by_reading : {X : Type 0} (f : Fact → Option X) → SkipsReadings f → (poll : ℕ) (r : Reading) (o : Option Installation) (facts : List Fact)
    → filter_map f (with_reading poll r o facts) ≡ filter_map f facts
by_reading f s poll r None facts = refl
by_reading f s poll r (Some row) facts =
    ap (λ y. cons_option y (filter_map f facts)) (skips f s row.opening.meter poll r (judgement row r))

either_way : {X : Type 0} (f : Fact → Option X) (b : Bool) (xs ys : List Fact) (zs : List X) → filter_map f xs ≡ zs → filter_map f ys ≡ zs
    → filter_map f (cond b xs ys) ≡ zs
either_way f true xs ys zs h k = h
either_way f false xs ys zs h k = k

pub by_register : {X : Type 0} (f : Fact → Option X) → SkipsReadings f → (at : ℕ) (poll : Poll) (words : List ℕ) (r : Register) (facts : List Fact)
    → filter_map f (with_register at poll words r facts) ≡ filter_map f facts
by_register f s at poll words r facts =
    either_way f (is_read_by poll.span r) _ facts (filter_map f facts)
    (by_reading f s poll.number (reading_of at poll.span words r) (open_at facts r.name) facts) refl

by_registers : {X : Type 0} (f : Fact → Option X) → SkipsReadings f → (at : ℕ) (poll : Poll) (words : List ℕ) (rs : List Register) (facts : List Fact)
    → filter_map f (with_registers at poll words rs facts) ≡ filter_map f facts
by_registers f s at poll words [] facts = refl
by_registers f s at poll words (r ∷ rs) facts =
    by_registers f s at poll words rs (with_register at poll words r facts) ∙ by_register f s at poll words r facts

by_reply : {X : Type 0} (f : Fact → Option X) → SkipsReadings f → (at : ℕ) (poll : Option Poll) (words : List ℕ) (facts : List Fact)
    → filter_map f (with_reply at poll words facts) ≡ filter_map f facts
by_reply f s at None words facts = refl
by_reply f s at (Some poll) words facts = by_registers f s at poll words (registers_of facts poll.device) facts

pub by_words : {X : Type 0} (f : Fact → Option X) → SkipsReadings f → (at number : ℕ) (settled : session.Settlement) (facts : List Fact)
    → filter_map f (with_words at number settled facts) ≡ filter_map f facts
by_words f s at number (session.Answered words) facts = by_reply f s at (poll_of facts number) words facts
by_words f s at number (session.Exception code) facts = refl
by_words f s at number session.Silent facts = refl
by_words f s at number (session.Malformed malformation) facts = refl
by_words f s at number (session.Lost cause) facts = refl

-- True if a filter of the records finds neither readings nor outcomes of polls.
pub record SkipsSettled {X : Type 0} (f : Fact → Option X) : Type 0 where
  pub readings : SkipsReadings f
  pub outcome : (e : EndedPoll) → f (fact.Outcome e) ≡ None

pub by_outcome : {X : Type 0} (f : Fact → Option X) → SkipsSettled f → (at : ℕ) (settled : ℕ × session.Settlement) (facts : List Fact)
    → filter_map f (with_outcome at settled facts) ≡ filter_map f facts
by_outcome f s at settled facts =
    by_words f s.readings at settled.0 settled.1 _ ∙ ap (λ y. cons_option y (filter_map f facts)) (s.outcome _)

pub by_outcomes : {X : Type 0} (f : Fact → Option X) → SkipsSettled f → (at : ℕ) (all : List (ℕ × session.Settlement)) (facts : List Fact)
    → filter_map f (with_outcomes at all facts) ≡ filter_map f facts
by_outcomes f s at [] facts = refl
by_outcomes f s at (settled ∷ later) facts =
    by_outcomes f s at later (with_outcome at settled facts) ∙ by_outcome f s at settled facts

pub outcomes-append : (at : ℕ) (xs ys : List (ℕ × session.Settlement)) (facts : List Fact)
    → with_outcomes at (xs ++ ys) facts ≡ with_outcomes at ys (with_outcomes at xs facts)
outcomes-append at [] ys facts = refl
outcomes-append at (x ∷ xs) ys facts = outcomes-append at xs ys (with_outcome at x facts)

-- The polls that an event ends on all Modbus sessions, each with its result.
abbrev pub settled_on_all : (number at : ℕ) → Event → List Slot → List (ℕ × session.Settlement)
settled_on_all number at e slots = flat_map (settled_by number at e) slots

pub settled_is : (number at : ℕ) (e : Event) (slots : List Slot) (facts : List Fact)
    → with_settled number at e slots facts ≡ with_outcomes at (settled_on_all number at e slots) facts
settled_is number at e [] facts = refl
settled_is number at e (slot ∷ slots) facts =
    settled_is number at e slots (with_outcomes at (settled_by number at e slot) facts)
    ∙ sym (outcomes-append at (settled_by number at e slot) (settled_on_all number at e slots) facts)

-- The result of a poll that was pending (without an outcome) when the program restarted: the poll
-- is lost.
abbrev pub as_lost : Poll → ℕ × session.Settlement
as_lost poll = (poll.number, session.Lost Restart)

all_lost : (at : ℕ) (polls : List Poll) (facts : List Fact)
    → reverse (map (lost at) polls) ++ facts ≡ with_outcomes at (map as_lost polls) facts
all_lost at [] facts = refl
all_lost at (poll ∷ polls) facts =
    ap (λ fs. fs ++ facts) (reverse-append (lost at poll ∷ []) (map (lost at) polls))
    ∙ append_assoc (reverse (map (lost at) polls)) (lost at poll ∷ []) facts
    ∙ all_lost at polls (lost at poll ∷ facts)

pub lost_is : (at : ℕ) (facts : List Fact) → with_lost at facts ≡ with_outcomes at (map as_lost (pending_in facts)) facts
lost_is at facts = all_lost at (pending_in facts) facts
