-- Lemmas: an event reports an outcome of a poll as often as it records one, and a poll is still
-- pending if and only if no notification reports its outcome.
use Rattle.std.proofs.Common.{◌≡◌, ℕ, suc, ◌+◌, ◌==◌, not, ◌||◌, Bool, true, false, cond, List, [], ◌∷◌, ◌++◌, length, Option, Some, None, refl, sym, ap, ◌∙◌, arith, if◌then◌else◌}
use Rattle.std.specs.List.{filter, list_any}
use Rattle.std.specs.Option.{option_map, option_to_list}
use Rattle.std.proofs.lemmas.Bool.{cond-false, ne_eqb}
use Rattle.std.proofs.lemmas.List.{length-append}
use Rattle.std.proofs.lemmas.List.Elements.{filter-append}
use Rattle.energy_core.specs.declared.verdicts.Reading.{Reading}
use Rattle.energy_core.specs.declared.verdicts.Verdict.{Verdict}
use Rattle.energy_core.specs.declared.verdicts.Verdict.TheVariants.{Accepted, Held}
use Rattle.poll_core.specs.Settling as session
use Rattle.office_events.specs.declared.facts.EndedPoll.{EndedPoll}
use Rattle.office_events.specs.declared.facts.Fact.{Fact}
use Rattle.office_events.specs.declared.facts.Fact.TheVariants as fact
use Rattle.office_events.specs.declared.facts.Poll.{Poll}
use Rattle.office_events.specs.declared.facts.Register.{Register}
use Rattle.office_events.specs.declared.answers.Note.{Note}
use Rattle.office_events.specs.declared.answers.Note.TheVariants as note
use Rattle.office_events.specs.declared.events.Event.{Event}
use Rattle.office_events.specs.declared.questions.Installation.{Installation}
use Rattle.office_books.specs.Facts.{ends_of, poll_of, registers_of}
use Rattle.office_books.specs.History.{outcome_of, settled_by, with_outcome, with_outcomes, with_settled}
use Rattle.office_books.specs.Meters.{open_at}
use Rattle.office_books.specs.Notes.{as_note, outcome_notes, outcomes_notes, reading_note, register_notes, registers_notes, reply_notes, settled_notes, words_notes}
use Rattle.office_books.specs.Readings.{is_read_by, judgement, reading_of, with_register}
use Rattle.office_books.specs.Sessions.{Slot}
use Rattle.office_books.proofs.EndedFacts.{end_fact, ended-with_outcome}
use Rattle.office_program.specs.DeviceRounds.Polls.{ends, waits}

-- The number of notifications that report the outcome of the poll with number `n`.
abbrev pub reported : ℕ → List Note → ℕ
reported n notes = length (filter (ends n) notes)

reported_both : (n : ℕ) (xs ys : List Note) → reported n (xs ++ ys) ≡ reported n xs + reported n ys
reported_both n xs ys = ap length (filter-append (ends n) xs ys) ∙ length-append (filter (ends n) xs) (filter (ends n) ys)

both_none : (a b c : ℕ) → a ≡ b + c → b ≡ 0 → c ≡ 0 → a ≡ 0
both_none a b c is first second = omega arith

-- If a notification reports a meter reading, then it reports no outcome of a poll.
quiet : (n : ℕ) (meter : List ℕ) (reading : Reading) (verdict : Verdict) → ends n (as_note meter reading verdict) ≡ false
quiet n meter reading (Accepted rolls step) = refl
quiet n meter reading (Held cause) = refl

one_quiet : (n : ℕ) (one : Note) → ends n one ≡ false → reported n (one ∷ []) ≡ 0
one_quiet n one h = ap length (cond-false (ends n one) (one ∷ []) [] h)

register_quiet : (n : ℕ) (read : Bool) (reading : Reading) (row : Option Installation)
    → reported n (if read then option_to_list (option_map (reading_note reading) row) else []) ≡ 0
register_quiet n true reading None = refl
register_quiet n true reading (Some row) = one_quiet n _ (quiet n row.opening.meter reading (judgement row reading))
register_quiet n false reading row = refl

registers_quiet : (n at : ℕ) (poll : Poll) (words : List ℕ) (registers : List Register) (facts : List Fact)
    → reported n (registers_notes at poll words registers facts) ≡ 0
registers_quiet n at poll words [] facts = refl
registers_quiet n at poll words (register ∷ registers) facts =
    let here = register_notes at poll words register facts in
    let later = registers_notes at poll words registers (with_register at poll words register facts) in
    both_none (reported n (here ++ later)) (reported n here) (reported n later) (reported_both n here later)
    (register_quiet n (is_read_by poll.span register) (reading_of at poll.span words register) (open_at facts register.name))
    (registers_quiet n at poll words registers (with_register at poll words register facts))

reply_quiet : (n at : ℕ) (poll : Option Poll) (words : List ℕ) (facts : List Fact) → reported n (reply_notes at poll words facts) ≡ 0
reply_quiet n at None words facts = refl
reply_quiet n at (Some poll) words facts = registers_quiet n at poll words (registers_of facts poll.device) facts

words_quiet : (n at number : ℕ) (by : session.Settlement) (facts : List Fact) → reported n (words_notes at number by facts) ≡ 0
words_quiet n at number (session.Answered words) facts = reply_quiet n at (poll_of facts number) words facts
words_quiet n at number (session.Exception code) facts = refl
words_quiet n at number session.Silent facts = refl
words_quiet n at number (session.Malformed malformation) facts = refl
words_quiet n at number (session.Lost cause) facts = refl

-- If one more outcome of a poll is both reported and recorded, then the numbers of the poll's
-- reported and recorded outcomes grow by one. Otherwise both numbers are unchanged.
one_more : {X Y : Type 0} (b : Bool) (x : X) (xs : List X) (y : Y) (ys : List Y) → length ys ≡ 0
    → length (cond b (x ∷ xs) xs) ≡ length (cond b (y ∷ ys) ys) + length xs
one_more true x xs y ys h = omega (arith, h)
one_more false x xs y ys h = omega (arith, h)

ends_one : (n at : ℕ) (s : ℕ × session.Settlement) (facts : List Fact)
    → length (ends_of (with_outcome at s facts) n) ≡ reported n (outcome_notes at s facts) + length (ends_of facts n)
ends_one n at s facts =
    let later : List Fact = fact.Outcome (end_fact at s) ∷ facts in
    ap (λ (es : List EndedPoll). length (filter (λ e. e.poll == n) es)) (ended-with_outcome at s facts)
    ∙ one_more (s.0 == n) (end_fact at s) (ends_of facts n) (note.Outcome s.0 (outcome_of s.1)) (filter (ends n) (words_notes at s.0 s.1 later))
    (words_quiet n at s.0 s.1 later)

joined : (after before mid first later both : ℕ) → after ≡ later + mid → mid ≡ first + before → both ≡ first + later → after ≡ both + before
joined after before mid first later both a b c = omega arith

ends_all : (n at : ℕ) (settled : List (ℕ × session.Settlement)) (facts : List Fact)
    → length (ends_of (with_outcomes at settled facts) n) ≡ reported n (outcomes_notes at settled facts) + length (ends_of facts n)
ends_all n at [] facts = omega arith
ends_all n at (s ∷ settled) facts =
    let mid = with_outcome at s facts in
    joined (length (ends_of (with_outcomes at settled mid) n)) (length (ends_of facts n)) (length (ends_of mid n)) (reported n (outcome_notes at s facts))
    (reported n (outcomes_notes at settled mid)) (reported n (outcome_notes at s facts ++ outcomes_notes at settled mid))
    (ends_all n at settled mid) (ends_one n at s facts) (reported_both n (outcome_notes at s facts) (outcomes_notes at settled mid))

pub ends_settled : (n number at : ℕ) (e : Event) (slots : List Slot) (facts : List Fact)
    → length (ends_of (with_settled number at e slots facts) n) ≡ reported n (settled_notes number at e slots facts) + length (ends_of facts n)
ends_settled n number at e [] facts = omega arith
ends_settled n number at e (slot ∷ slots) facts =
    let here = settled_by number at e slot in
    let mid = with_outcomes at here facts in
    joined (length (ends_of (with_settled number at e slots mid) n)) (length (ends_of facts n)) (length (ends_of mid n)) (reported n (outcomes_notes at here facts))
    (reported n (settled_notes number at e slots mid)) (reported n (outcomes_notes at here facts ++ settled_notes number at e slots mid))
    (ends_settled n number at e slots mid) (ends_all n at here facts) (reported_both n (outcomes_notes at here facts) (settled_notes number at e slots mid))

-- A poll is still pending if and only if no notification reports its outcome.
waits_step : (b : Bool) (any : Bool) (one : Note) (notes : List Note) → not any ≡ (length notes == 0)
    → not (b || any) ≡ (length (cond b (one ∷ notes) notes) == 0)
waits_step true any one notes h = sym (ne_eqb (suc (length notes)) 0 (λ e. absurd (omega (arith, e))))
waits_step false any one notes h = h

pub waits_reported : (notes : List Note) (n : ℕ) → waits notes n ≡ (reported n notes == 0)
waits_reported [] n = refl
waits_reported (one ∷ notes) n = waits_step (ends n one) (list_any (ends n) notes) one (filter (ends n) notes) (waits_reported notes n)
