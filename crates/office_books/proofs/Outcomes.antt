-- Lemmas: after polls without an outcome get their outcomes, and after readings of started polls
-- are recorded, the records still follow the rules (each is valid after the earlier ones).
use Rattle.std.proofs.Common.{◌≡◌, ℕ, ◌+◌, ◌<◌, ◌≤◌, ◌==◌, true, false, cond, List, [], ◌∷◌, map, reverse, length, refl, sym, ap, subst, ◌∙◌, Option, Some, None, arith}
use Rattle.std.specs.List.{find, filter}
use Rattle.std.specs.Option.{is_some}
use Rattle.std.proofs.lemmas.Bool.{cond_both, eqb-true, eq-eqb}
use Rattle.std.proofs.lemmas.List.Sorted.{IsPermutation-map, IsPermutation-reverse}
use Rattle.energy_core.specs.declared.verdicts.Reading.{Reading}
use Rattle.energy_core.specs.declared.verdicts.Verdict.{Verdict}
use Rattle.energy_core.specs.declared.verdicts.Verdict.TheVariants.{Accepted, Held}
use Rattle.poll_core.specs.Settling as session
use Rattle.office_events.specs.declared.facts.Poll.{Poll}
use Rattle.office_events.specs.declared.facts.Register.{Register}
use Rattle.office_events.specs.declared.facts.EndedPoll.{EndedPoll}
use Rattle.office_events.specs.declared.facts.Fact.{Fact}
use Rattle.office_events.specs.declared.facts.Fact.TheVariants as fact
use Rattle.office_events.specs.declared.questions.Installation.{Installation}
use Rattle.office_books.specs.Facts.{moment_limit, moment_in, latest_in, as_poll, as_ended, polls_in, ended_in, registers_of, poll_of, ends_of, pending_in}
use Rattle.office_books.specs.Meters.{open_at}
use Rattle.office_books.specs.Readings.{judgement, as_fact, with_reading, reading_of, is_read_by, with_register, with_registers, with_reply}
use Rattle.office_books.specs.History.{outcome_of, with_words, with_outcome, with_outcomes}
use Rattle.office_books.specs.Lawful.{AreLawful}
use Rattle.office_books.proofs.Lookups.{find_passes}
use Rattle.office_books.proofs.LawfulReadings.{reading_fits}
use Rattle.office_books.proofs.Added.{max_least}
use Rattle.office_books.proofs.KeptFacts.{SkipsReadings, SkipsSettled, by_reading, by_words, by_outcome}
use Rattle.office_books.proofs.Times.{times, times-nil, times-cons, times-permutation, times_parted, one_if, one_if-same, one_if_cases, passes_if_among, found_if_among}
use Rattle.office_books.proofs.SettledOnce.{settled_numbers}

poll_skips : SkipsSettled as_poll
poll_skips = record { readings = record { entry = λ b. refl; hold = λ h. refl }; outcome = λ e. refl }

ended_skips : SkipsReadings as_ended
ended_skips = record { entry = λ b. refl; hold = λ h. refl }

-- True if the records are lawful (the rules for adding records accept each after the earlier ones),
-- and no timestamp is later than `at`.
pub record AreKept (at : ℕ) (facts : List Fact) : Type 0 where
  pub lawful : AreLawful facts
  pub latest : latest_in facts ≤ at

abbrev IsStarted : List Fact → ℕ → Type 0
IsStarted facts number = is_some (poll_of facts number) ≡ true

-- The timestamp of a reading's record is the time of the reading.
moment_read : (meter : List ℕ) (poll : ℕ) (r : Reading) (v : Verdict) → moment_in (as_fact meter poll r v) ≡ r.at
moment_read meter poll r (Accepted rolls step) = refl
moment_read meter poll r (Held cause) = refl

latest_read : (at poll : ℕ) (r : Reading) (row : Option Installation) (facts : List Fact) → r.at ≤ at → latest_in facts ≤ at
    → latest_in (with_reading poll r row facts) ≤ at
latest_read at poll r None facts now h = h
latest_read at poll r (Some row) facts now h =
    max_least _ (latest_in facts) at (omega (arith, now, moment_read row.opening.meter poll r (judgement row r))) h

-- True if the records follow the rules for adding records (`AreLawful`), no timestamp is later than
-- `at`, and a record starts the poll with number `poll`.
record AreRead (at poll : ℕ) (facts : List Fact) : Type 0 where
  kept : AreKept at facts
  started : IsStarted facts poll

reading_kept : (at poll : ℕ) (name : List ℕ) (r : Reading) (facts : List Fact) → at ≤ moment_limit → r.at ≤ at → AreRead at poll facts
    → AreRead at poll (with_reading poll r (open_at facts name) facts)
reading_kept at poll name r facts timely now h = record {
  kept = record {
    lawful = reading_fits facts name poll r (open_at facts name) h.kept.lawful h.started (omega (arith, timely, now)) refl;
    latest = latest_read at poll r (open_at facts name) facts now h.kept.latest;
  };
  started = ap (λ (ps : List Poll). is_some (find (λ (p : Poll). p.number == poll) ps)) (by_reading as_poll poll_skips.readings poll r (open_at facts name) facts)
      ∙ h.started;
}

register_kept : (at : ℕ) (poll : Poll) (words : List ℕ) (r : Register) (facts : List Fact) → at ≤ moment_limit → AreRead at poll.number facts
    → AreRead at poll.number (with_register at poll words r facts)
register_kept at poll words r facts timely h =
    cond_both (is_read_by poll.span r) _ facts (AreRead at poll.number)
    (λ read. reading_kept at poll.number r.name (reading_of at poll.span words r) facts timely (omega arith) h)
    (λ other. h)

registers_kept : (at : ℕ) (poll : Poll) (words : List ℕ) (rs : List Register) (facts : List Fact) → at ≤ moment_limit → AreRead at poll.number facts
    → AreKept at (with_registers at poll words rs facts)
registers_kept at poll words [] facts timely h = h.kept
registers_kept at poll words (r ∷ rs) facts timely h =
    registers_kept at poll words rs (with_register at poll words r facts) timely (register_kept at poll words r facts timely h)

reply_kept : (at number : ℕ) (poll : Option Poll) (words : List ℕ) (facts : List Fact) → at ≤ moment_limit → poll_of facts number ≡ poll
    → AreRead at number facts → AreKept at (with_reply at poll words facts)
reply_kept at number None words facts timely is h = h.kept
reply_kept at number (Some poll) words facts timely is h =
    let same_one : poll.number ≡ number =
    eqb-true poll.number number (find_passes (λ (p : Poll). p.number == number) (polls_in facts) poll is) in
    registers_kept at poll words (registers_of facts poll.device) facts timely
    (subst (λ (n : ℕ). AreRead at n facts) (sym same_one) h)

words_kept : (at number : ℕ) (settled : session.Settlement) (facts : List Fact) → at ≤ moment_limit → AreRead at number facts
    → AreKept at (with_words at number settled facts)
words_kept at number (session.Answered words) facts timely h = reply_kept at number (poll_of facts number) words facts timely refl h
words_kept at number (session.Exception code) facts timely h = h.kept
words_kept at number session.Silent facts timely h = h.kept
words_kept at number (session.Malformed malformation) facts timely h = h.kept
words_kept at number (session.Lost cause) facts timely h = h.kept

-- True if the poll was started and has no recorded outcome.
pub record IsOpen (facts : List Fact) (number : ℕ) : Type 0 where
  pub started : is_some (poll_of facts number) ≡ true
  pub pending : ends_of facts number ≡ []

-- True if each poll number in the list occurs once, and its poll has no outcome yet.
abbrev pub AreOpenOnce : List Fact → List ℕ → Type 0
AreOpenOnce facts ns = (n : ℕ) → 0 < times n ns → (times n ns ≡ 1) × IsOpen facts n

outcome_kept : (at : ℕ) (settled : ℕ × session.Settlement) (facts : List Fact) → at ≤ moment_limit → IsOpen facts settled.0 → AreKept at facts
    → AreKept at (with_outcome at settled facts)
outcome_kept at settled facts timely here h =
    words_kept at settled.0 settled.1 _ timely (record {
      kept = record {
        lawful = ((record { started = here.started; pending = here.pending }, timely), h.lawful);
        latest = max_least at (latest_in facts) at (omega arith) h.latest;
      };
      started = here.started;
    })

-- After one poll gets its outcome, all other polls without an outcome still have no outcome.
still_open : (at : ℕ) (settled : ℕ × session.Settlement) (facts : List Fact) (n : ℕ) → settled.0 == n ≡ false → IsOpen facts n
    → IsOpen (with_outcome at settled facts) n
still_open at settled facts n other here =
    let ended : EndedPoll = record { poll = settled.0; at = at; outcome = outcome_of settled.1 } in
    let all : ended_in (with_outcome at settled facts) ≡ ended ∷ ended_in facts = by_words as_ended ended_skips at settled.0 settled.1 _ in
    record {
      started = ap (λ ps. is_some (find (λ (p : Poll). p.number == n) ps)) (by_outcome as_poll poll_skips at settled facts) ∙ here.started;
      pending =
          ap (filter (λ (e : EndedPoll). e.poll == n)) all
          ∙ ap (λ b. cond b (ended ∷ ends_of facts n) (ends_of facts n)) other
          ∙ here.pending;
    }

others_open : (at number : ℕ) (settlement : session.Settlement) (ns : List ℕ) (facts : List Fact) → AreOpenOnce facts (number ∷ ns)
    → AreOpenOnce (with_outcome at (number, settlement) facts) ns
others_open at number settlement ns facts h n among =
    let all = h n (omega (arith, times-cons n number ns)) in
    one_if_cases n number
    (λ here.
    let one : one_if n number ≡ 1 = ap (λ b. cond b 1 0) (eq-eqb number n here) in
    absurd (omega (arith, times-cons n number ns, all.0, one)))
    (λ other none. (omega (arith, times-cons n number ns, all.0, none), still_open at (number, settlement) facts n other all.1))

-- After distinct polls without an outcome get their outcomes, the records still follow the rules
-- (`AreLawful`: each record is valid after the earlier ones).
pub outcomes_kept : (at : ℕ) (settled : List (ℕ × session.Settlement)) (facts : List Fact) → at ≤ moment_limit → AreKept at facts
    → AreOpenOnce facts (settled_numbers settled) → AreKept at (with_outcomes at settled facts)
outcomes_kept at [] facts timely h once = h
outcomes_kept at ((number, settlement) ∷ later) facts timely h once =
    let here = once number (omega (arith, times-cons number number (settled_numbers later), one_if-same number)) in
    outcomes_kept at later (with_outcome at (number, settlement) facts) timely (outcome_kept at (number, settlement) facts timely here.1 h)
    (others_open at number settlement (settled_numbers later) facts once)

-- The numbers of a list of polls.
abbrev pub poll_numbers : List Poll → List ℕ
poll_numbers polls = map (λ poll. poll.number) polls

-- True if `n` is the number of at most one poll, and of no poll if `n` exceeds the count of polls.
record StandsOnce (n : ℕ) (polls : List Poll) : Type 0 where
  once : times n (poll_numbers polls) ≤ 1
  none_above : length polls < n → times n (poll_numbers polls) ≡ 0

assert_recorded_once : (n : ℕ) (facts : List Fact) → AreLawful facts → StandsOnce n (polls_in facts)
assert_recorded_once n [] h = record { once = omega (arith, times-nil n); none_above = λ above. times-nil n }
assert_recorded_once n (fact.Device d ∷ facts) h = assert_recorded_once n facts h.1
assert_recorded_once n (fact.List l ∷ facts) h = assert_recorded_once n facts h.1
assert_recorded_once n (fact.Register r ∷ facts) h = assert_recorded_once n facts h.1
assert_recorded_once n (fact.Opening o ∷ facts) h = assert_recorded_once n facts h.1
assert_recorded_once n (fact.Entry b ∷ facts) h = assert_recorded_once n facts h.1
assert_recorded_once n (fact.Hold b ∷ facts) h = assert_recorded_once n facts h.1
assert_recorded_once n (fact.Void v ∷ facts) h = assert_recorded_once n facts h.1
assert_recorded_once n (fact.Poll p ∷ facts) h =
    let rest = assert_recorded_once n facts h.1 in
    let is : p.number ≡ length (polls_in facts) + 1 = h.0.0.number in
    let cons = times-cons n p.number (poll_numbers (polls_in facts)) in
    one_if_cases n p.number
    (λ here.
    let one : one_if n p.number ≡ 1 = ap (λ b. cond b 1 0) (eq-eqb p.number n here) in
    let none : times n (poll_numbers (polls_in facts)) ≡ 0 = rest.none_above (omega (arith, is, here)) in
    record { once = omega (arith, cons, one, none); none_above = λ above. absurd (omega (arith, is, here, above)) })
    (λ other none.
    record {
      once = omega (arith, cons, none, rest.once);
      none_above = λ above. let below : length (polls_in facts) < n = omega arith in omega (arith, cons, none, rest.none_above below);
    })
assert_recorded_once n (fact.Outcome e ∷ facts) h = assert_recorded_once n facts h.1
assert_recorded_once n (fact.Reply r ∷ facts) h = assert_recorded_once n facts h.1

none_from_length : {X : Type 0} (xs : List X) → length xs == 0 ≡ true → xs ≡ []
none_from_length [] h = refl
none_from_length (x ∷ xs) h = absurd (let e : length (x ∷ xs) ≡ 0 = eqb-true (length (x ∷ xs)) 0 h in omega arith)

-- Suppose that each number occurs in a list at most as often as among the pending polls. Then the
-- numbers in the list are distinct, and the polls with these numbers have no outcome.
pub open_once : (facts : List Fact) (ns : List ℕ) → AreLawful facts
    → ((n : ℕ) → times n ns ≤ times n (poll_numbers (pending_in facts))) → AreOpenOnce facts ns
open_once facts ns h at_most n among =
    let waits : 0 < times n (poll_numbers (pending_in facts)) = omega (arith, at_most n, among) in
    let back : times n (poll_numbers (reverse (polls_in facts))) ≡ times n (poll_numbers (polls_in facts)) =
    times-permutation n _ _ (IsPermutation-map (λ (p : Poll). p.number) _ _ (IsPermutation-reverse (polls_in facts))) in
    let parted = times_parted (λ (p : Poll). p.number) (λ p. length (ends_of facts p.number) == 0) n (reverse (polls_in facts)) in
    let pending : length (ends_of facts n) == 0 ≡ true =
    passes_if_among (λ (p : Poll). p.number) (λ k. length (ends_of facts k) == 0) n (reverse (polls_in facts)) waits in (
      omega (arith, at_most n, among, back, parted, (assert_recorded_once n facts h).once),
      record {
        started = found_if_among (λ (p : Poll). p.number) n (polls_in facts) (omega (arith, waits, back, parted));
        pending = none_from_length (ends_of facts n) pending;
      },
    )
