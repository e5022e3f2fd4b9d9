-- Lemmas about pending polls, which have no outcome. If adding any one outcome preserves a property
-- of the records, then adding the outcomes of all pending polls preserves the property.
use Rattle.std.proofs.Common.{◌≡◌, ℕ, ◌+◌, ◌<◌, ◌≤◌, ◌==◌, true, false, cond, List, [], ◌∷◌, ◌++◌, map, reverse, length, refl, sym, ap, subst, ◌∙◌, arith, append_assoc}
use Rattle.std.specs.List.{find, filter, flat_map}
use Rattle.std.specs.Option.{is_some}
use Rattle.std.proofs.lemmas.Bool.{eqb-true, eq-eqb}
use Rattle.std.proofs.lemmas.List.{reverse-append}
use Rattle.std.proofs.lemmas.List.Sorted.{IsPermutation-map, IsPermutation-reverse}
use Rattle.poll_core.specs.Settling as session
use Rattle.poll_core.specs.declared.outcome.LostCause.TheVariants.{Restart}
use Rattle.office_events.specs.declared.facts.Poll.{Poll}
use Rattle.office_events.specs.declared.facts.EndedPoll.{EndedPoll}
use Rattle.office_events.specs.declared.facts.Fact.{Fact}
use Rattle.office_events.specs.declared.events.Event.{Event}
use Rattle.office_books.specs.Facts.{polls_in, poll_of, ends_of, pending_in}
use Rattle.office_books.specs.Sessions.{Slot}
use Rattle.office_books.specs.History.{History, facts_of, slots_of, settled_by, with_outcome, with_outcomes, with_settled, lost, with_lost}
use Rattle.office_books.specs.PollEndings.{AreNumbered, PollsEndOnce, pending_on}
use Rattle.office_books.proofs.EndedFacts.{end_fact, settled_on_all, polls-with_outcome, ended-with_outcome}
use Rattle.office_books.proofs.Times.{times, times-nil, times-cons, times-permutation, times_parted, one_if, one_if-same, one_if_cases, passes_if_among, found_if_among}
use Rattle.office_books.proofs.SettledOnce.{SettlesPending, settled_numbers, settled_at_most}

-- True if the poll was started and has no recorded outcome.
pub record IsOpen (facts : List Fact) (number : ℕ) : Type 0 where
  pub started : is_some (poll_of facts number) ≡ true
  pub pending : ends_of facts number ≡ []

-- True if each poll number in the list occurs once, and its poll has no outcome yet.
abbrev pub AreOpenOnce : List Fact → List ℕ → Type 0
AreOpenOnce facts ns = (n : ℕ) → 0 < times n ns → (times n ns ≡ 1) × IsOpen facts n

-- After one poll gets its outcome, all other polls without an outcome still have no outcome.
still_open : (at : ℕ) (settled : ℕ × session.Settlement) (facts : List Fact) (n : ℕ) → settled.0 == n ≡ false → IsOpen facts n
    → IsOpen (with_outcome at settled facts) n
still_open at settled facts n other here = record {
  started = ap (λ ps. is_some (find (λ (p : Poll). p.number == n) ps)) (polls-with_outcome at settled facts) ∙ here.started;
  pending =
      ap (filter (λ (e : EndedPoll). e.poll == n)) (ended-with_outcome at settled facts)
      ∙ ap (λ b. cond b (end_fact at settled ∷ ends_of facts n) (ends_of facts n)) other
      ∙ here.pending;
}

others_open : (at number : ℕ) (settlement : session.Settlement) (ns : List ℕ) (facts : List Fact) → AreOpenOnce facts (number ∷ ns)
    → AreOpenOnce (with_outcome at (number, settlement) facts) ns
others_open at number settlement ns facts h n among =
    let all = h n (omega (arith, times-cons n number ns)) in
    one_if_cases n number
    (λ here.
    let one : one_if n number ≡ 1 = ap (λ b. cond b 1 0) (eq-eqb number n here) in
    absurd (omega (arith, times-cons n number ns, all.0, one)))
    (λ other none. (omega (arith, times-cons n number ns, all.0, none), still_open at (number, settlement) facts n other all.1))

-- True if a property of the records is preserved whenever a poll without an outcome gets its
-- outcome.
abbrev pub IsKeptByOutcomes : (List Fact → Type 0) → Type 0
IsKeptByOutcomes P = (at : ℕ) (settled : ℕ × session.Settlement) (facts : List Fact) → IsOpen facts settled.0 → P facts → P (with_outcome at settled facts)

outcomes_keep : (P : List Fact → Type 0) → IsKeptByOutcomes P → (at : ℕ) (settled : List (ℕ × session.Settlement)) (facts : List Fact) → P facts
    → AreOpenOnce facts (settled_numbers settled) → P (with_outcomes at settled facts)
outcomes_keep P keeps at [] facts h once = h
outcomes_keep P keeps at ((number, settlement) ∷ later) facts h once =
    let here = once number (omega (arith, times-cons number number (settled_numbers later), one_if-same number)) in
    outcomes_keep P keeps at later (with_outcome at (number, settlement) facts) (keeps at (number, settlement) facts here.1 h)
    (others_open at number settlement (settled_numbers later) facts once)

-- The numbers of a list of polls.
abbrev pub poll_numbers : List Poll → List ℕ
poll_numbers polls = map (λ poll. poll.number) polls

-- True if `n` is the number of at most one poll, and of no poll if `n` exceeds the count of polls.
record StandsOnce (n : ℕ) (polls : List Poll) : Type 0 where
  once : times n (poll_numbers polls) ≤ 1
  none_above : length polls < n → times n (poll_numbers polls) ≡ 0

assert_recorded_once : (n : ℕ) (polls : List Poll) → AreNumbered polls → StandsOnce n polls
assert_recorded_once n [] h = record { once = omega (arith, times-nil n); none_above = λ above. times-nil n }
assert_recorded_once n (p ∷ polls) h =
    let rest = assert_recorded_once n polls h.1 in
    let is : p.number ≡ length polls + 1 = h.0 in
    let cons = times-cons n p.number (poll_numbers polls) in
    one_if_cases n p.number
    (λ here.
    let one : one_if n p.number ≡ 1 = ap (λ b. cond b 1 0) (eq-eqb p.number n here) in
    let none : times n (poll_numbers polls) ≡ 0 = rest.none_above (omega (arith, is, here)) in
    record { once = omega (arith, cons, one, none); none_above = λ above. absurd (omega (arith, is, here, above)) })
    (λ other none.
    record {
      once = omega (arith, cons, none, rest.once);
      none_above = λ above. let below : length polls < n = omega arith in omega (arith, cons, none, rest.none_above below);
    })

none_from_length : {X : Type 0} (xs : List X) → length xs == 0 ≡ true → xs ≡ []
none_from_length [] h = refl
none_from_length (x ∷ xs) h = absurd (let e : length (x ∷ xs) ≡ 0 = eqb-true (length (x ∷ xs)) 0 h in omega arith)

-- Suppose that each number occurs in a list at most as often as among the pending polls. Then the
-- numbers in the list are distinct, and the polls with these numbers have no outcome.
open_once : (facts : List Fact) (ns : List ℕ) → AreNumbered (polls_in facts)
    → ((n : ℕ) → times n ns ≤ times n (poll_numbers (pending_in facts))) → AreOpenOnce facts ns
open_once facts ns h at_most n among =
    let waits : 0 < times n (poll_numbers (pending_in facts)) = omega (arith, at_most n, among) in
    let back : times n (poll_numbers (reverse (polls_in facts))) ≡ times n (poll_numbers (polls_in facts)) =
    times-permutation n _ _ (IsPermutation-map (λ (p : Poll). p.number) _ _ (IsPermutation-reverse (polls_in facts))) in
    let parted = times_parted (λ (p : Poll). p.number) (λ p. length (ends_of facts p.number) == 0) n (reverse (polls_in facts)) in
    let pending : length (ends_of facts n) == 0 ≡ true =
    passes_if_among (λ (p : Poll). p.number) (λ k. length (ends_of facts k) == 0) n (reverse (polls_in facts)) waits in (
      omega (arith, at_most n, among, back, parted, (assert_recorded_once n (polls_in facts) h).once),
      record {
        started = found_if_among (λ (p : Poll). p.number) n (polls_in facts) (omega (arith, waits, back, parted));
        pending = none_from_length (ends_of facts n) pending;
      },
    )

-- Adding the outcomes of two lists of ended polls one after another yields the same records as
-- adding the outcomes of the concatenated list.
outcomes-append : (at : ℕ) (xs ys : List (ℕ × session.Settlement)) (facts : List Fact)
    → with_outcomes at (xs ++ ys) facts ≡ with_outcomes at ys (with_outcomes at xs facts)
outcomes-append at [] ys facts = refl
outcomes-append at (x ∷ xs) ys facts = outcomes-append at xs ys (with_outcome at x facts)

settled_is : (number at : ℕ) (e : Event) (slots : List Slot) (facts : List Fact)
    → with_settled number at e slots facts ≡ with_outcomes at (settled_on_all number at e slots) facts
settled_is number at e [] facts = refl
settled_is number at e (slot ∷ slots) facts =
    settled_is number at e slots (with_outcomes at (settled_by number at e slot) facts)
    ∙ sym (outcomes-append at (settled_by number at e slot) (settled_on_all number at e slots) facts)

pub settled_keeps : SettlesPending → (P : List Fact → Type 0) → IsKeptByOutcomes P → (past : History) → PollsEndOnce past → (number at : ℕ) (e : Event)
    → P (facts_of past) → P (with_settled number at e (slots_of past) (facts_of past))
settled_keeps law P keeps past ends number at e h =
    let facts = facts_of past in
    let all = settled_on_all number at e (slots_of past) in
    let at_most : (n : ℕ) → times n (settled_numbers all) ≤ times n (poll_numbers (pending_in facts)) =
    λ n. omega (
      arith,
      settled_at_most law n number at e (slots_of past),
      times-permutation n (poll_numbers (pending_in facts)) (flat_map pending_on (slots_of past)) ends.pending,
    ) in
    subst P (sym (settled_is number at e (slots_of past) facts))
    (outcomes_keep P keeps at all facts h (open_once facts (settled_numbers all) ends.numbered at_most))

-- The result of a poll that was pending (without an outcome) when the program restarted: the poll
-- is lost.
abbrev as_lost : Poll → ℕ × session.Settlement
as_lost poll = (poll.number, session.Lost Restart)

all_lost : (at : ℕ) (polls : List Poll) (facts : List Fact) → reverse (map (lost at) polls) ++ facts ≡ with_outcomes at (map as_lost polls) facts
all_lost at [] facts = refl
all_lost at (poll ∷ polls) facts =
    ap (λ fs. fs ++ facts) (reverse-append (lost at poll ∷ []) (map (lost at) polls))
    ∙ append_assoc (reverse (map (lost at) polls)) (lost at poll ∷ []) facts
    ∙ all_lost at polls (lost at poll ∷ facts)

lost_numbers : (polls : List Poll) → settled_numbers (map as_lost polls) ≡ poll_numbers polls
lost_numbers [] = refl
lost_numbers (poll ∷ polls) = ap (λ ns. poll.number ∷ ns) (lost_numbers polls)

pub lost_keeps : (P : List Fact → Type 0) → IsKeptByOutcomes P → (facts : List Fact) → AreNumbered (polls_in facts) → (at : ℕ) → P facts → P (with_lost at facts)
lost_keeps P keeps facts numbered at h =
    let all = map as_lost (pending_in facts) in
    subst P (sym (all_lost at (pending_in facts) facts))
    (outcomes_keep P keeps at all facts h
    (open_once facts (settled_numbers all) numbered (λ n. omega (arith, ap (times n) (lost_numbers (pending_in facts))))))
