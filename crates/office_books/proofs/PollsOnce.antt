-- Lemmas that each started poll has exactly one recorded outcome or is pending.
use Rattle.std.proofs.Common.{◌≡◌, ℕ, zero, suc, ◌<◌, ◌==◌, inl, inr, Bool, true, false, cond, List, [], ◌∷◌, map, length, reverse, get_or, Option, Some, None, refl, ap, subst, ◌∙◌, arith}
use Rattle.std.specs.Prelude.{Contains}
use Rattle.std.specs.List.{filter, flat_map}
use Rattle.std.specs.Option.{option_to_list}
use Rattle.std.proofs.lemmas.List.Elements.{Contains-get_or}
use Rattle.std.proofs.lemmas.List.Sorted.{IsPermutation-reverse, Contains-permutation}
use Rattle.poll_core.specs.declared.outcome.Outcome.{Outcome}
use Rattle.office_events.specs.declared.facts.Poll.{Poll}
use Rattle.office_events.specs.declared.facts.EndedPoll.{EndedPoll}
use Rattle.office_books.specs.Facts.{polls_in, ends_of, pending_in}
use Rattle.office_books.specs.History.{History, facts_of, slots_of}
use Rattle.office_books.specs.PollEndings.{PollsEndOnce, outcome_in, pending_on}
use Rattle.office_books.specs.Endings.{EndsOnce, EachEndsOnce}

cons_contains : {X : Type 0} (b : Bool) (y : X) (xs : List X) (x : X) → Contains xs x → Contains (cond b (y ∷ xs) xs) x
cons_contains true y xs x h = let less = h.1 in (suc h.0, omega arith, h.2)
cons_contains false y xs x h = h

kept_at : {X : Type 0} (t : X → Bool) (xs : List X) (k : ℕ) (d : X) → k < length xs → t (get_or xs k d) ≡ true → Contains (filter t xs) (get_or xs k d)
kept_at t [] k d less e = absurd (omega arith)
kept_at t (y ∷ ys) zero d less e = rw e (0, omega arith, refl)
kept_at t (y ∷ ys) (suc k) d less e = cons_contains (t y) y (filter t ys) (get_or ys k d) (kept_at t ys k d (omega arith) e)

contains_kept : {X : Type 0} (t : X → Bool) (xs : List X) (x : X) → Contains xs x → t x ≡ true → Contains (filter t xs) x
contains_kept t xs x h = subst (λ z. t z ≡ true → Contains (filter t xs) z) h.2 (kept_at t xs h.0 x h.1)

mapped_at : {X Y : Type 0} (f : X → Y) (xs : List X) (k : ℕ) (d : X) → k < length xs → Contains (map f xs) (f (get_or xs k d))
mapped_at f [] k d less = absurd (omega arith)
mapped_at f (x ∷ xs) zero d less = (0, omega arith, refl)
mapped_at f (x ∷ xs) (suc k) d less = let h = mapped_at f xs k d (omega arith) in let lower = h.1 in (suc h.0, omega arith, h.2)

contains_mapped : {X Y : Type 0} (f : X → Y) (xs : List X) (x : X) → Contains xs x → Contains (map f xs) (f x)
contains_mapped f xs x h = subst (λ z. Contains (map f xs) (f z)) h.2 (mapped_at f xs h.0 x h.1)

map_none : {X Y : Type 0} (f : X → Y) (xs : List X) → map f xs ≡ [] → xs ≡ []
map_none f [] e = refl
map_none f (x ∷ xs) e = let none : suc (length (map f xs)) ≡ 0 = ap length e in absurd (omega arith)

-- If a poll has no outcome, then the poll is pending on the Modbus session of a device.
waiting : (history : History) → PollsEndOnce history → (poll : Poll) → Contains (polls_in (facts_of history)) poll
    → ends_of (facts_of history) poll.number ≡ [] → Contains (flat_map pending_on (slots_of history)) poll.number
waiting history h poll is none =
    let facts = facts_of history in
    let turned = Contains-permutation (polls_in facts) (reverse (polls_in facts)) poll (IsPermutation-reverse (polls_in facts)) is in
    let pending = contains_kept (λ (p : Poll). length (ends_of facts p.number) == 0) (reverse (polls_in facts)) poll turned (ap (λ (ends : List EndedPoll). length ends == 0) none) in
    Contains-permutation _ _ poll.number h.pending (contains_mapped (λ (p : Poll). p.number) (pending_in facts) poll pending)

ended_or_waiting : (history : History) → PollsEndOnce history → (poll : Poll) → Contains (polls_in (facts_of history)) poll
    → (o : Option Outcome) → outcome_in (slots_of history) poll.number ≡ o → EndsOnce history poll
ended_or_waiting history h poll is (Some outcome) given = inl (outcome, record { recorded = h.ended poll.number ∙ ap option_to_list given; given = given })
ended_or_waiting history h poll is None given =
    let none = map_none (λ (ended : EndedPoll). ended.outcome) (ends_of (facts_of history) poll.number) (h.ended poll.number ∙ ap option_to_list given) in
    inr (record { recorded = none; given = given; waits = waiting history h poll is none })

pub ends_once : (history : History) → PollsEndOnce history → EachEndsOnce history
ends_once history h k d less =
    let polls = polls_in (facts_of history) in
    ended_or_waiting history h (get_or polls k d) (Contains-get_or polls k d less) _ refl
