-- Proves that each started poll is completed once or is pending.
use Rattle.std.proofs.Common.{◌≡◌, ℕ, zero, suc, ◌<◌, List, [], ◌∷◌, ◌++◌, length, map, refl, sym, ap, subst, arith, Option, Some, None, append_assoc}
use Rattle.std.specs.List.{All, AllByRecursion, filter_map}
use Rattle.std.specs.List.Sorted.{IsPermutation}
use Rattle.std.proofs.lemmas.List.Sorted.{IsPermutation-refl, IsPermutation-cons, IsPermutation-trans, IsPermutation-append, IsPermutation-map}
use Rattle.poll_core.proofs.Agreement.{middle, same_is, outcomes_agree}
use Rattle.poll_core.proofs.Pending.{waiting}
use Rattle.poll_core.specs.Laws.{with_outcome, outcomes_by_poll, outcomes_by_event, numbers_started, numbers_settled, numbers_pending, Waits}
use Rattle.poll_core.specs.Polls.{Poll}
use Rattle.poll_core.specs.Settling.{Event, Start, Piece, Tick, Close, Settlement, outcome, started, result_of, results, pending}

abbrev number : Poll → ℕ
number p = p.number

numbers_started-is : (t : ℕ) (before later : List Event) → map (λ r. r.0.number) (results t before later) ≡ numbers_started later
numbers_started-is t before [] = refl
numbers_started-is t before (Start m n u s ∷ later) = ap (λ xs. n ∷ xs) (numbers_started-is t (before ++ Start m n u s ∷ []) later)
numbers_started-is t before (Piece m b ∷ later) = numbers_started-is t (before ++ Piece m b ∷ []) later
numbers_started-is t before (Tick m ∷ later) = numbers_started-is t (before ++ Tick m ∷ []) later
numbers_started-is t before (Close m c ∷ later) = numbers_started-is t (before ++ Close m c ∷ []) later

parts : (rs : List (Poll × Option Settlement)) → IsPermutation (map (λ r. r.0.number) rs) (map (λ o. o.0) (filter_map with_outcome rs) ++ map number (waiting rs))
parts [] = IsPermutation-refl []
parts ((p, Some o) ∷ rs) = IsPermutation-cons p.number _ _ (parts rs)
parts ((p, None) ∷ rs) = middle p.number _ _ _ (parts rs)

pub each_number : (t : ℕ) (es : List Event) → IsPermutation (numbers_started es) (numbers_settled t es ++ numbers_pending t es)
unfolding pending
each_number t es =
    let rs = results t [] es in
    let reported = IsPermutation-map (λ (o : ℕ × Settlement). o.0) (outcomes_by_poll t es) (outcomes_by_event t es) (outcomes_agree t es) in
    IsPermutation-trans _ _ _ (same_is _ _ (sym (numbers_started-is t [] es)))
    (IsPermutation-trans _ _ _ (parts rs) (IsPermutation-append _ _ _ _ reported (IsPermutation-refl (map number (waiting rs)))))

-- True if one of the events starts the poll, and the events after it give the poll this outcome.
-- The outcome `None` means that they do not complete the poll.
record Comes (t : ℕ) (es : List Event) (r : Poll × Option Settlement) : Type 0 where
  before : List Event
  start : Event
  later : List Event
  among : es ≡ before ++ start ∷ later
  starts : started t before start ≡ Some r.0
  goes : outcome (before ++ start ∷ []) later r.0 ≡ r.1

AllByRecursion-append : {X : Type 0} (P : X → Type 0) (xs ys : List X) → AllByRecursion P xs → AllByRecursion P ys → AllByRecursion P (xs ++ ys)
AllByRecursion-append P [] ys h g = g
AllByRecursion-append P (x ∷ xs) ys h g = (h.0, AllByRecursion-append P xs ys h.1 g)

first_comes : (t : ℕ) (before later : List Event) (e : Event) (o : Option Poll) → started t before e ≡ o → AllByRecursion (Comes t (before ++ e ∷ later)) (result_of (before ++ e ∷ []) later o)
first_comes t before later e None h = tt
first_comes t before later e (Some p) h = (record { before = before; start = e; later = later; among = refl; starts = h; goes = refl }, tt)

all_come : (t : ℕ) (before later : List Event) → AllByRecursion (Comes t (before ++ later)) (results t before later)
all_come t before [] = tt
all_come t before (e ∷ later) =
    let P : List Event → Type 0 = λ es. AllByRecursion (Comes t es) (results t (before ++ e ∷ []) later) in
    AllByRecursion-append (Comes t (before ++ e ∷ later)) (result_of (before ++ e ∷ []) later (started t before e)) (results t (before ++ e ∷ []) later)
    (first_comes t before later e (started t before e) refl)
    (subst P (append_assoc before (e ∷ []) later) (all_come t (before ++ e ∷ []) later))

who_waits : (t : ℕ) (es : List Event) (rs : List (Poll × Option Settlement)) → AllByRecursion (Comes t es) rs → AllByRecursion (Waits t es) (waiting rs)
who_waits t es [] h = tt
who_waits t es ((p, Some o) ∷ rs) h = who_waits t es rs h.1
who_waits t es ((p, None) ∷ rs) h =
    let c = h.0 in
    (record { before = c.before; start = c.start; later = c.later; among = c.among; starts = c.starts; unsettled = c.goes }, who_waits t es rs h.1)

all_from : {X : Type 0} (P : X → Type 0) (xs : List X) → AllByRecursion P xs → All P xs
all_from P [] h k d less = absurd (let l : k < 0 = less in omega arith)
all_from P (x ∷ xs) h zero d less = h.0
all_from P (x ∷ xs) h (suc k) d less = all_from P xs h.1 k d (let l : suc k < suc (length xs) = less in omega arith)

pub each_waits : (t : ℕ) (es : List Event) → All (Waits t es) (pending t es)
unfolding pending
each_waits t es = all_from (Waits t es) (pending t es) (who_waits t es (results t [] es) (all_come t [] es))
