-- Lemmas that the text of the sealed (digested) polls is unchanged after later polls and outcomes
-- are recorded.
use Rattle.std.proofs.Common.{◌≡◌, ℕ, suc, ◌+◌, ◌<◌, ◌≤◌, ◌==◌, ◌||◌, ◌⊎◌, inl, inr, Bool, true, false, nat_le, List, [], ◌∷◌, ◌++◌, length, if◌then◌else◌, Option, Some, None, refl, ap, subst, ◌∙◌, append_assoc, arith}
use Rattle.std.specs.List.{AllByRecursion}
use Rattle.std.proofs.lemmas.Bool.Decides.{nat_tests}
use Rattle.std.proofs.lemmas.List.Folds.{list_any-append}
use Rattle.table_seals.specs.declared.poll_values.Ending.{Ending}
use Rattle.table_seals.specs.declared.poll_values.PollNumbers.{PollNumbers}
use Rattle.table_seals.specs.Laws.{IsLater, AreLater, PollsStay}
use Rattle.table_seals.specs.PollReading.{ReadPoll}
use Rattle.table_seals.specs.PollTexts.{is_listed, poll_line, ending_text, unless_pending, poll_text, polls_text, text_then, polls_text_then, unless_ended, pending_of, pending_among}
use Rattle.table_seals.proofs.PollNumbers.{AreNumbered, numbered, is_up_to, is_beyond}

-- Lemmas on which poll numbers the list of pending polls (polls without an outcome) contains.

named_more : (xs ys : List ℕ) (n : ℕ) → is_listed (xs ++ ys) n ≡ (is_listed xs n || is_listed ys n)
named_more xs ys n = list_any-append (λ v. v == n) xs ys

or_false : (a b : Bool) → a ≡ false → b ≡ false → (a || b) ≡ false
or_false a b p q = ap (λ (x : Bool). x || b) p ∙ q

or_right : (a b : Bool) → b ≡ true → (a || b) ≡ true
or_right true b h = refl
or_right false b h = h

or_left : (a b : Bool) → a ≡ true → (a || b) ≡ true
or_left a b h = ap (λ (x : Bool). x || b) h

other : (m n : ℕ) → n < m → m == n ≡ false
other m n lt = grind (arith, nat_tests)

earlier : (m n : ℕ) → m < n → m == n ≡ false
earlier m n lt = grind (arith, nat_tests)

same : (m n : ℕ) → m ≡ n → m == n ≡ true
same m n is = grind (arith, nat_tests)

-- If polls are numbered from `k`, then the numbers of the pending polls among them do not include a
-- number below `k`.
not_among : (k n : ℕ) (polls : List ReadPoll) → AreNumbered k polls → n < k → is_listed (pending_among polls) n ≡ false
not_among k n [] h lt = refl
not_among k n (poll ∷ polls) h lt =
    named_more (pending_of poll) (pending_among polls) n
    ∙ or_false (is_listed (pending_of poll) n) (is_listed (pending_among polls) n) (first poll.ending)
    (not_among (suc k) n polls h.1 (omega (arith, lt)))
  where
    first : (ending : Option Ending) → is_listed (unless_ended poll.numbers.number ending) n ≡ false
    first None = let is = h.0 in or_false (poll.numbers.number == n) false (other poll.numbers.number n (omega (arith, is, lt))) refl
    first (Some ending) = refl

abbrev is_pending : Option Ending → Bool
is_pending None = true
is_pending (Some ending) = false

-- States that the list `pending` contains the number of the given poll if and only if this poll has
-- no outcome.
abbrev Names : List ℕ → ReadPoll → Type 0
Names pending poll = is_listed pending poll.numbers.number ≡ is_pending poll.ending

-- States that the list `front` of poll numbers contains no number that is `k` or greater.
abbrev NoneFrom : ℕ → List ℕ → Type 0
NoneFrom k front = (n : ℕ) → k ≤ n → is_listed front n ≡ false

front_more : (k : ℕ) (front : List ℕ) (poll : ReadPoll) → poll.numbers.number ≡ k → NoneFrom k front → NoneFrom (suc k) (front ++ pending_of poll)
front_more k front poll is none n le =
    named_more front (pending_of poll) n
    ∙ or_false (is_listed front n) (is_listed (pending_of poll) n) (none n (omega (arith, le))) (last poll.ending)
  where
    last : (ending : Option Ending) → is_listed (unless_ended poll.numbers.number ending) n ≡ false
    last None = or_false (poll.numbers.number == n) false (earlier poll.numbers.number n (omega (arith, is, le))) refl
    last (Some ending) = refl

names_first : (k : ℕ) (front rest : List ℕ) (poll : ReadPoll) (ending : Option Ending) → poll.numbers.number ≡ k → NoneFrom k front
    → is_listed rest poll.numbers.number ≡ false
    → is_listed (front ++ (unless_ended poll.numbers.number ending ++ rest)) poll.numbers.number ≡ is_pending ending
names_first k front rest poll None is none after =
    let n : ℕ = poll.numbers.number in
    named_more front (n ∷ rest) n
    ∙ or_right (is_listed front n) (is_listed (n ∷ rest) n) (or_left (n == n) (is_listed rest n) (same n n refl))
names_first k front rest poll (Some ending) is none after =
    let n : ℕ = poll.numbers.number in
    named_more front rest n ∙ or_false (is_listed front n) (is_listed rest n) (none n (omega (arith, is))) after

names_all : (k : ℕ) (front : List ℕ) (polls : List ReadPoll) → AreNumbered k polls → NoneFrom k front
    → AllByRecursion (Names (front ++ pending_among polls)) polls
names_all k front [] h none = tt
names_all k front (poll ∷ polls) h none =
    let is = h.0 in (
      names_first k front (pending_among polls) poll poll.ending h.0 none
          (not_among (suc k) poll.numbers.number polls h.1 (omega (arith, is))),
      subst (λ (pending : List ℕ). AllByRecursion (Names pending) polls) (append_assoc front (pending_of poll) (pending_among polls))
          (names_all (suc k) (front ++ pending_of poll) polls h.1 (front_more k front poll h.0 none)),
    )

-- Lemmas: if a poll gets an outcome after sealing (digesting), the text that it had before follows
-- from the poll and the list of polls that were pending at sealing.

ending_stays : (ending now : Option Ending) (b : Bool) → b ≡ is_pending ending → (ending ≡ None) ⊎ (now ≡ ending)
    → ending_text (unless_pending b now) ≡ ending_text ending
ending_stays None now b is h = ap (λ (x : Bool). ending_text (unless_pending x now)) is
ending_stays (Some ending) now b is (inl none) = absurd (cc)
ending_stays (Some ending) now b is (inr kept) =
    ap (λ (x : Bool). ending_text (unless_pending x now)) is ∙ ap ending_text kept

one_stays : (last : ℕ) (pending : List ℕ) (poll later : ReadPoll) → poll.numbers.number ≤ last → Names pending poll → IsLater poll later
    → text_then last pending later ≡ poll_text poll
one_stays last pending poll later le names h =
    let number : later.numbers.number ≡ poll.numbers.number = ap (λ (p : PollNumbers). p.number) h.numbers in
    let there : nat_le later.numbers.number last ≡ true = is_up_to later.numbers.number last (omega (arith, number, le)) in
    let named : is_listed pending later.numbers.number ≡ is_pending poll.ending = ap (λ (n : ℕ). is_listed pending n) number ∙ names in
    ap (λ (b : Bool). if b then poll_line later.numbers later.device ++ ending_text (unless_pending (is_listed pending later.numbers.number) later.ending) else []) there
    ∙ ap (λ (e : List ℕ). poll_line later.numbers later.device ++ e)
    (ending_stays poll.ending later.ending (is_listed pending later.numbers.number) named h.ending)
    ∙ ap (λ (p : PollNumbers). poll_line p later.device ++ ending_text poll.ending) h.numbers
    ∙ ap (λ (d : List ℕ). poll_line poll.numbers d ++ ending_text poll.ending) h.device

beyond : (k last : ℕ) (pending : List ℕ) (polls : List ReadPoll) → AreNumbered k polls → last < k → polls_text_then last pending polls ≡ []
beyond k last pending [] h lt = refl
beyond k last pending (poll ∷ polls) h lt =
    let is = h.0 in
    let past : nat_le poll.numbers.number last ≡ false = is_beyond poll.numbers.number last (omega (arith, is, lt)) in
    ap (λ (b : Bool). (if b then poll_line poll.numbers poll.device ++ ending_text (unless_pending (is_listed pending poll.numbers.number) poll.ending) else [])
    ++ polls_text_then last pending polls) past
    ∙ beyond (suc k) last pending polls h.1 (omega (arith, lt))

all_stay : (k last : ℕ) (pending : List ℕ) (polls later : List ReadPoll) → AreNumbered k polls → AreNumbered k later → AreLater polls later
    → k + length polls ≡ last + 1 → AllByRecursion (Names pending) polls → polls_text_then last pending later ≡ polls_text polls
all_stay k last pending [] later h g are is names =
    let none : length (let ps : List ReadPoll = [] in ps) ≡ 0 = refl in
    beyond k last pending later g (omega (arith, is, none))
all_stay k last pending (poll ∷ polls) [] h g are is names = absurd are
all_stay k last pending (poll ∷ polls) (now ∷ later) h g are is names =
    let long : length (poll ∷ polls) ≡ suc (length polls) = refl in
    let n = h.0 in
    ap (λ (t : List ℕ). t ++ polls_text_then last pending later) (one_stays last pending poll now (omega (arith, n, is, long)) names.0 are.0)
    ∙ ap (λ (t : List ℕ). poll_text poll ++ t) (all_stay (suc k) last pending polls later h.1 g.1 are.1 (omega (arith, is, long)) names.1)

pub polls_stay : PollsStay
polls_stay rows later_rows polls later is now are =
    all_stay 1 (length polls) (pending_among polls) polls later (numbered rows polls is) (numbered later_rows later now) are (omega arith)
    (names_all 1 [] polls (numbered rows polls is) (λ n le. refl))
