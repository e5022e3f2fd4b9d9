-- Lemmas that polls have consecutive numbers from 1 if they were read without an error.
use Rattle.std.proofs.Common.{◌≡◌, ℕ, suc, ◌+◌, ◌<◌, ◌≤◌, ◌==◌, Bool, true, false, nat_le, List, [], ◌∷◌, ◌++◌, length, if◌then◌else◌, Option, Some, None, Result, Ok, Err, refl, sym, ap, subst, ◌∙◌, arith}
use Rattle.std.specs.Prelude.{⊤}
use Rattle.std.specs.List.{fold}
use Rattle.std.proofs.lemmas.Bool.Decides.{nat_tests}
use Rattle.sqlite.specs.Order.{Row}
use Rattle.store_tables.specs.declared.faults.RowFault.{RowFault}
use Rattle.table_audit.specs.declared.poll_rows.RunRows.{RunRows}
use Rattle.table_seals.specs.declared.poll_values.Ending.{Ending}
use Rattle.table_seals.specs.declared.poll_values.PollNumbers.{PollNumbers}
use Rattle.table_seals.specs.PollReading.{ReadPoll, ending_at, rows_after, if_numbered, poll_at, and_more, polls_in, after, with_run, polls_of, numbers_in, word_in}
use Rattle.table_seals.specs.PollTexts.{poll_text, polls_text, text_then, polls_text_then}
use Rattle.sqlite.specs.Order.{column}

abbrev pub AreNumbered : (next : ℕ) → List ReadPoll → Type 0
AreNumbered next [] = ⊤
AreNumbered next (poll ∷ polls) = (poll.numbers.number ≡ next) × AreNumbered (suc next) polls

equal : (m n : ℕ) → m == n ≡ true → m ≡ n
equal m n h = grind (arith, nat_tests)

same : (m n : ℕ) → m ≡ n → m == n ≡ true
same m n is = grind (arith, nat_tests)

pub is_up_to : (m n : ℕ) → m ≤ n → nat_le m n ≡ true
is_up_to m n le = grind (arith, nat_tests)

pub is_beyond : (m n : ℕ) → n < m → nat_le m n ≡ false
is_beyond m n lt = grind (arith, nat_tests)

if_some : {A : Type 0} (b : Bool) (a x : A) → (let o : Option A = if b then Some a else None in o) ≡ Some x → (b ≡ true) × (a ≡ x)
if_some true a x h = (refl, cc)
if_some false a x h = absurd (cc)

numbered_if : (number : ℕ) (found : Result PollNumbers RowFault) (word : Option (List ℕ)) (ending : Option Ending) (poll : ReadPoll)
    → if_numbered number found word ending ≡ Some poll → poll.numbers.number ≡ number
numbered_if number (Err e) word ending poll h = absurd (cc)
numbered_if number (Ok numbers) None ending poll h = absurd (cc)
numbered_if number (Ok numbers) (Some device) ending poll h =
    let made : ReadPoll = record { numbers = numbers; device = device; ending = ending } in
    let k = if_some (numbers.number == number) made poll h in
    sym (ap (λ (p : ReadPoll). p.numbers.number) k.1) ∙ equal numbers.number number k.0

pub poll_read : (number : ℕ) (row : Row) (ending : Option Ending) (numbers : PollNumbers) (device : List ℕ) → numbers_in row ≡ Ok numbers
    → word_in (column row 7) ≡ Some device → numbers.number ≡ number
    → poll_at number row ending ≡ Some (record { numbers = numbers; device = device; ending = ending })
poll_read number row ending numbers device n w is =
    let made : ReadPoll = record { numbers = numbers; device = device; ending = ending } in
    let equal : numbers.number == number ≡ true = same numbers.number number is in
    ap (λ (r : Result PollNumbers RowFault). if_numbered number r (word_in (column row 7)) ending) n
    ∙ ap (λ (word : Option (List ℕ)). if_numbered number (Ok numbers) word ending) w
    ∙ ap (λ (b : Bool). let o : Option ReadPoll = if b then Some made else None in o) equal

more_is : (o : Option ReadPoll) (more : Option (List ReadPoll)) (polls : List ReadPoll) → and_more o more ≡ Some polls
    → (first : ReadPoll) × (rest : List ReadPoll) × (o ≡ Some first) × (more ≡ Some rest) × (first ∷ rest ≡ polls)
more_is None more polls h = absurd (cc)
more_is (Some first) None polls h = absurd (cc)
more_is (Some first) (Some rest) polls h = (first, rest, refl, refl, cc)

pub numbered_in : (next : ℕ) (rows outcomes : List Row) (polls : List ReadPoll) → polls_in next rows outcomes ≡ Some polls → AreNumbered next polls
numbered_in next [] [] polls h = let none : (let ps : List ReadPoll = [] in ps) ≡ polls = cc in subst (AreNumbered next) none tt
numbered_in next [] (row ∷ rows) polls h = absurd (cc)
numbered_in next (row ∷ rows) outcomes polls h =
    let k = more_is (poll_at next row (ending_at next outcomes)) (polls_in (suc next) rows (rows_after (ending_at next outcomes) outcomes)) polls h in
    subst (AreNumbered next) k.4 (
      numbered_if next (numbers_in row) (word_in (column row 7)) (ending_at next outcomes) k.0 k.2,
      numbered_in (suc next) rows (rows_after (ending_at next outcomes) outcomes) k.1 k.3,
    )

numbered_more : (k n : ℕ) (polls more : List ReadPoll) → AreNumbered k polls → n ≡ k + length polls → AreNumbered n more → AreNumbered k (polls ++ more)
numbered_more k n [] more h is g =
    let none : length (let ps : List ReadPoll = [] in ps) ≡ 0 = refl in
    let same : n ≡ k = omega (arith, is, none) in subst (λ (m : ℕ). AreNumbered m more) same g
numbered_more k n (poll ∷ polls) more h is g =
    let long : length (poll ∷ polls) ≡ suc (length polls) = refl in
    (h.0, numbered_more (suc k) n polls more h.1 (omega (arith, is, long)) g)

pub none_stays : (runs : List RunRows) → fold with_run None runs ≡ None
none_stays [] = refl
none_stays (rows ∷ runs) = none_stays runs

run_numbered : (done polls : List ReadPoll) (runs : List RunRows) (found : Option (List ReadPoll))
    → ((more : List ReadPoll) → found ≡ Some more → AreNumbered (length done + 1) more) → AreNumbered 1 done
    → ((all : List ReadPoll) → AreNumbered 1 all → fold with_run (Some all) runs ≡ Some polls → AreNumbered 1 polls)
    → fold with_run (after done found) runs ≡ Some polls → AreNumbered 1 polls
run_numbered done polls runs None are h others is =
    absurd (let none : (let o : Option (List ReadPoll) = None in o) ≡ Some polls = sym (none_stays runs) ∙ is in cc)
run_numbered done polls runs (Some more) are h others is =
    others (done ++ more) (numbered_more 1 (length done + 1) done more h (omega arith) (are more refl)) is

numbered_after : (runs : List RunRows) (done polls : List ReadPoll) → AreNumbered 1 done → fold with_run (Some done) runs ≡ Some polls
    → AreNumbered 1 polls
numbered_after [] done polls h is = let same : done ≡ polls = cc in subst (AreNumbered 1) same h
numbered_after (rows ∷ runs) done polls h is =
    run_numbered done polls runs (polls_in (length done + 1) rows.polls.items rows.outcomes.items)
    (λ more found. numbered_in (length done + 1) rows.polls.items rows.outcomes.items more found) h
    (λ all g same. numbered_after runs all polls g same) is

pub numbered : (runs : List RunRows) (polls : List ReadPoll) → polls_of runs ≡ Some polls → AreNumbered 1 polls
numbered runs polls is = numbered_after runs [] polls tt is

-- Lemmas that the digested text of polls is the text of all these polls, if no poll is later than
-- the last sealed poll and no outcome is left out.

pub all_then : (k last : ℕ) (polls : List ReadPoll) → AreNumbered k polls → k + length polls ≤ last + 1 → polls_text_then last [] polls ≡ polls_text polls
all_then k last [] h le = refl
all_then k last (poll ∷ polls) h le =
    let long : length (poll ∷ polls) ≡ suc (length polls) = refl in
    let n = h.0 in
    let there : nat_le poll.numbers.number last ≡ true = is_up_to poll.numbers.number last (omega (arith, le, long, n)) in
    let one : text_then last [] poll ≡ poll_text poll = ap (λ (b : Bool). if b then poll_text poll else []) there in
    ap (λ (t : List ℕ). t ++ polls_text_then last [] polls) one
    ∙ ap (λ (t : List ℕ). poll_text poll ++ t) (all_then (suc k) last polls h.1 (omega (arith, le, long)))
