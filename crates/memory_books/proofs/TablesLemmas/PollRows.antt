-- Lemmas: after one more record is added to a store, the updated tables of polls have the content
-- that follows from the store's records.
use Rattle.std.proofs.Common.{◌≡◌, ◌⊎◌, ℕ, ◌-◌, ◌<◌, ◌≤◌, ◌==◌, Bool, true, false, cond, ◌&&◌, not, List, [], ◌∷◌, ◌++◌, map, reverse, length, get_or, Option, None, refl, sym, ap, ◌∙◌, inl, inr, arith}
use Rattle.std.specs.Prelude.{is_some, slice_set}
use Rattle.std.specs.List.{find, filter, slice_get}
use Rattle.std.specs.Option.{option_map}
use Rattle.std.proofs.lemmas.Bool.{cases_Bool, cond-true, cond-false, eqb-true, ne_eqb}
use Rattle.std.proofs.lemmas.Bool.Decides.{nat_tests}
use Rattle.std.proofs.lemmas.Option.{slice_get_past}
use Rattle.std.proofs.lemmas.List.{map-append, length-map, length-reverse, set-append_left, get_or_append_left}
use Rattle.std.proofs.lemmas.List.Elements.{filter-append}
use Rattle.std.proofs.Math.Seq.{set-append_seam, get_or-append_seam}
use Rattle.office_events.specs.declared.facts.Poll.{Poll}
use Rattle.office_events.specs.declared.facts.EndedPoll.{EndedPoll}
use Rattle.office_events.specs.declared.facts.Fact.{Fact}
use Rattle.office_events.specs.declared.facts.Fact.TheVariants as fact
use Rattle.office_events.specs.declared.questions.PollRow.{PollRow}
use Rattle.office_books.specs.Facts.{polls_in, pending_in, ends_of, end_of}
use Rattle.office_books.specs.PollEndings.{AreNumbered}
use Rattle.office_books.specs.Lawful.{AreLawful, PollFits, EndFits}
use Rattle.office_books.specs.Readings.{poll_row, poll_row_of}
use Rattle.office_books.proofs.Lists.{reverse_cons, get_last, get_others}
use Rattle.memory_books.specs.Tables.Polls.{row_with_end, polls_but}

-- If a store's records are lawful (the rules for adding records accept each one after the earlier
-- ones), then its polls are numbered consecutively from 1.
pub numbered : (known : List Fact) → AreLawful known → AreNumbered (polls_in known)
numbered [] h = tt
numbered (fact.Device d ∷ known) h = numbered known h.1
numbered (fact.List l ∷ known) h = numbered known h.1
numbered (fact.Register r ∷ known) h = numbered known h.1
numbered (fact.Opening o ∷ known) h = numbered known h.1
numbered (fact.Entry b ∷ known) h = numbered known h.1
numbered (fact.Hold b ∷ known) h = numbered known h.1
numbered (fact.Void v ∷ known) h = numbered known h.1
numbered (fact.Poll p ∷ known) h = let fits : PollFits known p = h.0.0 in (fits.number, numbered known h.1)
numbered (fact.Outcome e ∷ known) h = numbered known h.1
numbered (fact.Reply r ∷ known) h = numbered known h.1

differ : (a b : ℕ) → a ≡ b → (a == b) ≡ false → ⊥
differ a b is apart = grind (arith, nat_tests)

-- If a poll is recorded, then its number is at least 1 and at most the number of polls.
pub number_within : (n : ℕ) (polls : List Poll) → AreNumbered polls → is_some (find (λ (poll : Poll). poll.number == n) polls) ≡ true → (1 ≤ n) × (n ≤ length polls)
number_within n [] h there = absurd (cc)
number_within n (p ∷ polls) h there =
    elim (cases_Bool (p.number == n)) [
      | inl e ↦ let is : p.number ≡ n = eqb-true _ _ e in (omega (arith, h.0), omega (arith, h.0))
      | inr e ↦
          let rest = number_within n polls h.1 (sym (ap is_some (cond-false _ _ _ e)) ∙ there) in
          (rest.0, omega (arith, rest.1))
    ]

-- True if the records have no outcome of the poll with the given number.
abbrev pub NoEnd : List Fact → ℕ → Type 0
NoEnd known n = (ends_of known n ≡ []) × (end_of known n ≡ None)

no_end_past : (known : List Fact) (e : EndedPoll) (n : ℕ) → (e.poll == n) ≡ false → NoEnd known n → NoEnd (fact.Outcome e ∷ known) n
no_end_past known e n other none = (cond-false _ _ _ other ∙ none.0, cond-false _ _ _ other ∙ none.1)

pub no_end_beyond : (known : List Fact) (n : ℕ) → AreLawful known → length (polls_in known) < n → NoEnd known n
no_end_beyond [] n h beyond = (refl, refl)
no_end_beyond (fact.Device d ∷ known) n h beyond = no_end_beyond known n h.1 beyond
no_end_beyond (fact.List l ∷ known) n h beyond = no_end_beyond known n h.1 beyond
no_end_beyond (fact.Register r ∷ known) n h beyond = no_end_beyond known n h.1 beyond
no_end_beyond (fact.Opening o ∷ known) n h beyond = no_end_beyond known n h.1 beyond
no_end_beyond (fact.Entry b ∷ known) n h beyond = no_end_beyond known n h.1 beyond
no_end_beyond (fact.Hold b ∷ known) n h beyond = no_end_beyond known n h.1 beyond
no_end_beyond (fact.Void v ∷ known) n h beyond = no_end_beyond known n h.1 beyond
no_end_beyond (fact.Poll p ∷ known) n h beyond = no_end_beyond known n h.1 (omega (arith, beyond))
no_end_beyond (fact.Outcome e ∷ known) n h beyond =
    let fits : EndFits known e = h.0.0 in
    let within = number_within e.poll (polls_in known) (numbered known h.1) fits.started in
    no_end_past known e n (ne_eqb e.poll n (λ is. omega (arith, within.1))) (no_end_beyond known n h.1 beyond)
no_end_beyond (fact.Reply r ∷ known) n h beyond = no_end_beyond known n h.1 beyond

abbrev pub row_so : Poll → Option EndedPoll → PollRow
row_so poll ended = record { poll = poll; ended = ended }

-- After a poll starts, the table of polls has its earlier rows, followed by the row of the new poll
-- without an outcome.
pub poll_comes : (known : List Fact) (p : Poll) → AreLawful (fact.Poll p ∷ known)
    → map (poll_row known) (reverse (polls_in known)) ++ row_so p None ∷ [] ≡ map (poll_row (fact.Poll p ∷ known)) (reverse (p ∷ polls_in known))
poll_comes known p h =
    let fits : PollFits known p = h.0.0 in
    let none = no_end_beyond known p.number h.1 (omega (arith, fits.number)) in
    ap (λ (o : Option EndedPoll). map (poll_row known) (reverse (polls_in known)) ++ row_so p o ∷ []) (sym none.1)
    ∙ sym (ap (map (poll_row known)) (reverse_cons p (polls_in known)) ∙ map-append (poll_row known) (reverse (polls_in known)) (p ∷ []))

-- After a poll gets its outcome, the rows of all other polls in the in-memory table (each poll with
-- its outcome, if any) are unchanged.
row_past : (known : List Fact) (e : EndedPoll) (p : Poll) → (e.poll == p.number) ≡ false → poll_row (fact.Outcome e ∷ known) p ≡ poll_row known p
row_past known e p other = ap (row_so p) (cond-false _ _ _ other)

row_there : (known : List Fact) (e : EndedPoll) (p : Poll) → (e.poll == p.number) ≡ true → poll_row (fact.Outcome e ∷ known) p ≡ row_with_end e (poll_row known p)
row_there known e p own = ap (row_so p) (cond-true _ _ _ own)

rows_past : (known : List Fact) (e : EndedPoll) (polls : List Poll) → AreNumbered polls → length polls < e.poll
    → map (poll_row (fact.Outcome e ∷ known)) (reverse polls) ≡ map (poll_row known) (reverse polls)
rows_past known e [] h beyond = refl
rows_past known e (p ∷ polls) h beyond =
    let one = row_past known e p (ne_eqb e.poll p.number (λ is. omega (arith, h.0))) in
    ap (map (poll_row (fact.Outcome e ∷ known))) (reverse_cons p polls)
    ∙ map-append (poll_row (fact.Outcome e ∷ known)) (reverse polls) (p ∷ [])
    ∙ ap (λ (rows : List PollRow). rows ++ poll_row (fact.Outcome e ∷ known) p ∷ []) (rows_past known e polls h.1 (omega (arith, h.0)))
    ∙ ap (λ (row : PollRow). map (poll_row known) (reverse polls) ++ row ∷ []) one
    ∙ sym (ap (map (poll_row known)) (reverse_cons p polls) ∙ map-append (poll_row known) (reverse polls) (p ∷ []))

-- The in-memory table of polls `rows` after the poll at index `i` got the outcome `e`. All other
-- polls are unchanged.
abbrev ended_in_place : EndedPoll → PollRow → List PollRow → ℕ → List PollRow
ended_in_place e d rows i = slice_set rows i (row_with_end e (get_or rows i d))

last_ends : (e : EndedPoll) (d : PollRow) (rows : List PollRow) (row : PollRow) (i : ℕ) → i ≡ length rows
    → ended_in_place e d (rows ++ row ∷ []) i ≡ rows ++ row_with_end e row ∷ []
last_ends e d rows row i is =
    ap (ended_in_place e d (rows ++ row ∷ [])) is
    ∙ ap (λ (r : PollRow). slice_set (rows ++ row ∷ []) (length rows) (row_with_end e r)) (get_or-append_seam rows row [] d)
    ∙ set-append_seam rows row [] (row_with_end e row)

earlier_ends : (e : EndedPoll) (d : PollRow) (rows : List PollRow) (row : PollRow) (i : ℕ) → i < length rows
    → ended_in_place e d (rows ++ row ∷ []) i ≡ ended_in_place e d rows i ++ row ∷ []
earlier_ends e d rows row i less =
    ap (λ (r : PollRow). slice_set (rows ++ row ∷ []) i (row_with_end e r)) (get_or_append_left rows (row ∷ []) d i less)
    ∙ set-append_left rows (row ∷ []) i _ less

rows_length : (known : List Fact) (polls : List Poll) → length (map (poll_row known) (reverse polls)) ≡ length polls
rows_length known polls = length-map (reverse polls) (poll_row known) ∙ length-reverse polls

rows_cons : (known : List Fact) (p : Poll) (polls : List Poll)
    → map (poll_row known) (reverse (p ∷ polls)) ≡ map (poll_row known) (reverse polls) ++ poll_row known p ∷ []
rows_cons known p polls = ap (map (poll_row known)) (reverse_cons p polls) ∙ map-append (poll_row known) (reverse polls) (p ∷ [])

end_comes_to : (known : List Fact) (e : EndedPoll) (polls : List Poll) (d : PollRow) → AreNumbered polls → 1 ≤ e.poll → e.poll ≤ length polls
    → ended_in_place e d (map (poll_row known) (reverse polls)) (e.poll - 1) ≡ map (poll_row (fact.Outcome e ∷ known)) (reverse polls)
end_comes_to known e [] d h low high = absurd (omega (arith, low, high))
end_comes_to known e (p ∷ polls) d h low high =
    let rows : List PollRow = map (poll_row known) (reverse polls) in
    let long : length rows ≡ length polls = rows_length known polls in
    ap (λ (rs : List PollRow). ended_in_place e d rs (e.poll - 1)) (rows_cons known p polls)
    ∙ elim (cases_Bool (e.poll == p.number)) [
      | inl own ↦
          let is : e.poll ≡ p.number = eqb-true _ _ own in
          last_ends e d rows (poll_row known p) (e.poll - 1) (omega (arith, long, h.0, is))
          ∙ ap (λ (rs : List PollRow). rs ++ row_with_end e (poll_row known p) ∷ []) (sym (rows_past known e polls h.1 (omega (arith, h.0, is))))
          ∙ ap (λ (row : PollRow). map (poll_row (fact.Outcome e ∷ known)) (reverse polls) ++ row ∷ []) (sym (row_there known e p own))
      | inr other ↦
          let ne : e.poll ≡ p.number → ⊥ = λ is. differ e.poll p.number is other in
          earlier_ends e d rows (poll_row known p) (e.poll - 1) (omega (arith, long, h.0, low, high, ne))
          ∙ ap (λ (rs : List PollRow). rs ++ poll_row known p ∷ []) (end_comes_to known e polls d h.1 low (omega (arith, h.0, high, ne)))
          ∙ ap (λ (row : PollRow). map (poll_row (fact.Outcome e ∷ known)) (reverse polls) ++ row ∷ []) (sym (row_past known e p other))
    ]
    ∙ sym (rows_cons (fact.Outcome e ∷ known) p polls)

first_of : {X : Type 0} (xs : List X) → 0 < length xs → X
first_of [] h = absurd (omega arith)
first_of (x ∷ xs) h = x

pub end_comes : (known : List Fact) (e : EndedPoll) (rows after : List PollRow) → AreLawful (fact.Outcome e ∷ known)
    → rows ≡ map (poll_row known) (reverse (polls_in known))
    → (1 ≤ e.poll → e.poll ≤ length rows → (d : PollRow) → after ≡ slice_set rows (e.poll - 1) (row_with_end e (get_or rows (e.poll - 1) d)))
    → after ≡ map (poll_row (fact.Outcome e ∷ known)) (reverse (polls_in known))
end_comes known e rows after h is ends =
    let fits : EndFits known e = h.0.0 in
    let within = number_within e.poll (polls_in known) (numbered known h.1) fits.started in
    let d : PollRow = poll_row known (first_of (polls_in known) (omega (arith, within.0, within.1))) in
    ends within.0 (omega (arith, within.1, ap length is, rows_length known (polls_in known))) d
    ∙ ap (λ (rs : List PollRow). ended_in_place e d rs (e.poll - 1)) is
    ∙ end_comes_to known e (polls_in known) d (numbered known h.1) within.0 within.1

-- The poll with number `n` has the index `n - 1` in the table of polls.
pub row_at_number : (known : List Fact) (polls : List Poll) (n : ℕ) → AreNumbered polls → 1 ≤ n
    → slice_get (map (poll_row known) (reverse polls)) (n - 1) ≡ option_map (poll_row known) (find (λ (poll : Poll). poll.number == n) polls)
row_at_number known [] n h low = refl
row_at_number known (p ∷ polls) n h low =
    let rows : List PollRow = map (poll_row known) (reverse polls) in
    let long : length rows ≡ length polls = rows_length known polls in
    ap (λ (rs : List PollRow). slice_get rs (n - 1)) (rows_cons known p polls)
    ∙ elim (cases_Bool (p.number == n)) [
      | inl own ↦
          let is : p.number ≡ n = eqb-true _ _ own in
          get_last rows (poll_row known p) (n - 1) (omega (arith, long, h.0, is))
          ∙ ap (option_map (poll_row known)) (sym (cond-true _ _ _ own))
      | inr other ↦
          get_others rows (poll_row known p) (n - 1) (λ at. differ p.number n (omega (arith, long, h.0, low, at)) other)
          ∙ row_at_number known polls n h.1 low
          ∙ ap (option_map (poll_row known)) (sym (cond-false _ _ _ other))
    ]

pub no_row_at_zero : (known : List Fact) → AreLawful known → poll_row_of known 0 ≡ None
no_row_at_zero known h = zero_at (polls_in known) (numbered known h)
  where
    zero_at : (polls : List Poll) → AreNumbered polls → option_map (poll_row known) (find (λ (poll : Poll). poll.number == 0) polls) ≡ None
    zero_at [] so = refl
    zero_at (p ∷ polls) so =
        ap (option_map (poll_row known)) (cond-false _ _ _ (ne_eqb p.number 0 (λ is. omega (arith, so.0)))) ∙ zero_at polls so.1

-- A conjunction with `false` is false.
and_false : (b : Bool) → (b && false) ≡ false
and_false true = refl
and_false false = refl

and_true : (b : Bool) → (b && true) ≡ b
and_true true = refl
and_true false = refl

still_waits : {X : Type 0} (b : Bool) (x : X) (xs : List X) → (length (cond b (x ∷ xs) xs) == 0) ≡ ((length xs == 0) && not b)
still_waits true x xs = ne_eqb (length (x ∷ xs)) 0 (λ e. omega arith) ∙ sym (and_false (length xs == 0))
still_waits false x xs = sym (and_true (length xs == 0))

filtered_step : {X : Type 0} (q : X → Bool) (x : X) (among all : List X) (a b c : Bool) → c ≡ (a && b) → q x ≡ b → filter q among ≡ all
    → filter q (cond a (x ∷ among) among) ≡ cond c (x ∷ all) all
filtered_step q x among all true b c is own so =
    ap (λ (d : Bool). cond d (x ∷ filter q among) (filter q among)) own ∙ ap (λ ys. cond b (x ∷ ys) ys) so
    ∙ ap (λ (d : Bool). cond d (x ∷ all) all) (sym is)
filtered_step q x among all false b c is own so = so ∙ ap (λ (d : Bool). cond d (x ∷ all) all) (sym is)

filtered_twice : {X : Type 0} (p q r : X → Bool) → ((x : X) → r x ≡ (p x && q x)) → (xs : List X) → filter q (filter p xs) ≡ filter r xs
filtered_twice p q r both [] = refl
filtered_twice p q r both (x ∷ xs) =
    filtered_step q x (filter p xs) (filter r xs) (p x) (q x) (r x) (both x) refl (filtered_twice p q r both xs)

pub ends_pending : (known : List Fact) (e : EndedPoll) → polls_but e.poll (pending_in known) ≡ pending_in (fact.Outcome e ∷ known)
ends_pending known e =
    filtered_twice (λ (poll : Poll). length (ends_of known poll.number) == 0) (λ (poll : Poll). not (e.poll == poll.number))
    (λ (poll : Poll). length (ends_of (fact.Outcome e ∷ known) poll.number) == 0)
    (λ (poll : Poll). still_waits (e.poll == poll.number) e (ends_of known poll.number)) (reverse (polls_in known))

pub polls_wait : (known : List Fact) (p : Poll) → AreLawful (fact.Poll p ∷ known) → pending_in known ++ p ∷ [] ≡ pending_in (fact.Poll p ∷ known)
polls_wait known p h =
    let fits : PollFits known p = h.0.0 in
    let none = no_end_beyond known p.number h.1 (omega (arith, fits.number)) in
    let waits : Poll → Bool = λ poll. length (ends_of known poll.number) == 0 in
    let passes : waits p ≡ true = ap (λ (es : List EndedPoll). length es == 0) none.0 in
    sym (
    ap (filter waits) (reverse_cons p (polls_in known)) ∙ filter-append waits (reverse (polls_in known)) (p ∷ [])
    ∙ ap (λ (ps : List Poll). filter waits (reverse (polls_in known)) ++ ps) (cond-true _ _ _ passes)
    )

-- A lookup of a poll in the table by its number finds the recorded poll with this number.
pub row_found : (known : List Fact) (rows : List PollRow) (n : ℕ) → AreLawful known → rows ≡ map (poll_row known) (reverse (polls_in known)) → 1 ≤ n
    → slice_get rows (n - 1) ≡ poll_row_of known n
row_found known rows n h is low =
    ap (λ (rs : List PollRow). slice_get rs (n - 1)) is ∙ row_at_number known (polls_in known) n (numbered known h) low

pub row_absent : (known : List Fact) (rows : List PollRow) (n : ℕ) → AreLawful known → rows ≡ map (poll_row known) (reverse (polls_in known))
    → (n < 1) ⊎ (length rows < n) → poll_row_of known n ≡ None
row_absent known rows n h is (inl none) =
    let zero_it : n ≡ 0 = omega (arith, none) in ap (poll_row_of known) zero_it ∙ no_row_at_zero known h
row_absent known rows n h is (inr past) =
    sym (row_found known rows n h is (omega (arith, past))) ∙ slice_get_past rows (n - 1) (omega (arith, past))
