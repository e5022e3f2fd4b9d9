-- Lemmas: after one more record is added to a store, the updated cache of pending polls (without an
-- outcome) still has only polls that are pending in the store's records.
use Rattle.std.proofs.Common.{◌≡◌, ◌⊎◌, inl, inr, ℕ, ◌<◌, ◌≤◌, ◌==◌, true, false, List, [], ◌∷◌, length, is_some, Option, Some, None, refl, sym, ap, subst, ◌∙◌, Result, Ok, Err, OnOk, OnErr, arith}
use Rattle.std.specs.BTreeMap.{BTreeMap, get, Updates, IsUnchanged, is_at}
use Rattle.std.specs.Map.{lookup}
use Rattle.std.specs.List.{find}
use Rattle.std.specs.Option.{option_map}
use Rattle.std.specs.Ordering.{nat_cmp}
use Rattle.std.specs.Cmp.{unsigned_tied}
use Rattle.std.proofs.lemmas.Bool.{cases_Bool, cond-true, cond-false, eqb-true, ne_eqb}
use Rattle.std.proofs.lemmas.Bool.Decides.{nat_tests}
use Rattle.office_events.specs.declared.facts.Poll.{Poll}
use Rattle.office_events.specs.declared.facts.EndedPoll.{EndedPoll}
use Rattle.office_events.specs.declared.facts.Fact.{Fact}
use Rattle.office_events.specs.declared.facts.Fact.TheVariants as fact
use Rattle.office_events.specs.declared.questions.PollRow.{PollRow}
use Rattle.office_books.specs.Facts.{polls_in, poll_of, end_of}
use Rattle.office_books.specs.PollEndings.{AreNumbered}
use Rattle.office_books.specs.Lawful.{AreLawful, PollFits, EndFits}
use Rattle.office_books.specs.Readings.{poll_row, poll_row_of}
use Rattle.memory_books.specs.declared.kept.polls.Polls.{Polls}
use Rattle.memory_books.specs.Kept.Polls.{waiting_at, waits, PollsAreTrue, PollsChange}
use Rattle.memory_books.proofs.KeptLemmas.Answering.{none_and_some, some_one}

-- If a store's records are lawful (the rules for adding records accept each one after the earlier
-- ones), then its polls are numbered consecutively from 1.
numbered : (facts : List Fact) → AreLawful facts → AreNumbered (polls_in facts)
numbered [] h = tt
numbered (fact.Device d ∷ facts) h = numbered facts h.1
numbered (fact.List l ∷ facts) h = numbered facts h.1
numbered (fact.Register r ∷ facts) h = numbered facts h.1
numbered (fact.Opening o ∷ facts) h = numbered facts h.1
numbered (fact.Entry b ∷ facts) h = numbered facts h.1
numbered (fact.Hold b ∷ facts) h = numbered facts h.1
numbered (fact.Void v ∷ facts) h = numbered facts h.1
numbered (fact.Poll p ∷ facts) h = let fits : PollFits facts p = h.0.0 in (fits.number, numbered facts h.1)
numbered (fact.Outcome e ∷ facts) h = numbered facts h.1
numbered (fact.Reply r ∷ facts) h = numbered facts h.1

within : (n : ℕ) (polls : List Poll) → AreNumbered polls → is_some (find (λ (poll : Poll). poll.number == n) polls) ≡ true → n ≤ length polls
within n [] h there = absurd (cc)
within n (p ∷ polls) h there =
    elim (cases_Bool (p.number == n)) [
      | inl e ↦ let is : p.number ≡ n = eqb-true _ _ e in omega (arith, h.0)
      | inr e ↦ let rest = within n polls h.1 (sym (ap is_some (cond-false _ _ _ e)) ∙ there) in omega (arith, rest)
    ]

-- If a poll was not started, then it has no outcome.
no_end : (facts : List Fact) (n : ℕ) → AreLawful facts → length (polls_in facts) < n → end_of facts n ≡ None
no_end [] n h beyond = refl
no_end (fact.Device d ∷ facts) n h beyond = no_end facts n h.1 beyond
no_end (fact.List l ∷ facts) n h beyond = no_end facts n h.1 beyond
no_end (fact.Register r ∷ facts) n h beyond = no_end facts n h.1 beyond
no_end (fact.Opening o ∷ facts) n h beyond = no_end facts n h.1 beyond
no_end (fact.Entry b ∷ facts) n h beyond = no_end facts n h.1 beyond
no_end (fact.Hold b ∷ facts) n h beyond = no_end facts n h.1 beyond
no_end (fact.Void v ∷ facts) n h beyond = no_end facts n h.1 beyond
no_end (fact.Poll p ∷ facts) n h beyond = no_end facts n h.1 (omega (arith, beyond))
no_end (fact.Outcome e ∷ facts) n h beyond =
    let fits : EndFits facts e = h.0.0 in
    let low = within e.poll (polls_in facts) (numbered facts h.1) fits.started in
    cond-false _ _ _ (ne_eqb e.poll n (λ is. omega (arith, low))) ∙ no_end facts n h.1 beyond
no_end (fact.Reply r ∷ facts) n h beyond = no_end facts n h.1 beyond

abbrev row_so : Poll → Option EndedPoll → Option PollRow
row_so poll ended = Some (record { poll = poll; ended = ended })

-- If a lookup finds a poll, then the poll was started.
was_started : (facts : List Fact) (n : ℕ) (found : Option Poll) (row : PollRow) → poll_of facts n ≡ found → option_map (poll_row facts) found ≡ Some row
    → is_some (poll_of facts n) ≡ true
was_started facts n None row at is = absurd (cc)
was_started facts n (Some p) row at is = ap is_some at

-- Directly after a poll is started, it is pending (without an outcome).
starts : (p : Poll) (facts : List Fact) → AreLawful (fact.Poll p ∷ facts) → poll_row_of (fact.Poll p ∷ facts) p.number ≡ Some (waits p)
starts p facts h =
    let fits : PollFits facts p = h.0.0 in
    let own : (p.number == p.number) ≡ true = grind (arith, nat_tests) in
    ap (option_map (poll_row (fact.Poll p ∷ facts))) (cond-true _ _ _ own) ∙ ap (row_so p) (no_end facts p.number h.1 (omega (arith, fits.number)))

-- After one poll is started, the rows of all other polls (each poll with its outcome, if any) are
-- unchanged.
others : (p : Poll) (facts : List Fact) (n : ℕ) → (p.number == n) ≡ false → poll_row_of (fact.Poll p ∷ facts) n ≡ poll_row_of facts n
others p facts n apart = ap (option_map (poll_row facts)) (cond-false _ _ _ apart)

known_before : (p : Poll) (facts : List Fact) (n : ℕ) (row : PollRow) → AreLawful (fact.Poll p ∷ facts) → poll_row_of facts n ≡ Some row → (p.number == n) ≡ false
known_before p facts n row h is =
    let fits : PollFits facts p = h.0.0 in
    let low = within n (polls_in facts) (numbered facts h.1) (was_started facts n (poll_of facts n) row refl is) in
    ne_eqb p.number n (λ same. omega (arith, low, same, fits.number))

poll_comes : (p : Poll) (facts : List Fact) (old new : Polls) → AreLawful (fact.Poll p ∷ facts) → PollsChange (fact.Poll p) old new
    → PollsAreTrue old facts → PollsAreTrue new (fact.Poll p ∷ facts)
poll_comes p facts old new h changes are = record {
  waiting = λ n q is.
      elim (changes.0 n) [
        | inl as_it_was ↦
            let before = are.waiting n q (sym as_it_was ∙ is) in
            others p facts n (known_before p facts n (waits q) h before) ∙ before
        | inr this ↦
            let same_one : p ≡ q = some_one p q (sym this.1 ∙ is) in
            subst (λ (m : ℕ). poll_row_of (fact.Poll p ∷ facts) m ≡ Some (waits q)) (sym this.0)
            (subst (λ (r : Poll). poll_row_of (fact.Poll p ∷ facts) p.number ≡ Some (waits r)) same_one (starts p facts h))
      ];
  started = λ count is.
      let less = changes.1 count is in
      let was = are.started less.0 less.1 in
      let more = less.2 in
      omega (arith, was, more);
}

-- A pending poll (one without an outcome) is still pending after another poll ends.
still_waits : (e : EndedPoll) (facts : List Fact) (n : ℕ) (found : Option Poll) → (e.poll == n) ≡ false
    → ((poll : Poll) → found ≡ Some poll → poll.number ≡ n)
    → option_map (poll_row (fact.Outcome e ∷ facts)) found ≡ option_map (poll_row facts) found
still_waits e facts n None apart own = refl
still_waits e facts n (Some p) apart own =
    let is : p.number ≡ n = own p refl in
    ap (row_so p) (cond-false _ _ _ (subst (λ (m : ℕ). (e.poll == m) ≡ false) (sym is) apart))

own_number : (n : ℕ) (polls : List Poll) (p : Poll) → find (λ (poll : Poll). poll.number == n) polls ≡ Some p → p.number ≡ n
own_number n [] p is = absurd (cc)
own_number n (q ∷ polls) p is =
    elim (cases_Bool (q.number == n)) [
      | inl e ↦
          let same_one : q ≡ p = some_one q p (sym (cond-true _ _ _ e) ∙ is) in
          subst (λ (r : Poll). r.number ≡ n) same_one (eqb-true _ _ e)
      | inr e ↦ own_number n polls p (sym (cond-false _ _ _ e) ∙ is)
    ]

end_comes : (e : EndedPoll) (facts : List Fact) (old new : Polls) → PollsChange (fact.Outcome e) old new
    → PollsAreTrue old facts → PollsAreTrue new (fact.Outcome e ∷ facts)
end_comes e facts old new changes are = record {
  waiting = λ n q is.
      elim (cases_Bool (e.poll == n)) [
        | inl own ↦ none_and_some (waiting_at new n) q (subst (λ (m : ℕ). waiting_at new m ≡ None) (eqb-true _ _ own) changes.0.gone) is
        | inr apart ↦
            still_waits e facts n (poll_of facts n) apart (own_number n (polls_in facts))
            ∙ are.waiting n q (sym (changes.0.others n apart) ∙ is)
      ];
  started = λ count is. are.started count (sym changes.1 ∙ is);
}

-- If a new record is neither a start nor an outcome of a poll, then the cached pending polls and
-- number of polls remain unchanged. They still match the records, which include the new one.
quiet : (f : Fact) (facts : List Fact) (old new : Polls) → ((n : ℕ) → poll_row_of (f ∷ facts) n ≡ poll_row_of facts n)
    → polls_in (f ∷ facts) ≡ polls_in facts → new ≡ old → PollsAreTrue old facts → PollsAreTrue new (f ∷ facts)
quiet f facts old new rows polls same_one are =
    subst (λ (kept : Polls). PollsAreTrue kept (f ∷ facts)) (sym same_one)
    (record { waiting = λ n q is. rows n ∙ are.waiting n q is; started = λ count is. are.started count is ∙ sym (ap length polls) })

pub polls_come : (f : Fact) (facts : List Fact) (old new : Polls) → AreLawful (f ∷ facts) → PollsChange f old new
    → PollsAreTrue old facts → PollsAreTrue new (f ∷ facts)
polls_come (fact.Poll p) facts old new lawful changes are = poll_comes p facts old new lawful changes are
polls_come (fact.Outcome e) facts old new lawful changes are = end_comes e facts old new changes are
polls_come (fact.Device d) facts old new lawful changes are = quiet (fact.Device d) facts old new (λ n. refl) refl changes are
polls_come (fact.List put) facts old new lawful changes are = quiet (fact.List put) facts old new (λ n. refl) refl changes are
polls_come (fact.Register r) facts old new lawful changes are = quiet (fact.Register r) facts old new (λ n. refl) refl changes are
polls_come (fact.Opening o) facts old new lawful changes are = quiet (fact.Opening o) facts old new (λ n. refl) refl changes are
polls_come (fact.Entry b) facts old new lawful changes are = quiet (fact.Entry b) facts old new (λ n. refl) refl changes are
polls_come (fact.Hold b) facts old new lawful changes are = quiet (fact.Hold b) facts old new (λ n. refl) refl changes are
polls_come (fact.Void v) facts old new lawful changes are = quiet (fact.Void v) facts old new (λ n. refl) refl changes are
polls_come (fact.Reply r) facts old new lawful changes are = quiet (fact.Reply r) facts old new (λ n. refl) refl changes are

-- After a started poll is cached, at most the cached poll with its number has changed, even if
-- memory ran out.
pub poll_in : {E : Type 0} (r : Result (Option Poll) E) (old new : BTreeMap ℕ Poll) (p : Poll)
    → OnOk r (Updates nat_cmp old new p.number (Some p)) → OnErr r (IsUnchanged old new) → (n : ℕ)
    → (get nat_cmp new n ≡ get nat_cmp old n) ⊎ ((n ≡ p.number) × (get nat_cmp new n ≡ Some p))
poll_in (Ok was) old new p ok err n =
    elim (cases_Bool (p.number == n)) [
      | inl e ↦ inr (sym (eqb-true _ _ e), ok.0 n ∙ cond-true _ _ _ (unsigned_tied p.number n ∙ e))
      | inr apart ↦ inl (ok.2 n (unsigned_tied p.number n ∙ apart))
    ]
poll_in (Err e) old new p ok err n = inl (ap (λ (es : List (ℕ × Poll)). lookup (is_at (nat_cmp n)) es) err)

-- If a lookup returned the number of polls, and this number is then cached, the cached polls and
-- their number still follow from the records.
pub count_kept : (old new : Polls) (facts : List Fact) (count : ℕ) → new.waiting ≡ old.waiting → new.started ≡ Some count
    → count ≡ length (polls_in facts) → PollsAreTrue old facts → PollsAreTrue new facts
count_kept old new facts count waiting started is are = record {
  waiting = λ n p there. are.waiting n p (sym (ap (λ (m : BTreeMap ℕ Poll). get nat_cmp m n) waiting) ∙ there);
  started = λ n there. some_one n count (sym there ∙ started) ∙ is;
}
