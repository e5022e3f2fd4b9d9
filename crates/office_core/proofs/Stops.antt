-- Lemmas that after a crash the store has all records of an event or none.
use Rattle.std.proofs.Common.{◌≡◌, ◌⊎◌, ℕ, true, List, [], ◌∷◌, inl, inr, refl, sym, subst, ◌∙◌, Result, Ok, Err, arith}
use Rattle.std.specs.Prelude.{Contains}
use Rattle.std.proofs.lemmas.List.Elements.{Contains-get_or, Contains-push_cases}
use Rattle.office_events.specs.declared.answers.Answer.{Answer}
use Rattle.office_events.specs.declared.answers.Answer.TheVariants as answer
use Rattle.office_events.specs.declared.events.Event.{Event}
use Rattle.office_events.specs.declared.facts.Fact.{Fact}
use Rattle.office_events.specs.declared.refusals.Refusal.{Refusal}
use Rattle.office_events.specs.declared.refusals.Refusal.TheVariants as refusal
use Rattle.office_books.specs.History.{History, Accepted, Opened, Fed, facts_of}
use Rattle.office_books.specs.Refusals.{with_answer}
use Rattle.office_books.specs.Lawfulness.{IsPast}
use Rattle.office_core.specs.Failing.{is_failure}
use Rattle.office_core.specs.Leaving.{LeftOnceDone, LeftOnceFailed, LeftByEvent}
use Rattle.office_core.specs.EventRun.{Answered, LeftInTurn, history_after}
use Rattle.office_core.specs.Stopping.{AreOfEvents, AreOfBefore, EventsAreLeftWhole, RunsAreLeftWhole}

abbrev Lists : Type 0
Lists = List (List Fact)

-- True if the event `e` failed, and `facts` are the records that the store would have if the event
-- had been accepted. The store may have these records after a crash.
record IsOfOne (past : History) (at : ℕ) (e : Event) (result : Result Answer Refusal) (facts : List Fact) : Type 0 where
  failed : is_failure result ≡ true
  stays : with_answer past at e result ≡ past
  is_past : IsPast (Fed at e ∷ past)
  are : facts ≡ facts_of (Fed at e ∷ past)

abbrev ComesFrom : History → (at : ℕ) → Event → Result Answer Refusal → (before : Lists) → List Fact → Type 0
ComesFrom past at e result before facts =
    (facts ≡ facts_of (with_answer past at e result))
    ⊎ (IsOfOne past at e result facts ⊎ ((facts_of (with_answer past at e result) ≡ facts_of past) × Contains before facts))

no_facts : (facts : List Fact) → Contains [] facts → ⊥
no_facts facts has = omega (arith, has.1)

is_only : (only facts : List Fact) → Contains (only ∷ []) facts → facts ≡ only
is_only only facts has = elim (Contains-push_cases [] only facts has) [
  | inl none ↦ absurd (no_facts facts none)
  | inr is ↦ sym is
]

-- After an accepted event or opening of the store, a crash leaves the records including those of
-- this event. If the event added no record, a crash may also leave any records that it could leave
-- before the event.
once_done : (past : History) (next : Accepted) (before after : Lists) (facts : List Fact) → LeftOnceDone past next before after → Contains after facts
    → (facts ≡ facts_of (next ∷ past)) ⊎ ((facts_of (next ∷ past) ≡ facts_of past) × Contains before facts)
once_done past next before after facts (inl is) has =
    inl (is_only (facts_of (next ∷ past)) facts (subst (λ (ls : Lists). Contains ls facts) is has))
once_done past next before after facts (inr same) has = inr (same.0, subst (λ (ls : Lists). Contains ls facts) same.1 has)

of_done : (past : History) (at : ℕ) (e : Event) (result : Result Answer Refusal) (before after : Lists) (facts : List Fact)
    → with_answer past at e result ≡ Fed at e ∷ past → LeftOnceDone past (Fed at e) before after → Contains after facts
    → ComesFrom past at e result before facts
of_done past at e result before after facts follows left has = elim (once_done past (Fed at e) before after facts left has) [
  | inl is ↦ inl (subst (λ h. facts ≡ facts_of h) (sym follows) is)
  | inr same ↦ inr (inr (subst (λ h. facts_of h ≡ facts_of past) (sym follows) same.0, same.1))
]

of_failed : (past : History) (at : ℕ) (e : Event) (why : Refusal) (before after : Lists) (facts : List Fact)
    → is_failure {T = Answer} (Err why) ≡ true → LeftOnceFailed past (Fed at e) before after → Contains after facts
    → ComesFrom past at e (Err why) before facts
of_failed past at e why before after facts fails (inl same) has = inr (inr (refl, subst (λ (ls : Lists). Contains ls facts) same has))
of_failed past at e why before after facts fails (inr more) has =
    elim (Contains-push_cases before (facts_of (Fed at e ∷ past)) facts (subst (λ (ls : Lists). Contains ls facts) more.1 has)) [
      | inl old ↦ inr (inr (refl, old))
      | inr is ↦ inr (inl (record { failed = fails; stays = refl; is_past = more.0; are = sym is }))
    ]

of_same : (past : History) (at : ℕ) (e : Event) (result : Result Answer Refusal) (before after : Lists) (facts : List Fact)
    → with_answer past at e result ≡ past → after ≡ before → Contains after facts → ComesFrom past at e result before facts
of_same past at e result before after facts stays same has =
    inr (inr (subst (λ h. facts_of h ≡ facts_of past) (sym stays) refl, subst (λ (ls : Lists). Contains ls facts) same has))

of_one : (past : History) (at : ℕ) (e : Event) (result : Result Answer Refusal) (before after : Lists) (facts : List Fact)
    → LeftByEvent past at e result before after → Contains after facts → ComesFrom past at e result before facts
of_one past at e (Ok (answer.Again kind)) before after facts left has = of_same past at e (Ok (answer.Again kind)) before after facts refl left has
of_one past at e (Ok given) before after facts left has = of_done past at e (Ok given) before after facts refl left has
of_one past at e (Err (refusal.Store why)) before after facts left has = of_failed past at e (refusal.Store why) before after facts refl left has
of_one past at e (Err refusal.Memory) before after facts left has = of_failed past at e refusal.Memory before after facts refl left has
of_one past at e (Err why) before after facts left has = of_same past at e (Err why) before after facts refl left has

-- Suppose that no event of a list added a record, except possibly the first. Then a crash leaves
-- the records of the list's events. If the first event added no record either, a crash may leave
-- records from before the list.
of_first : (past : History) (fed : Answered) (later : List Answered) (before : Lists) (facts : List Fact)
    → facts_of (history_after past (fed ∷ later)) ≡ facts_of (with_answer past fed.at fed.event fed.result)
    → ComesFrom past fed.at fed.event fed.result before facts
    → AreOfEvents past (fed ∷ later) facts ⊎ AreOfBefore past (history_after past (fed ∷ later)) before facts
of_first past fed later before facts same (inl is) = inl (inl (is ∙ sym same))
of_first past fed later before facts same (inr (inl one)) =
    inl (inr (inl (record {
      failed = one.failed;
      is_past = one.is_past;
      none_later = same ∙ subst (λ h. facts_of h ≡ facts_of past) (sym one.stays) refl;
      are = one.are;
    })))
of_first past fed later before facts same (inr (inr old)) = inr (same ∙ old.0, old.1)

then_later : (past : History) (fed : Answered) (later : List Answered) (before between : Lists) (facts : List Fact)
    → LeftByEvent past fed.at fed.event fed.result before between
    → AreOfEvents (with_answer past fed.at fed.event fed.result) later facts
    ⊎ AreOfBefore (with_answer past fed.at fed.event fed.result) (history_after past (fed ∷ later)) between facts
    → AreOfEvents past (fed ∷ later) facts ⊎ AreOfBefore past (history_after past (fed ∷ later)) before facts
then_later past fed later before between facts left (inl (inl is)) = inl (inl is)
then_later past fed later before between facts left (inl (inr failed)) = inl (inr (inr failed))
then_later past fed later before between facts left (inr old) =
    of_first past fed later before facts old.0 (of_one past fed.at fed.event fed.result before between facts left old.1)

left_whole : (past : History) (fed : List Answered) (before after : Lists) (facts : List Fact) → LeftInTurn past fed before after → Contains after facts
    → AreOfEvents past fed facts ⊎ AreOfBefore past (history_after past fed) before facts
left_whole past [] before after facts left has = inr (refl, subst (λ (ls : Lists). Contains ls facts) left has)
left_whole past (fed ∷ later) before after facts left has =
    then_later past fed later before left.0 facts left.1
    (left_whole (with_answer past fed.at fed.event fed.result) later left.0 after facts left.2 has)

pub events_left : EventsAreLeftWhole
events_left past fed before after left = λ k d less. left_whole past fed before after _ left (Contains-get_or after k d less)

-- After a run of events, a crash leaves the records of the opening of the store and of the events.
-- If no record was added, a crash may leave records from before the run.
opened_first : (past : History) (opened : ℕ) (fed : List Answered) (before between : Lists) (facts : List Fact) → LeftOnceDone past (Opened opened) before between
    → AreOfEvents (Opened opened ∷ past) fed facts ⊎ AreOfBefore (Opened opened ∷ past) (history_after (Opened opened ∷ past) fed) between facts
    → AreOfEvents (Opened opened ∷ past) fed facts ⊎ AreOfBefore past (history_after (Opened opened ∷ past) fed) before facts
opened_first past opened fed before between facts left (inl events) = inl events
opened_first past opened fed before between facts left (inr old) = elim (once_done past (Opened opened) before between facts left old.1) [
  | inl is ↦ inl (inl (is ∙ sym old.0))
  | inr same ↦ inr (old.0 ∙ same.0, same.1)
]

pub runs_left : RunsAreLeftWhole
runs_left past opened fed before after left = λ k d less.
    let has = Contains-get_or after k d less in
    opened_first past opened fed before left.0 _ left.1 (left_whole (Opened opened ∷ past) fed left.0 after _ left.2 has)
