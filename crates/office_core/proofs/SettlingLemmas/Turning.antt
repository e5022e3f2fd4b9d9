-- Properties of the loop over the outcomes of polls that one event causes on a session, the
-- connection of a device.
use Rattle.std.proofs.Common.{◌≡◌, ℕ, ◌+◌, ◌-◌, ◌≤◌, inl, inr, List, [], ◌∷◌, ◌++◌, length, take, drop, refl, sym, ap, ◌∙◌, subst, arith, Option, Some, None, append_assoc, length-drop}
use Rattle.std.proofs.lemmas.List.{append-nil, take_rest, take_all, take-append-drop}
use Rattle.std.proofs.Math.Seq.{take-add}
use Rattle.poll_core.specs.Settling.{Event, Piece, Settlement, moment_of, outcomes_at}
use Rattle.poll_core.specs.Standing.{State, Stands, Within, Before, After, owed}
use Rattle.poll_core.specs.Reporting.{ReportsOfCall as ReportsOn, IsCall}
use Rattle.poll_core.specs.declared.outcome.Call.{Call}
use Rattle.office_events.specs.declared.facts.Fact.{Fact}
use Rattle.office_books.specs.History.{with_outcome, with_outcomes}
use Rattle.office_books.specs.Notes.{outcome_notes, outcomes_notes}
use Rattle.office_core.specs.declared.settling.drafts.PendingWrite.{PendingWrite}
use Rattle.office_core.specs.Settling.Drafts.{Grows}
use Rattle.office_core.specs.Settling.Settling.{SettlesNothing, ReportsSettled}
use Rattle.office_core.proofs.SettlingLemmas.Growing.{stays, grows_like, grows_then, before_outcome}

outcomes-append : (at : ℕ) (xs ys : List (ℕ × Settlement)) (facts : List Fact)
    → with_outcomes at (xs ++ ys) facts ≡ with_outcomes at ys (with_outcomes at xs facts)
outcomes-append at [] ys facts = refl
outcomes-append at (x ∷ xs) ys facts = outcomes-append at xs ys (with_outcome at x facts)

notes-append : (at : ℕ) (xs ys : List (ℕ × Settlement)) (facts : List Fact)
    → outcomes_notes at (xs ++ ys) facts ≡ outcomes_notes at xs facts ++ outcomes_notes at ys (with_outcomes at xs facts)
notes-append at [] ys facts = refl
notes-append at (x ∷ xs) ys facts =
    ap (λ zs. outcome_notes at x facts ++ zs) (notes-append at xs ys (with_outcome at x facts))
    ∙ sym (append_assoc (outcome_notes at x facts) _ _)

-- The state of the loop over the poll outcomes of one event. The Modbus session has not finished
-- the event, and the pending write (records not yet stored) has the outcomes so far. If no outcome
-- was found, nothing has changed.
pub record Turned (holds : List Fact → Type 0) (clean unchanged : Type 0) (old now : State) (happening : Event) (call : Call) (first draft : PendingWrite) : Type 0 where
  pub call_is : IsCall call now (moment_of happening)
  pub timeout : now.timeout ≡ old.timeout
  pub window : now.window ≡ old.window
  pub reported : List (ℕ × Settlement)
  pub within : (events : List Event) → Stands old events → Before now events happening reported
  pub on : Grows holds clean first draft (with_outcomes (moment_of happening) reported) (outcomes_notes (moment_of happening) reported)
  pub quiet : reported ≡ [] → unchanged

pub begins : (holds : List Fact → Type 0) (clean unchanged : Type 0) (old : State) (happening : Event) (call : Call) (draft : PendingWrite) → old.settling ≡ None
    → ((events : List Event) → Stands old events → Before old events happening []) → unchanged → Turned holds clean unchanged old old happening call draft draft
begins holds clean unchanged old happening call draft rests before same = record {
  call_is = inl rests;
  timeout = refl;
  window = refl;
  reported = [];
  within = before;
  on = stays holds clean draft;
  quiet = λ none. same;
}

-- The result of one call of the Modbus session for an event: an outcome of a poll, or no further
-- outcome.
pub record Called (mid new : State) (before after : Event) (settled : Option (ℕ × Settlement)) : Type 0 where
  pub timeout : new.timeout ≡ mid.timeout
  pub window : new.window ≡ mid.window
  pub reported : (events : List Event) (reported : List (ℕ × Settlement)) → Before mid events before reported → After new events after reported settled

longer_is_some : {X : Type 0} (xs : List X) (x : X) → xs ++ x ∷ [] ≡ [] → ⊥
longer_is_some [] x h = cc
longer_is_some (y ∷ xs) x h = cc

-- After the loop over the poll outcomes of an event finds one more outcome, the pending write
-- (records not yet stored) also has this outcome.
pub turns : (holds mid : List Fact → Type 0) (clean later unchanged changed : Type 0) (old between new : State) (before after : Event) (call : Call)
    (first draft next : PendingWrite) (o : ℕ × Settlement) → Turned holds clean unchanged old between before call first draft
    → moment_of after ≡ moment_of before → new.settling ≡ Some call → new.last ≡ moment_of after → Called between new before after (Some o)
    → ((known : List Fact) → holds known → mid known) → (later → clean)
    → Grows mid later draft next (with_outcome (moment_of before) o) (outcome_notes (moment_of before) o)
    → Turned holds later changed old new after call first next
turns holds mid clean later unchanged changed old between new before after call first draft next o t same settling last called kept cleaner on = record {
  call_is = inr (settling, last);
  timeout = called.timeout ∙ t.timeout;
  window = called.window ∙ t.window;
  reported = t.reported ++ o ∷ [];
  within = λ events s. inr (called.reported events t.reported (t.within events s));
  on =
      subst (λ (m : ℕ). Grows holds later first next (with_outcomes m (t.reported ++ o ∷ [])) (outcomes_notes m (t.reported ++ o ∷ []))) (sym same)
      (grows_like holds later first next _ _ _ _
      (λ facts. outcomes-append (moment_of before) t.reported (o ∷ []) facts)
      (λ facts. notes-append (moment_of before) t.reported (o ∷ []) facts
      ∙ ap (λ xs. outcomes_notes (moment_of before) t.reported facts ++ xs) (append-nil _))
      (grows_then holds mid clean later first draft next (with_outcomes (moment_of before) t.reported) (with_outcome (moment_of before) o)
      (outcomes_notes (moment_of before) t.reported) (outcome_notes (moment_of before) o) kept cleaner (before_outcome (moment_of before) o) t.on on));
  quiet = λ none. absurd (longer_is_some t.reported o none);
}

-- After the loop over the poll outcomes of an event ends, the pending write (records not yet
-- stored) has all poll outcomes of the event.
pub ends : (holds : List Fact → Type 0) (clean unchanged : Type 0) (old between new : State) (before after : Event) (call : Call) (first draft : PendingWrite)
    → Turned holds clean unchanged old between before call first draft → moment_of after ≡ moment_of before → Called between new before after None
    → ReportsSettled holds clean old new after first draft
ends holds clean unchanged old between new before after call first draft t same called =
    let timeout : new.timeout ≡ old.timeout = called.timeout ∙ t.timeout in
    record {
      timeout = timeout;
      window = called.window ∙ t.window;
      stands = λ events s. (called.reported events t.reported (t.within events s)).0;
      reported = λ events s.
          let all : t.reported ≡ outcomes_at old.timeout events after =
          (called.reported events t.reported (t.within events s)).1 ∙ ap (λ n. outcomes_at n events after) timeout in
          subst (λ (xs : List (ℕ × Settlement)). Grows holds clean first draft (with_outcomes (moment_of after) xs) (outcomes_notes (moment_of after) xs)) all
          (subst (λ (m : ℕ). Grows holds clean first draft (with_outcomes m t.reported) (outcomes_notes m t.reported)) (sym same) t.on);
    }

pub ends_quietly : (holds : List Fact → Type 0) (clean unchanged : Type 0) (old between new : State) (before after : Event) (call : Call) (first draft : PendingWrite)
    → Turned holds clean unchanged old between before call first draft → Called between new before after None → SettlesNothing old after → unchanged
ends_quietly holds clean unchanged old between new before after call first draft t called none =
    t.quiet
    ((called.reported none.events t.reported (t.within none.events none.stands)).1
    ∙ ap (λ n. outcomes_at n none.events after) (called.timeout ∙ t.timeout) ∙ none.nothing)

-- If a call of the Modbus session for an event returned a poll's outcome, then the event is of a
-- kind that can end polls (such as received bytes).
pub is_loud : {P : Type 0} (holds : List Fact → Type 0) (clean unchanged : Type 0) (old between new : State) (before after : Event) (call : Call) (first draft : PendingWrite)
    (o : ℕ × Settlement) → Turned holds clean unchanged old between before call first draft → Called between new before after (Some o) → SettlesNothing old after → P
is_loud holds clean unchanged old between new before after call first draft o t called none =
    let within : Within new none.events after (t.reported ++ o ∷ []) = (called.reported none.events t.reported (t.within none.events none.stands)).1 in
    let all : (t.reported ++ o ∷ []) ++ owed new ≡ [] =
    within.whole ∙ ap (λ n. outcomes_at n none.events after) (called.timeout ∙ t.timeout) ∙ none.nothing in
    absurd (longer_is_some t.reported o (none_first (t.reported ++ o ∷ []) (owed new) all))
  where
    none_first : {X : Type 0} (xs ys : List X) → xs ++ ys ≡ [] → xs ≡ []
    none_first [] ys h = refl
    none_first (x ∷ xs) ys h = absurd (cc)

-- The rest of a chunk of received bytes, beginning at the given index.
abbrev pub slice_at : ℕ → List ℕ → List ℕ
slice_at at piece = take (length piece - at) (drop at piece)

pub piece-more : (at n : ℕ) (piece : List ℕ) → take at piece ++ take n (slice_at at piece) ≡ take (at + n) piece
piece-more at n piece = ap (λ x. take at piece ++ take n x) (take_rest piece at) ∙ sym (take-add at n piece)

pub within_piece : (at n : ℕ) (piece : List ℕ) → at ≤ length piece → n ≤ length (slice_at at piece) → at + n ≤ length piece
within_piece at n piece h fits =
    let l : length (slice_at at piece) ≡ length piece - at = ap length (take_rest piece at) ∙ length-drop at piece in omega arith

pub whole_piece : (at n : ℕ) (piece : List ℕ) → at ≤ length piece → n ≡ length (slice_at at piece) → take (at + n) piece ≡ piece
whole_piece at n piece h all =
    let l : length (slice_at at piece) ≡ length piece - at = ap length (take_rest piece at) ∙ length-drop at piece in
    take_all (at + n) piece (omega arith)

pub called_by_piece : (mid new : State) (moment at n : ℕ) (piece : List ℕ) (settled : Option (ℕ × Settlement))
    → ReportsOn mid new (λ bytes. Piece moment bytes) (λ bytes. Piece moment (bytes ++ take n (slice_at at piece))) settled
    → Called mid new (Piece moment (take at piece)) (Piece moment (take (at + n) piece)) settled
called_by_piece mid new moment at n piece settled reports = record {
  timeout = reports.timeout;
  window = reports.window;
  reported = λ events reported before.
      subst (λ (bytes : List ℕ). After new events (Piece moment bytes) reported settled) (piece-more at n piece) (reports.reported events (take at piece) reported before);
}

pub called_by_whole : (mid new : State) (moment at n : ℕ) (piece : List ℕ) (settled : Option (ℕ × Settlement)) → at ≤ length piece → n ≡ length (slice_at at piece)
    → ReportsOn mid new (λ bytes. Piece moment bytes) (λ bytes. Piece moment (bytes ++ take n (slice_at at piece))) settled
    → Called mid new (Piece moment (take at piece)) (Piece moment piece) settled
called_by_whole mid new moment at n piece settled h all reports =
    subst (λ (bytes : List ℕ). Called mid new (Piece moment (take at piece)) (Piece moment bytes) settled) (whole_piece at n piece h all)
    (called_by_piece mid new moment at n piece settled reports)

pub called_by_event : (mid new : State) (happening : Event) (settled : Option (ℕ × Settlement)) → ReportsOn mid new (λ _. happening) (λ _. happening) settled
    → Called mid new happening happening settled
called_by_event mid new happening settled reports = record {
  timeout = reports.timeout;
  window = reports.window;
  reported = λ events reported before. reports.reported events [] reported before;
}

-- If a chunk of received bytes ends no poll, then no prefix of the chunk ends a poll.
pub shorter_settles : (longer : (timeout : ℕ) (events : List Event) (moment : ℕ) (piece more : List ℕ) →
    outcomes_at timeout events (Piece moment (piece ++ more)) ≡ [] → outcomes_at timeout events (Piece moment piece) ≡ [])
    → (old : State) (moment n : ℕ) (piece : List ℕ) → SettlesNothing old (Piece moment piece) → SettlesNothing old (Piece moment (take n piece))
shorter_settles longer old moment n piece none = record {
  events = none.events;
  stands = none.stands;
  later = none.later;
  nothing =
      longer old.timeout none.events moment (take n piece) (drop n piece)
      (subst (λ (bytes : List ℕ). outcomes_at old.timeout none.events (Piece moment bytes) ≡ []) (sym (take-append-drop n piece)) none.nothing);
}
