-- Lemmas: one more event of a session (a connection of a device) adds the poll that it starts, and
-- the outcomes of the polls that it ends.
use Rattle.std.proofs.Common.{◌≡◌, ℕ, Bool, true, false, cond, not, ◌&&◌, List, [], ◌∷◌, ◌++◌, map, refl, ap, ◌∙◌, Option, Some, None}
use Rattle.std.specs.List.{filter, find}
use Rattle.std.specs.List.Sorted.{IsPermutation}
use Rattle.std.specs.Option.{is_none, option_or, option_map}
use Rattle.std.proofs.lemmas.List.{map-append, append-nil}
use Rattle.std.proofs.lemmas.List.Sorted.{IsPermutation-sym, IsPermutation-trans, IsPermutation-append_left}
use Rattle.mb_wire.specs.Frames.{is_garbled}
use Rattle.mb_wire.specs.Spans.{Span}
use Rattle.poll_core.specs.declared.outcome.LostCause.{LostCause}
use Rattle.poll_core.specs.declared.outcome.LostCause.TheVariants.{Garbled}
use Rattle.poll_core.specs.declared.outcome.Closing.{Closing}
use Rattle.poll_core.specs.Outcomes.{cause_of}
use Rattle.poll_core.specs.Polls.{Poll, due}
use Rattle.poll_core.specs.Settling.{Event, Start, Piece, Tick, Close, Settlement, Silent, Lost, settled_by, results, started, pending, is_for, frames_at, ending_at, answer, outcomes_at, stream}
use Rattle.poll_core.specs.Laws.{outcomes_by_poll, outcomes_by_event, with_event, new_result}
use Rattle.office_books.proofs.Permutations.{same_is}

-- The theorems about Modbus sessions that the proofs use: each poll with an outcome ended exactly
-- once. One more event adds only the poll that it starts, and the outcomes of the polls that it
-- ends.
pub record SessionLaws : Type 0 where
  pub once : (timeout : ℕ) (events : List Event) → IsPermutation (outcomes_by_poll timeout events) (outcomes_by_event timeout events)
  pub outcomes : (timeout : ℕ) (events : List Event) (event : Event) →
      outcomes_by_event timeout (events ++ event ∷ []) ≡ outcomes_by_event timeout events ++ outcomes_at timeout events event
  pub results : (timeout : ℕ) (events : List Event) (event : Event) →
      results timeout [] (events ++ event ∷ []) ≡ map (with_event events event) (results timeout [] events) ++ new_result (started timeout events event)

-- The numbers of the polls that a Modbus session started.
abbrev pub numbers_of : List (Poll × Option Settlement) → List ℕ
numbers_of rs = map (λ r. r.0.number) rs

-- The number of the poll that a Modbus session event starts, as a list. The list is empty if the
-- event starts no poll.
abbrev pub number_by : Event → List ℕ
number_by (Start moment poll unit span) = poll ∷ []
number_by (Piece moment bytes) = []
number_by (Tick moment) = []
number_by (Close moment closing) = []

numbers-with_event : (es : List Event) (e : Event) (rs : List (Poll × Option Settlement)) → numbers_of (map (with_event es e) rs) ≡ numbers_of rs
numbers-with_event es e [] = refl
numbers-with_event es e (r ∷ rs) = ap (λ ns. r.0.number ∷ ns) (numbers-with_event es e rs)

numbers-new_result : (t : ℕ) (es : List Event) (e : Event) → numbers_of (new_result (started t es e)) ≡ number_by e
numbers-new_result t es (Start m n u s) = refl
numbers-new_result t es (Piece m b) = refl
numbers-new_result t es (Tick m) = refl
numbers-new_result t es (Close m c) = refl

-- An event that starts a poll adds one number to the list of the Modbus session's polls. No other
-- event of a session changes this list.
pub numbers-push : (laws : SessionLaws) (t : ℕ) (es : List Event) (e : Event) → numbers_of (results t [] (es ++ e ∷ [])) ≡ numbers_of (results t [] es) ++ number_by e
numbers-push laws t es e =
    let new = new_result (started t es e) in
    ap numbers_of (laws.results t es e)
    ∙ map-append (λ (r : Poll × Option Settlement). r.0.number) (map (with_event es e) (results t [] es)) new
    ∙ ap (λ ns. ns ++ numbers_of new) (numbers-with_event es e (results t [] es))
    ∙ ap (λ ns. numbers_of (results t [] es) ++ ns) (numbers-new_result t es e)

-- After a Modbus session event, the outcomes of the session are the earlier outcomes and those of
-- the polls that the event ends.
pub outcomes_by_poll-push : (laws : SessionLaws) (t : ℕ) (es : List Event) (e : Event) → IsPermutation (outcomes_by_poll t (es ++ e ∷ [])) (outcomes_by_poll t es ++ outcomes_at t es e)
outcomes_by_poll-push laws t es e =
    IsPermutation-trans _ _ _ (laws.once t (es ++ e ∷ []))
    (IsPermutation-trans _ _ _ (same_is _ _ (laws.outcomes t es e))
    (IsPermutation-append_left (outcomes_at t es e) (outcomes_by_event t es) (outcomes_by_poll t es) (IsPermutation-sym (outcomes_by_poll t es) (outcomes_by_event t es) (laws.once t es))))

-- If a Modbus session event starts a poll, then the event ends no poll.
pub outcomes_at-start : (t : ℕ) (es : List Event) (m n u : ℕ) (s : Span) → outcomes_at t es (Start m n u s) ≡ []
unfolding outcomes_at
outcomes_at-start t es m n u s = refl

some_lost : (b : Bool) (c : LostCause) → is_none (option_map Lost (cond b (Some Garbled) (Some c))) ≡ false
some_lost true c = refl
some_lost false c = refl

none_left : (b : Bool) (x y : Option Settlement) → is_none y ≡ false → is_none (cond b (Some Silent) (option_or x y)) ≡ false
none_left true x y h = refl
none_left false None y h = h
none_left false (Some o) y h = refl

-- If a poll of a Modbus session is pending (without an outcome), then a close event of the session
-- ends the poll.
close_settles : (es : List Event) (m : ℕ) (c : Closing) (p : Poll) → is_none (settled_by es (Close m c) p) ≡ false
unfolding settled_by ending_at
close_settles es m c p =
    none_left (due m p) (option_map (answer p) (find (is_for p) (frames_at es (Close m c)))) (option_map Lost (ending_at es (Close m c)))
    (some_lost (is_garbled (stream es ++ []) && not (is_garbled (stream es))) (cause_of c))

closed_step : (es : List Event) (m : ℕ) (c : Closing) (p : Poll) (o : Option Settlement) → is_none (option_or o (settled_by es (Close m c) p)) ≡ false
closed_step es m c p None = close_settles es m c p
closed_step es m c p (Some o) = refl

skipped : {X : Type 0} (b : Bool) (x : X) (xs : List X) → b ≡ false → xs ≡ [] → cond b (x ∷ xs) xs ≡ []
skipped true x xs h none = cc
skipped false x xs h none = none

none_wait : (es : List Event) (m : ℕ) (c : Closing) (rs : List (Poll × Option Settlement)) → filter (λ r. is_none r.1) (map (with_event es (Close m c)) rs) ≡ []
none_wait es m c [] = refl
none_wait es m c (r ∷ rs) = skipped (is_none (option_or r.1 (settled_by es (Close m c) r.0))) (with_event es (Close m c) r) (filter (λ r. is_none r.1) (map (with_event es (Close m c)) rs)) (closed_step es m c r.0 r.1) (none_wait es m c rs)

-- No poll of a Modbus session is pending (without an outcome) after a close event.
pub pending-close : (laws : SessionLaws) (t : ℕ) (es : List Event) (m : ℕ) (c : Closing) → pending t (es ++ Close m c ∷ []) ≡ []
unfolding pending
pending-close laws t es m c =
    ap (λ rs. map (λ (r : Poll × Option Settlement). r.0) (filter (λ r. is_none r.1) rs)) (laws.results t es (Close m c) ∙ append-nil _)
    ∙ ap (λ rs. map (λ (r : Poll × Option Settlement). r.0) rs) (none_wait es m c (results t [] es))
