-- Lemmas on the pending polls and the outcomes of a polling session (the polls of one device over
-- one connection) after one more event. A session that is over has no pending polls.
use Rattle.std.proofs.Common.{map, ◌≡◌, ℕ, Bool, true, false, not, ◌&&◌, ◌||◌, cond, List, [], ◌∷◌, ◌++◌, refl, sym, ap, ◌∙◌, subst, inl, inr, Option, Some, None, append_assoc}
use Rattle.std.specs.List.{filter}
use Rattle.std.specs.Prelude.{IsSome}
use Rattle.std.specs.Option.{is_some, is_none, option_to_list}
use Rattle.std.proofs.lemmas.List.{append-nil}
use Rattle.std.proofs.lemmas.Bool.{cases_Bool, or_parts}
use Rattle.mb_wire.specs.Frames.{is_garbled}
use Rattle.poll_core.proofs.Agreement.{outcomes_at-start}
use Rattle.poll_core.proofs.Pending.{pending-push, pending-other, results-push, extend, untouched, waiting}
use Rattle.poll_core.proofs.Readiness.{over_fault}
use Rattle.poll_core.proofs.Settles.{outcomes_at-other, reported_at, reported_at-none, if_going-none, is_closed-push, is_over-same, or_false}
use Rattle.poll_core.proofs.Streams.{stream-push}
use Rattle.poll_core.specs.Laws.{Accepts, AcceptsAll, with_event, new_result}
use Rattle.poll_core.specs.Polls.{Poll}
use Rattle.poll_core.specs.Settling.{results, Event, Start, Piece, Tick, Close, settled_by, result_of, started, pending, outcomes_at, is_start, moment_of, frames_at, ending_at, closing_of, stream, bytes_of, next_id, unmatched, alive}
use Rattle.poll_core.specs.Standing.{is_over, is_closed, if_going, last_moment}
use Rattle.poll_core.specs.declared.outcome.LostCause.{LostCause}
use Rattle.poll_core.specs.declared.outcome.LostCause.TheVariants.{Garbled}

started_waits : (es : List Event) (o : Option Poll) → waiting (result_of es [] o) ≡ option_to_list o
started_waits es None = refl
started_waits es (Some p) = refl

pub pending_more : (t : ℕ) (es : List Event) (e : Event) → pending t (es ++ e ∷ []) ≡ filter (λ p. is_none (settled_by es e p)) (pending t es) ++ option_to_list (started t es e)
pending_more t es e = pending-push t es e ∙ ap (λ x. untouched es e (pending t es) ++ x) (started_waits (es ++ e ∷ []) (started t es e))

new_is : (es : List Event) (o : Option Poll) → result_of es [] o ≡ new_result o
new_is es None = refl
new_is es (Some p) = refl

pub results_more : (t : ℕ) (es : List Event) (e : Event) → results t [] (es ++ e ∷ []) ≡ map (with_event es e) (results t [] es) ++ new_result (started t es e)
results_more t es e = results-push t [] es e ∙ ap (λ x. map (extend es e) (results t [] es) ++ x) (new_is (es ++ e ∷ []) (started t es e))

-- An event completes no poll if none is pending.
pub nobody_reported : (t : ℕ) (es : List Event) (e : Event) → pending t es ≡ [] → outcomes_at t es e ≡ []
nobody_reported t es e none =
    elim (cases_Bool (is_start e)) [
      | inl start ↦ outcomes_at-start t es e start
      | inr other ↦
          outcomes_at-other t es e other
          ∙ ap (λ ps. reported_at (moment_of e) ps (frames_at es e) (ending_at es e)) none
          ∙ reported_at-none (moment_of e) (frames_at es e) (ending_at es e)
    ]

if_over : (x : Option LostCause) (ps : List Poll) → is_some x ≡ true → if_going x ps ≡ []
if_over None ps h = absurd (cc)
if_over (Some c) ps h = refl

ends_now : (g : Bool) (x : Option LostCause) → (g || is_some x) ≡ true → is_some (cond g (Some Garbled) x) ≡ true
ends_now true x h = refl
ends_now false x h = h

and_fresh : (g b : Bool) → b ≡ false → (g && not b) ≡ g
and_fresh true b h = ap not h
and_fresh false b h = refl

-- If a polling session is over after an event, but was not over before it, then `ending_at` (the
-- cause by which an event ends a session) has a value.
ending_at-over : (es : List Event) (e : Event) → is_over es ≡ false → is_over (es ++ e ∷ []) ≡ true → is_some (ending_at es e) ≡ true
unfolding is_over ending_at
ending_at-over es e going over =
    let parts = or_parts _ _ going in
    let g = is_garbled (stream es ++ bytes_of e) in
    let now : (g || is_some (closing_of e)) ≡ true =
    ap (λ c. g || (c || is_some (closing_of e))) (sym parts.1)
    ∙ ap (λ c. g || c) (sym (is_closed-push es e))
    ∙ ap (λ s. is_garbled s || is_closed (es ++ e ∷ [])) (sym (stream-push es e))
    ∙ over in
    ap (λ c. is_some (cond c (Some Garbled) (closing_of e))) (and_fresh g (is_garbled (stream es)) parts.0) ∙ ends_now g (closing_of e) now

none_left : (t : ℕ) (es : List Event) (e : Event) → is_start e ≡ false → (is_over es ≡ true → pending t es ≡ []) → is_over (es ++ e ∷ []) ≡ true → pending t (es ++ e ∷ []) ≡ []
none_left t es e other h over =
    let x = ending_at es e in
    elim (cases_Bool (is_over es)) [
      | inl was ↦
          pending-other t es e other
          ∙ ap (λ ps. if_going x (unmatched (frames_at es e) (alive (moment_of e) ps))) (h was)
          ∙ if_going-none x
      | inr going ↦ pending-other t es e other ∙ if_over x _ (ending_at-over es e going over)
    ]

not_some : {X : Type 0} (o : Option X) → o ≡ None → IsSome o → ⊥
not_some None h g = cc
not_some (Some x) h g = cc

-- If a polling session that is over has no pending poll, then it has none after one more event
-- either.
keeps : (t w : ℕ) (es : List Event) (e : Event) → Accepts t w es e → (is_over es ≡ true → pending t es ≡ []) → is_over (es ++ e ∷ []) ≡ true → pending t (es ++ e ∷ []) ≡ []
keeps t w es (Start m n u s) accepted h over =
    let was : is_over es ≡ true = sym (is_over-same es (Start m n u s) refl ∙ or_false (is_over es)) ∙ over in
    absurd (not_some _ accepted (over_fault w (next_id es) (last_moment es) m (pending t es) (is_over es) was))
keeps t w es (Piece m b) accepted h over = none_left t es (Piece m b) refl h over
keeps t w es (Tick m) accepted h over = none_left t es (Tick m) refl h over
keeps t w es (Close m c) accepted h over = none_left t es (Close m c) refl h over

none_after : (t w : ℕ) (before later : List Event) → AcceptsAll t w before later → (is_over before ≡ true → pending t before ≡ []) → is_over (before ++ later) ≡ true → pending t (before ++ later) ≡ []
none_after t w before [] accepted h =
    let P : List Event → Type 0 = λ es. is_over es ≡ true → pending t es ≡ [] in
    subst P (sym (append-nil before)) h
none_after t w before (e ∷ later) accepted h =
    let P : List Event → Type 0 = λ es. is_over es ≡ true → pending t es ≡ [] in
    subst P (append_assoc before (e ∷ []) later) (none_after t w (before ++ e ∷ []) later accepted.1 (keeps t w before e accepted.0 h))

pending-nil : (t : ℕ) → pending t [] ≡ []
unfolding pending
pending-nil t = refl

pub over_nobody : (t w : ℕ) (es : List Event) → AcceptsAll t w [] es → is_over es ≡ true → pending t es ≡ []
over_nobody t w es accepted = none_after t w [] es accepted (λ _. pending-nil t)

pub over_nothing : (t w : ℕ) (es : List Event) (e : Event) → AcceptsAll t w [] es → is_over es ≡ true → outcomes_at t es e ≡ []
over_nothing t w es e accepted over = nobody_reported t es e (over_nobody t w es accepted over)
