-- Lemmas about the effect of starting a poll on a polling session.
use Rattle.std.proofs.Common.{◌≡◌, ℕ, ◌+◌, ◌%◌, Bool, false, ◌||◌, List, [], ◌∷◌, ◌++◌, length, refl, sym, ap, ◌∙◌, arith, Option, Some, None, inl, inr, length-append}
use Rattle.std.specs.List.{filter, list_any}
use Rattle.std.specs.Option.{is_some}
use Rattle.std.proofs.lemmas.List.Elements.{filter-append}
use Rattle.std.proofs.lemmas.Bool.{cases_Bool, cond-true, cond-false, eqb-true, both_ways, or_parts}
use Rattle.mb_wire.specs.Frames.{rest}
use Rattle.mb_wire.specs.Spans.{Span}
use Rattle.poll_core.proofs.Pending.{pending-start}
use Rattle.poll_core.proofs.Settles.{stream-same, is_over-same, last_moment-push}
use Rattle.poll_core.specs.Settling.{Event, Start, is_start, next_id, outcomes_at, pending}
use Rattle.poll_core.specs.Standing.{State, Stands, is_over, last_moment}
use Rattle.poll_core.specs.Starting.{least_fault, start_fault}
use Rattle.poll_core.specs.Steps.{AreApart}
use Rattle.poll_core.specs.Polls.{Poll, has_id}
use Rattle.poll_core.specs.declared.answers.StartFault.{StartFault}

pub next_id-start : (es : List Event) (m n u : ℕ) (span : Span) → next_id (es ++ Start m n u span ∷ []) ≡ (next_id es + 1) % 65536
unfolding next_id
next_id-start es m n u span =
    let k = length (filter is_start es) in
    let e : length (filter is_start (es ++ Start m n u span ∷ [])) ≡ k + 1 = ap length (filter-append is_start es (Start m n u span ∷ [])) ∙ length-append (filter is_start es) (Start m n u span ∷ []) in
    ap (λ x. x % 65536) e ∙ omega arith

-- A polling session that accepts the start of a poll has processed its earlier events and this
-- start.
pub starts : (s : State) (es : List Event) (m n u : ℕ) (span : Span) (poll : Poll) → Stands s es → s.ending ≡ None → poll ≡ record { number = n; id = s.next; unit = u; span = span; deadline = m + s.timeout } → Stands (record { timeout = s.timeout; window = s.window; last = m; next = (s.next + 1) % 65536; reader = s.reader; polls = s.polls ++ poll ∷ []; ending = s.ending; settling = s.settling }) (es ++ Start m n u span ∷ [])
starts s es m n u span poll h going poll_is =
    let e = Start m n u span in
    let fresh : is_over es ≡ false = sym h.over ∙ ap is_some going in
    let fresh' : is_over (es ++ e ∷ []) ≡ false = is_over-same es e refl ∙ ap (λ b. b || false) fresh in
    let here : poll ≡ record { number = n; id = next_id es; unit = u; span = span; deadline = m + s.timeout } =
    poll_is ∙ ap (λ i. record { number = n; id = i; unit = u; span = span; deadline = m + s.timeout }) h.next in
    record {
      reported = h.reported;
      last = sym (last_moment-push es e);
      next = ap (λ x. (x + 1) % 65536) h.next ∙ sym (next_id-start es m n u span);
      polls = ap (λ x. x ++ poll ∷ []) h.polls ∙ sym (pending-start s.timeout es m n u span poll (ap Some (sym here)));
      over = h.over ∙ fresh ∙ sym fresh';
      none_after = λ over. absurd (both_ways _ fresh' over);
      buffered = λ _. h.buffered going ∙ ap rest (sym (stream-same es e refl));
    }

-- If a polling session refuses to start a poll, `least_fault` computes the fault from the session's
-- state. The function `start_fault` computes the same fault from the earlier events.
pub refused : (s : State) (es : List Event) (m : ℕ) (fault : Option StartFault) → fault ≡ least_fault s.window s.polls s.next s.last (is_some s.ending) m → Stands s es → fault ≡ start_fault s.timeout s.window es m
refused s es m fault e h =
    e
    ∙ ap (λ ps. least_fault s.window ps s.next s.last (is_some s.ending) m) h.polls
    ∙ ap (λ i. least_fault s.window (pending s.timeout es) i s.last (is_some s.ending) m) h.next
    ∙ ap (λ l. least_fault s.window (pending s.timeout es) (next_id es) l (is_some s.ending) m) h.last
    ∙ ap (λ o. least_fault s.window (pending s.timeout es) (next_id es) (last_moment es) o m) h.over

-- If all pending polls have different transaction identifiers, this is still true after a poll with
-- an unused identifier is added.
pub apart_push : (ps : List Poll) (p : Poll) → AreApart ps → filter (has_id p.id) ps ≡ [] → AreApart (ps ++ p ∷ [])
apart_push ps p h free = λ id.
    let split : filter (has_id id) (ps ++ p ∷ []) ≡ filter (has_id id) ps ++ filter (has_id id) (p ∷ []) = filter-append (has_id id) ps (p ∷ []) in
    let len : length (filter (has_id id) (ps ++ p ∷ [])) ≡ length (filter (has_id id) ps) + length (filter (has_id id) (p ∷ [])) = ap length split ∙ length-append _ _ in
    elim (cases_Bool (has_id id p)) [
      | inl same ↦
          let e : id ≡ p.id = eqb-true id p.id same in
          let none : length (filter (has_id id) ps) ≡ 0 = ap (λ i. length (filter (has_id i) ps)) e ∙ ap length free in
          let one : length (filter (has_id id) (p ∷ [])) ≡ 1 = ap length (cond-true _ _ _ same) in
          omega arith
      | inr other ↦
          let none : length (filter (has_id id) (p ∷ [])) ≡ 0 = ap length (cond-false _ _ _ other) in
          omega (arith, h id)
    ]

pub any_none : {X : Type 0} (t : X → Bool) (xs : List X) → list_any t xs ≡ false → filter t xs ≡ []
any_none t [] h = refl
any_none t (x ∷ xs) h =
    let both = or_parts _ _ h in
    cond-false _ _ _ both.0 ∙ any_none t xs both.1

-- The start of a poll completes no poll.
pub nothing_reported : (t : ℕ) (es : List Event) (m n u : ℕ) (span : Span) → [] ≡ outcomes_at t es (Start m n u span)
unfolding outcomes_at
nothing_reported t es m n u span = refl
