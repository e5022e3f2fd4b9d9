-- Lemmas about consecutive starts of polls, with no other event between the starts. The main lemma
-- `ready_by` derives `IsReady` from `HasRoom` (a check of the polling session's state), for each
-- `count` of at most 16. `IsReady` states that the next `count` starts at valid times succeed. It
-- also states that the session refuses the start after them.
use Rattle.std.proofs.Common.{◌≡◌, ◌≢◌, ℕ, suc, ◌+◌, ◌-◌, ◌%◌, ◌<◌, ◌≤◌, Bool, ltb, true, false, not, ◌&&◌, ◌||◌, List, [], ◌∷◌, ◌++◌, length, refl, sym, ap, ◌∙◌, arith, inl, inr, Option, Some, None, leb, append_assoc, length-append, cond}
use Rattle.std.specs.List.{list_any}
use Rattle.std.specs.Prelude.{IsSome}
use Rattle.std.specs.Option.{is_some}
use Rattle.std.proofs.lemmas.List.{append-nil}
use Rattle.std.proofs.lemmas.Bool.{and_from, and_left, and_right, lt-ltb, le-ltb, le-leb, not_from_true, not_from_false, cases_lt, and_parts, not-true, ltb-true, lt-leb, cond-false, cond-true, ne_eqb, or_left, cases_Bool, both_ways}
use Rattle.mb_wire.specs.Spans.{Span}
use Rattle.poll_core.proofs.Pending.{pending-start}
use Rattle.poll_core.proofs.Settles.{is_over-same, or_false, or_assoc}
use Rattle.poll_core.proofs.Starts.{next_id-start}
use Rattle.poll_core.specs.Polls.{Poll, has_id}
use Rattle.poll_core.specs.Settling.{Event, Start, Piece, Tick, Close, next_id, pending}
use Rattle.poll_core.specs.Standing.{State, Stands, is_over, last_moment}
use Rattle.poll_core.specs.Starting.{least_fault, start_fault, start_fits, AreStarts, HasRoom, IsReady}

pub none_fits : (w n k : ℕ) (ps : List Poll) (over : Bool) → over ≡ true → start_fits w ps n over k ≡ false
none_fits w n k ps over h = and_left _ (not (list_any (has_id ((n + k) % 65536)) ps)) (and_left (not over) (ltb (length ps + k) w) (not_from_true over h))

pub some_fit : (w n r k : ℕ) (ps : List Poll) (over : Bool) → over ≡ false → r ≤ w - length ps → ((j : ℕ) → j < r → list_any (has_id ((n + j) % 65536)) ps ≡ false) → k < r → start_fits w ps n over k ≡ true
some_fit w n r k ps over h room free l =
    let fits : length ps + k < w = omega arith in
    and_from _ _ (and_from _ _ (not_from_false over h) (lt-ltb _ _ fits)) (not_from_false _ (free k l))

pub no_more_fit : (w n r room : ℕ) (ps : List Poll) (over : Bool) → room ≡ w - length ps → r ≤ room → (r < room → list_any (has_id ((n + r) % 65536)) ps ≡ true) → start_fits w ps n over r ≡ false
no_more_fit w n r room ps over is within busy =
    elim (cases_lt r room) [
      | inl less ↦ and_right (not over && ltb (length ps + r) w) _ (not_from_true _ (busy less))
      | inr full ↦
          let out : w ≤ length ps + r = omega arith in
          and_left _ (not (list_any (has_id ((n + r) % 65536)) ps)) (and_right (not over) _ (le-ltb _ _ out))
    ]

any-push : {X : Type 0} (t : X → Bool) (xs : List X) (x : X) → list_any t (xs ++ x ∷ []) ≡ (list_any t xs || t x)
any-push t [] x = or_false (t x)
any-push t (y ∷ xs) x = ap (λ b. t y || b) (any-push t xs x) ∙ or_assoc (t y) (list_any t xs) (t x)

-- The state after consecutive starts of polls: how many polls are pending, which transaction
-- identifier is next, and whether the polling session is over.
record Started (t : ℕ) (es starts : List Event) : Type 0 where
  count : length (pending t (es ++ starts)) ≡ length (pending t es) + length starts
  next : next_id (es ++ starts) ≡ (next_id es + length starts) % 65536
  over : is_over (es ++ starts) ≡ is_over es

next_id-lt : (es : List Event) → next_id es < 65536
unfolding next_id
next_id-lt es = omega arith

no_start : (t : ℕ) (es : List Event) → Started t es []
no_start t es =
    let P : List Event → Type 0 = λ xs. Started t xs [] in
    let l : next_id es < 65536 = next_id-lt es in
    let e : es ++ [] ≡ es = append-nil es in
    record {
      count = ap (λ xs. length (pending t xs)) e ∙ omega arith;
      next = ap next_id e ∙ omega arith;
      over = ap is_over e;
    }

abbrev poll_of : ℕ → List Event → ℕ → ℕ → ℕ → Span → Poll
poll_of t es m n u span = record { number = n; id = next_id es; unit = u; span = span; deadline = m + t }

start_adds : (t : ℕ) (es : List Event) (m n u : ℕ) (span : Span) → pending t (es ++ Start m n u span ∷ []) ≡ pending t es ++ poll_of t es m n u span ∷ []
start_adds t es m n u span = pending-start t es m n u span (poll_of t es m n u span) refl

starts_add : (t : ℕ) (es starts : List Event) → AreStarts starts → Started t es starts
starts_add t es [] h = no_start t es
starts_add t es (Start m n u span ∷ starts) h =
    let e = Start m n u span in
    let es' = es ++ e ∷ [] in
    let later = starts_add t es' starts h.1 in
    let same : es' ++ starts ≡ es ++ e ∷ starts = append_assoc es (e ∷ []) starts in
    let one : length (pending t es') ≡ length (pending t es) + 1 = ap length (start_adds t es m n u span) ∙ length-append _ _ in
    let id : next_id es' ≡ (next_id es + 1) % 65536 = next_id-start es m n u span in
    record {
      count = ap (λ xs. length (pending t xs)) (sym same) ∙ later.count ∙ omega arith;
      next = ap next_id (sym same) ∙ later.next ∙ ap (λ x. (x + length starts) % 65536) id ∙ omega arith;
      over = ap is_over (sym same) ∙ later.over ∙ is_over-same es e refl ∙ or_false (is_over es);
    }
starts_add t es (Piece m b ∷ starts) h = absurd (let f : false ≡ true = h.0 in cc)
starts_add t es (Tick m ∷ starts) h = absurd (let f : false ≡ true = h.0 in cc)
starts_add t es (Close m c ∷ starts) h = absurd (let f : false ≡ true = h.0 in cc)

-- If a pending poll uses a transaction identifier, the identifier is still in use after more polls
-- are started.
still_busy : (t : ℕ) (es starts : List Event) (id : ℕ) → AreStarts starts → list_any (has_id id) (pending t es) ≡ true → list_any (has_id id) (pending t (es ++ starts)) ≡ true
still_busy t es [] id h busy = ap (λ xs. list_any (has_id id) (pending t xs)) (append-nil es) ∙ busy
still_busy t es (Start m n u span ∷ starts) id h busy =
    let e = Start m n u span in
    let now : list_any (has_id id) (pending t (es ++ e ∷ [])) ≡ true =
    ap (list_any (has_id id)) (start_adds t es m n u span) ∙ any-push (has_id id) (pending t es) (poll_of t es m n u span) ∙ or_left _ _ busy in
    ap (λ xs. list_any (has_id id) (pending t xs)) (sym (append_assoc es (e ∷ []) starts)) ∙ still_busy t (es ++ e ∷ []) starts id h.1 now
still_busy t es (Piece m b ∷ starts) id h busy = absurd (let f : false ≡ true = h.0 in cc)
still_busy t es (Tick m ∷ starts) id h busy = absurd (let f : false ≡ true = h.0 in cc)
still_busy t es (Close m c ∷ starts) id h busy = absurd (let f : false ≡ true = h.0 in cc)

or_both : (a b : Bool) → a ≡ false → b ≡ false → (a || b) ≡ false
or_both true b h g = absurd (cc)
or_both false b h g = g

-- Suppose that no pending poll uses a transaction identifier, and that none of several further
-- starts of polls gets it. Then it is still unused after these starts.
still_free : (t : ℕ) (es starts : List Event) (id : ℕ) → AreStarts starts → ((j : ℕ) → j < length starts → id ≢ (next_id es + j) % 65536) → list_any (has_id id) (pending t es) ≡ false → list_any (has_id id) (pending t (es ++ starts)) ≡ false
still_free t es [] id h others free = ap (λ xs. list_any (has_id id) (pending t xs)) (append-nil es) ∙ free
still_free t es (Start m n u span ∷ starts) id h others free =
    let e = Start m n u span in
    let es' = es ++ e ∷ [] in
    let l : next_id es < 65536 = next_id-lt es in
    let first : (next_id es + 0) % 65536 ≡ next_id es = omega arith in
    let not_first : id ≢ next_id es = λ same. others 0 (omega arith) (same ∙ sym first) in
    let now : list_any (has_id id) (pending t es') ≡ false =
    ap (list_any (has_id id)) (start_adds t es m n u span) ∙ any-push (has_id id) (pending t es) (poll_of t es m n u span) ∙ or_both _ _ free (ne_eqb _ _ not_first) in
    let next : next_id es' ≡ (next_id es + 1) % 65536 = next_id-start es m n u span in
    let others' : (j : ℕ) → j < length starts → id ≢ (next_id es' + j) % 65536 = λ j less same.
    let shift : (next_id es' + j) % 65536 ≡ (next_id es + suc j) % 65536 = ap (λ x. (x + j) % 65536) next ∙ omega arith in
    others (suc j) (omega arith) (same ∙ shift) in
    ap (λ xs. list_any (has_id id) (pending t xs)) (sym (append_assoc es (e ∷ []) starts)) ∙ still_free t es' starts id h.1 others' now
still_free t es (Piece m b ∷ starts) id h others free = absurd (let f : false ≡ true = h.0 in cc)
still_free t es (Tick m ∷ starts) id h others free = absurd (let f : false ≡ true = h.0 in cc)
still_free t es (Close m c ∷ starts) id h others free = absurd (let f : false ≡ true = h.0 in cc)

-- The transaction identifiers of at most 65536 polls that a session starts one after another
-- differ.
apart_ids : (n j k : ℕ) → j < k → k < 65536 → (n + k) % 65536 ≢ (n + j) % 65536
apart_ids n j k less few same = omega arith

-- If the check `start_fits` (of the pending polls, the transaction identifier and the session's
-- end) allows one more start after some starts, the polling session does not refuse it.
fits_after : (t w m : ℕ) (es starts : List Event) → AreStarts starts → length starts < 65536 → start_fits w (pending t es) (next_id es) (is_over es) (length starts) ≡ true → last_moment (es ++ starts) ≤ m → start_fault t w (es ++ starts) m ≡ None
fits_after t w m es starts h few fits late =
    let k = length starts in
    let ps = pending t es in
    let n = next_id es in
    let outer = and_parts _ _ fits in
    let inner = and_parts _ _ outer.0 in
    let room : length ps + k < w = ltb-true _ _ inner.1 in
    let s = starts_add t es starts h in
    let going : is_over (es ++ starts) ≡ false = s.over ∙ not-true _ inner.0 in
    let id : next_id (es ++ starts) ≡ (n + k) % 65536 = s.next in
    let few' : length (pending t (es ++ starts)) < w = omega (arith, s.count) in
    let free : list_any (has_id (next_id (es ++ starts))) (pending t (es ++ starts)) ≡ false =
    ap (λ i. list_any (has_id i) (pending t (es ++ starts))) id
    ∙ still_free t es starts ((n + k) % 65536) h (λ j less. apart_ids n j k less few) (not-true _ outer.1) in
    cond-false _ _ _ (lt-leb w (length (pending t (es ++ starts))) few')
    ∙ cond-false _ _ _ free
    ∙ cond-false _ _ _ (le-ltb m (last_moment (es ++ starts)) late)
    ∙ cond-false _ _ _ going

-- If the option `o` has a value, the conditional with the branches `Some x` and `o` has a value.
some_if : {X : Type 0} (b : Bool) (x : X) (o : Option X) → IsSome o → IsSome (cond b (Some x) o)
some_if true x o h = refl
some_if false x o h = h

full_fault : (w n l m : ℕ) (ps : List Poll) (over : Bool) → w ≤ length ps → IsSome (least_fault w ps n l over m)
full_fault w n l m ps over full = ap is_some (cond-true _ _ _ (le-leb w (length ps) full))

busy_fault : (w n l m : ℕ) (ps : List Poll) (over : Bool) → list_any (has_id n) ps ≡ true → IsSome (least_fault w ps n l over m)
busy_fault w n l m ps over busy = some_if (leb w (length ps)) _ _ (ap is_some (cond-true _ _ _ busy))

pub over_fault : (w n l m : ℕ) (ps : List Poll) (over : Bool) → over ≡ true → IsSome (least_fault w ps n l over m)
over_fault w n l m ps over h = some_if (leb w (length ps)) _ _ (some_if (list_any (has_id n) ps) _ _ (some_if (ltb m l) _ _ (ap is_some (cond-true _ _ _ h))))

after_full : (t w m : ℕ) (es starts : List Event) → AreStarts starts → start_fits w (pending t es) (next_id es) (is_over es) (length starts) ≡ false → IsSome (start_fault t w (es ++ starts) m)
after_full t w m es starts h fits =
    let k = length starts in
    let ps = pending t es in
    let id = (next_id es + k) % 65536 in
    let s = starts_add t es starts h in
    elim (cases_Bool (is_over es)) [
      | inl over ↦ over_fault w _ _ m (pending t (es ++ starts)) _ (s.over ∙ over)
      | inr going ↦ elim (cases_lt (length ps + k) w) [
        | inr full ↦ full_fault w _ _ m (pending t (es ++ starts)) _ (omega (arith, s.count))
        | inl room ↦ elim (cases_Bool (list_any (has_id id) ps)) [
          | inl busy ↦ busy_fault w _ _ m (pending t (es ++ starts)) _ (ap (λ i. list_any (has_id i) (pending t (es ++ starts))) s.next ∙ still_busy t es starts id h busy)
          | inr free ↦ absurd (both_ways _ fits (and_from _ _ (and_from _ _ (not_from_false _ going) (lt-ltb _ _ room)) (not_from_false _ free)))
        ]
      ]
    ]

ready_is : (t w : ℕ) (es : List Event) (id count : ℕ) → id ≡ next_id es → count ≤ 16 → ((k : ℕ) → k < count → start_fits w (pending t es) (next_id es) (is_over es) k ≡ true) → start_fits w (pending t es) (next_id es) (is_over es) count ≡ false → IsReady t w es id count
ready_is t w es id count next few succeed no_more =
    record {
      next = next;
      succeed = λ starts m h less late. fits_after t w m es starts h (omega arith) (succeed (length starts) less) late;
      no_more = λ starts m h all.
          let e : start_fits w (pending t es) (next_id es) (is_over es) (length starts) ≡ false = ap (start_fits w (pending t es) (next_id es) (is_over es)) all ∙ no_more in
          after_full t w m es starts h e;
    }

-- The check `start_fits`, which says whether one more poll may start, has the same result by either
-- computation: from a session's state, or from the events that led to it.
fits_is : (s : State) (es : List Event) (k : ℕ) → Stands s es → start_fits s.window s.polls s.next (is_some s.ending) k ≡ start_fits s.window (pending s.timeout es) (next_id es) (is_over es) k
fits_is s es k h =
    ap (λ ps. start_fits s.window ps s.next (is_some s.ending) k) h.polls
    ∙ ap (λ n. start_fits s.window (pending s.timeout es) n (is_some s.ending) k) h.next
    ∙ ap (λ o. start_fits s.window (pending s.timeout es) (next_id es) o k) h.over

pub ready_by : (s : State) (count : ℕ) → count ≤ 16 → HasRoom s count → (es : List Event) → Stands s es → IsReady s.timeout s.window es s.next count
ready_by s count few room es h =
    ready_is s.timeout s.window es s.next count h.next few (λ k less. sym (fits_is s es k h) ∙ room.fit k less) (sym (fits_is s es count h) ∙ room.no_more)
