-- Proves that a chunk completes no poll if a longer chunk with the same beginning completes none.
use Rattle.std.proofs.Common.{◌≡◌, ℕ, Bool, true, false, cond, not, ◌&&◌, List, [], ◌∷◌, ◌++◌, length, drop, refl, sym, ap, ◌∙◌, Option, Some, None, append_assoc}
use Rattle.mb_wire.specs.Frames.{frames, rest, is_garbled}
use Rattle.poll_core.specs.declared.outcome.LostCause.{LostCause}
use Rattle.poll_core.specs.declared.outcome.LostCause.TheVariants.{Garbled}
use Rattle.poll_core.specs.Settling.{Event, Piece, Settlement, stream, frames_at, ending_at, alive, unmatched, silences, losses, by_frame, pending, outcomes_at}
use Rattle.poll_core.specs.Polls.{Poll, due}
use Rattle.std.specs.List.{filter}
use Rattle.std.proofs.lemmas.Bool.{cond-true}
use Rattle.poll_core.proofs.Frames.{by_frame-append}
use Rattle.poll_core.proofs.Streams.{OneReading, reads_on, frames_at-more, frames-garbled, is_garbled-append}
use Rattle.poll_core.proofs.Settles.{reported_at, outcomes_at-other}

none_first : {X : Type 0} (xs ys : List X) → xs ++ ys ≡ [] → xs ≡ []
none_first [] ys h = refl
none_first (x ∷ xs) ys h = absurd (cc)

none_second : {X : Type 0} (xs ys : List X) → xs ++ ys ≡ [] → ys ≡ []
none_second [] ys h = h
none_second (x ∷ xs) ys h = absurd (cc)

none_lost : (c : LostCause) (ps : List Poll) → losses (Some c) ps ≡ [] → ps ≡ []
none_lost c [] h = refl
none_lost c (p ∷ ps) h = absurd (cc)

-- Suppose that a polling session ends with the cause `Garbled` exactly if the flag `b` is true (a
-- frame has an invalid length field). If the session ends with a cause, then `b` is true.
lost_before : (b : Bool) (c : LostCause) → cond b (Some Garbled) None ≡ Some c → b ≡ true
lost_before true c h = refl
lost_before false c h = absurd (cc)

ends_by_length : (garbled_long garbled_short garbled_before : Bool) → (garbled_short ≡ true → garbled_long ≡ true)
    → (garbled_short && not garbled_before) ≡ true → (garbled_long && not garbled_before) ≡ true
ends_by_length true s b h k = ends_long s b k
  where
    ends_long : (s b : Bool) → (s && not b) ≡ true → not b ≡ true
    ends_long true b k = k
    ends_long false b k = absurd (cc)
ends_by_length false true b h k = absurd (let e : false ≡ true = h refl in cc)
ends_by_length false false b h k = absurd (cc)

losses_before : OneReading → (es : List Event) (m : ℕ) (p q : List ℕ) (ps : List Poll) (x : Option LostCause) → ending_at es (Piece m p) ≡ x
    → losses (ending_at es (Piece m (p ++ q))) (unmatched (frames_at es (Piece m (p ++ q))) ps) ≡ []
    → losses x (unmatched (frames_at es (Piece m p)) ps) ≡ []
unfolding ending_at frames_at
losses_before one es m p q ps None is h = refl
losses_before one es m p q ps (Some c) is h =
    let b : List ℕ = stream es in
    let whole : b ++ (p ++ q) ≡ (b ++ p) ++ q = sym (append_assoc b p q) in
    let ended : (is_garbled (b ++ p) && not (is_garbled b)) ≡ true = lost_before _ c is in
    let short : is_garbled (b ++ p) ≡ true = first_of (is_garbled (b ++ p)) (not (is_garbled b)) ended in
    let long : (is_garbled (b ++ (p ++ q)) && not (is_garbled b)) ≡ true =
    ends_by_length _ _ _ (λ g. ap is_garbled whole ∙ is_garbled-append one (b ++ p) q g) ended in
    let same : frames_at es (Piece m (p ++ q)) ≡ frames_at es (Piece m p) =
    ap (λ y. drop (length (frames b)) y) (ap frames whole ∙ frames-garbled one (b ++ p) q short) in
    let lost : losses (Some Garbled) (unmatched (frames_at es (Piece m (p ++ q))) ps) ≡ [] =
    ap (λ e. losses e (unmatched (frames_at es (Piece m (p ++ q))) ps)) (sym (cond-true _ _ _ long)) ∙ h in
    ap (λ us. losses (Some c) us) (ap (λ fs. unmatched fs ps) (sym same) ∙ none_lost Garbled _ lost)
  where
    first_of : (s t : Bool) → (s && t) ≡ true → s ≡ true
    first_of true t k = refl
    first_of false t k = absurd (cc)

pub longer_settles : OneReading → (t : ℕ) (es : List Event) (m : ℕ) (p q : List ℕ) → outcomes_at t es (Piece m (p ++ q)) ≡ []
    → outcomes_at t es (Piece m p) ≡ []
longer_settles one t es m p q none =
    let ps : List Poll = pending t es in
    let gs : List (List ℕ) = frames (rest (stream es ++ p) ++ q) in
    let reads = reads_on one (stream es ++ p) q gs (rest (rest (stream es ++ p) ++ q)) (one.exists (rest (stream es ++ p) ++ q)) in
    let more : frames_at es (Piece m (p ++ q)) ≡ frames_at es (Piece m p) ++ gs = frames_at-more one es m p q gs _ reads in
    let whole : reported_at m ps (frames_at es (Piece m (p ++ q))) (ending_at es (Piece m (p ++ q))) ≡ [] =
    sym (outcomes_at-other t es (Piece m (p ++ q)) refl) ∙ none in
    let long : List (ℕ × Settlement) = by_frame (frames_at es (Piece m (p ++ q))) (alive m ps) in
    let reported = none_first (silences (filter (due m) ps) ++ long) _ whole in
    let silent : silences (filter (due m) ps) ≡ [] = none_first (silences (filter (due m) ps)) long reported in
    let framed : long ≡ [] = none_second (silences (filter (due m) ps)) long reported in
    let lost = none_second (silences (filter (due m) ps) ++ long) _ whole in
    let framed_before : by_frame (frames_at es (Piece m p)) (alive m ps) ≡ [] =
    none_first (by_frame (frames_at es (Piece m p)) (alive m ps)) _
    (sym (by_frame-append (frames_at es (Piece m p)) gs (alive m ps)) ∙ ap (λ fs. by_frame fs (alive m ps)) (sym more) ∙ framed) in
    let lost_before = losses_before one es m p q (alive m ps) (ending_at es (Piece m p)) refl lost in
    outcomes_at-other t es (Piece m p) refl
    ∙ ap (λ xs. (xs ++ by_frame (frames_at es (Piece m p)) (alive m ps)) ++ losses (ending_at es (Piece m p)) (unmatched (frames_at es (Piece m p)) (alive m ps))) silent
    ∙ ap (λ xs. xs ++ losses (ending_at es (Piece m p)) (unmatched (frames_at es (Piece m p)) (alive m ps))) framed_before
    ∙ lost_before
