-- Lemmas on one more event of a polling session: which polls are then still pending, and which
-- outcomes the polls have.
use Rattle.std.proofs.Common.{◌≡◌, ℕ, Bool, true, false, cond, not, ◌&&◌, List, [], ◌∷◌, ◌++◌, map, refl, sym, ap, ◌∙◌, Option, Some, None, append_assoc}
use Rattle.std.specs.List.{filter, find}
use Rattle.std.specs.Option.{is_none, option_or, option_map}
use Rattle.std.proofs.lemmas.List.{map-append, append-nil}
use Rattle.std.proofs.lemmas.List.Elements.{filter-append, filter_agree}
use Rattle.poll_core.specs.declared.outcome.LostCause.{LostCause}
use Rattle.poll_core.specs.Settling.{Event, Start, Piece, Tick, Close, Settlement, Silent, Lost, outcome, settled_by, results, result_of, started, pending, is_start, alive, unmatched, is_for, frames_at, ending_at, moment_of, answer}
use Rattle.poll_core.specs.Standing.{if_going}
use Rattle.mb_wire.specs.Spans.{Span}
use Rattle.poll_core.proofs.Filters.{filter-all, filter-none, filter_filter}
use Rattle.std.proofs.lemmas.Bool.{cond-false}
use Rattle.poll_core.specs.Polls.{Poll, due}

option_or_assoc : {X : Type 0} (a b c : Option X) → option_or a (option_or b c) ≡ option_or (option_or a b) c
option_or_assoc None b c = refl
option_or_assoc (Some x) b c = refl

option_or_none : {X : Type 0} (a : Option X) → option_or a None ≡ a
option_or_none None = refl
option_or_none (Some x) = refl

-- A poll's outcome after one more event is the poll's earlier outcome, if there is one. Otherwise
-- it is the outcome by this event.
pub outcome-push : (before later : List Event) (e : Event) (p : Poll) → outcome before (later ++ e ∷ []) p ≡ option_or (outcome before later p) (settled_by (before ++ later) e p)
outcome-push before [] e p =
    option_or_none (settled_by before e p) ∙ ap (λ b. settled_by b e p) (sym (append-nil before))
outcome-push before (f ∷ later) e p =
    ap (option_or (settled_by before f p)) (outcome-push (before ++ f ∷ []) later e p ∙ ap (λ b. option_or (outcome (before ++ f ∷ []) later p) (settled_by b e p)) (append_assoc before (f ∷ []) later))
    ∙ option_or_assoc (settled_by before f p) (outcome (before ++ f ∷ []) later p) (settled_by (before ++ f ∷ later) e p)

abbrev pub extend : List Event → Event → Poll × Option Settlement → Poll × Option Settlement
extend es e r = (r.0, option_or r.1 (settled_by es e r.0))

result_of-push : (before later : List Event) (e : Event) (o : Option Poll) → result_of before (later ++ e ∷ []) o ≡ map (extend (before ++ later) e) (result_of before later o)
result_of-push before later e None = refl
result_of-push before later e (Some p) = ap (λ x. (p, x) ∷ []) (outcome-push before later e p)

pub results-push : (t : ℕ) (before later : List Event) (e : Event) → results t before (later ++ e ∷ []) ≡ map (extend (before ++ later) e) (results t before later) ++ result_of ((before ++ later) ++ e ∷ []) [] (started t (before ++ later) e)
results-push t before [] e =
    append-nil _ ∙ ap (λ b. result_of (b ++ e ∷ []) [] (started t b e)) (sym (append-nil before))
results-push t before (f ∷ later) e =
    let b = before ++ f ∷ [] in
    let es = before ++ f ∷ later in
    let same : b ++ later ≡ es = append_assoc before (f ∷ []) later in
    let head : result_of b (later ++ e ∷ []) (started t before f) ≡ map (extend es e) (result_of b later (started t before f)) =
    result_of-push b later e (started t before f) ∙ ap (λ x. map (extend x e) (result_of b later (started t before f))) same in
    let tail : results t b (later ++ e ∷ []) ≡ map (extend es e) (results t b later) ++ result_of (es ++ e ∷ []) [] (started t es e) =
    results-push t b later e ∙ ap (λ x. map (extend x e) (results t b later) ++ result_of (x ++ e ∷ []) [] (started t x e)) same in
    ap (λ x. x ++ results t b (later ++ e ∷ [])) head
    ∙ ap (λ x. map (extend es e) (result_of b later (started t before f)) ++ x) tail
    ∙ sym (append_assoc (map (extend es e) (result_of b later (started t before f))) (map (extend es e) (results t b later)) (result_of (es ++ e ∷ []) [] (started t es e)))
    ∙ ap (λ x. x ++ result_of (es ++ e ∷ []) [] (started t es e)) (sym (map-append (extend es e) (result_of b later (started t before f)) (results t b later)))

abbrev pub waiting : List (Poll × Option Settlement) → List Poll
waiting rs = map (λ r. r.0) (filter (λ r. is_none r.1) rs)

abbrev pub untouched : List Event → Event → List Poll → List Poll
untouched es e ps = filter (λ p. is_none (settled_by es e p)) ps

map-cond : {X Y : Type 0} (f : X → Y) (b : Bool) (x : X) (xs : List X) → map f (cond b (x ∷ xs) xs) ≡ cond b (f x ∷ map f xs) (map f xs)
map-cond f true x xs = refl
map-cond f false x xs = refl

waiting-extend : (es : List Event) (e : Event) (rs : List (Poll × Option Settlement)) → waiting (map (extend es e) rs) ≡ untouched es e (waiting rs)
waiting-extend es e [] = refl
waiting-extend es e ((p, None) ∷ rs) =
    let s = settled_by es e p in
    map-cond (λ (r : Poll × Option Settlement). r.0) (is_none s) (p, s) (filter (λ r. is_none r.1) (map (extend es e) rs))
    ∙ ap (λ x. cond (is_none s) (p ∷ x) x) (waiting-extend es e rs)
waiting-extend es e ((p, Some o) ∷ rs) = waiting-extend es e rs

abbrev new_poll : ℕ → List Event → Event → List Poll
new_poll t es e = waiting (result_of (es ++ e ∷ []) [] (started t es e))

pub pending-push : (t : ℕ) (es : List Event) (e : Event) → pending t (es ++ e ∷ []) ≡ untouched es e (pending t es) ++ new_poll t es e
unfolding pending
pending-push t es e =
    let old = results t [] es in
    let new = result_of (es ++ e ∷ []) [] (started t es e) in
    ap waiting (results-push t [] es e)
    ∙ ap (map (λ (r : Poll × Option Settlement). r.0)) (filter-append (λ (r : Poll × Option Settlement). is_none r.1) (map (extend es e) old) new)
    ∙ map-append (λ (r : Poll × Option Settlement). r.0) (filter (λ r. is_none r.1) (map (extend es e) old)) (filter (λ r. is_none r.1) new)
    ∙ ap (λ x. x ++ waiting new) (waiting-extend es e old)

-- Lemma: an event that starts a poll appends this poll to the polling session's pending polls
-- (polls without an outcome).
pub pending-start : (t : ℕ) (es : List Event) (m n u : ℕ) (s : Span) (p : Poll) → started t es (Start m n u s) ≡ Some p → pending t (es ++ Start m n u s ∷ []) ≡ pending t es ++ p ∷ []
unfolding settled_by
pending-start t es m n u s p e =
    pending-push t es (Start m n u s)
    ∙ ap (λ x. x ++ new_poll t es (Start m n u s)) (filter-all (pending t es))
    ∙ ap (λ o. pending t es ++ waiting (result_of (es ++ Start m n u s ∷ []) [] o)) e

untouched_test : (d : Bool) (f : Option (List ℕ)) (c : Option LostCause) (p : Poll) → is_none (cond d (Some Silent) (option_or (option_map (answer p) f) (option_map Lost c))) ≡ (not d && (is_none f && is_none c))
untouched_test true f c p = refl
untouched_test false None None p = refl
untouched_test false None (Some c) p = refl
untouched_test false (Some f) c p = refl

and_true : (b : Bool) → (b && true) ≡ b
and_true true = refl
and_true false = refl

and_false : (a b : Bool) → (a && (b && false)) ≡ false
and_false true true = refl
and_false true false = refl
and_false false b = refl

going_test : (es : List Event) (e : Event) (ps : List Poll) (c : Option LostCause) → filter (λ p. not (due (moment_of e) p) && (is_none (find (is_for p) (frames_at es e)) && is_none c)) ps ≡ if_going c (unmatched (frames_at es e) (alive (moment_of e) ps))
going_test es e ps None =
    filter_agree _ _ (λ p. ap (λ b. not (due (moment_of e) p) && b) (and_true (is_none (find (is_for p) (frames_at es e))))) ps
    ∙ sym (filter_filter (λ p. not (due (moment_of e) p)) (λ p. is_none (find (is_for p) (frames_at es e))) ps)
going_test es e ps (Some c) =
    filter_agree _ _ (λ p. and_false (not (due (moment_of e) p)) (is_none (find (is_for p) (frames_at es e)))) ps ∙ filter-none ps

pub untouched_is : (es : List Event) (e : Event) (ps : List Poll) → is_start e ≡ false → untouched es e ps ≡ if_going (ending_at es e) (unmatched (frames_at es e) (alive (moment_of e) ps))
unfolding settled_by
untouched_is es e ps other =
    filter_agree _ _ (λ p. ap is_none (cond-false _ _ _ other) ∙ untouched_test (due (moment_of e) p) (find (is_for p) (frames_at es e)) (ending_at es e) p) ps
    ∙ going_test es e ps (ending_at es e)

not_started : (t : ℕ) (es : List Event) (e : Event) → is_start e ≡ false → started t es e ≡ None
not_started t es (Start m n u s) h = absurd (cc)
not_started t es (Piece m b) h = refl
not_started t es (Tick m) h = refl
not_started t es (Close m c) h = refl

-- An event that starts no poll removes the pending polls that time out, and those whose transaction
-- identifier a received frame has. An event that ends the polling session removes all pending
-- polls.
pub pending-other : (t : ℕ) (es : List Event) (e : Event) → is_start e ≡ false → pending t (es ++ e ∷ []) ≡ if_going (ending_at es e) (unmatched (frames_at es e) (alive (moment_of e) (pending t es)))
pending-other t es e other =
    pending-push t es e
    ∙ ap (λ o. untouched es e (pending t es) ++ waiting (result_of (es ++ e ∷ []) [] o)) (not_started t es e other)
    ∙ append-nil _
    ∙ untouched_is es e (pending t es) other
