-- Proves that the outcomes of polls, listed event by event, are a permutation of the outcomes
-- listed poll by poll.
use Rattle.std.proofs.Common.{◌≡◌, ℕ, Bool, true, false, cond, not, List, [], ◌∷◌, ◌++◌, map, refl, sym, ap, ◌∙◌, subst, inl, inr, Option, Some, None, append_assoc}
use Rattle.std.specs.List.{filter, filter_map, find, cons_option}
use Rattle.std.specs.List.Sorted.{IsPermutation}
use Rattle.std.specs.Option.{option_or, option_map}
use Rattle.std.proofs.lemmas.List.{append-nil}
use Rattle.std.proofs.lemmas.List.Elements.{filter_map-append}
use Rattle.std.proofs.lemmas.List.Sorted.{IsPermutation-refl, IsPermutation-sym, IsPermutation-cons, IsPermutation-trans, IsPermutation-middle, IsPermutation-append_right, IsPermutation-append}
use Rattle.std.proofs.lemmas.Bool.{cases_Bool, cond-true, cond-false}
use Rattle.poll_core.proofs.Frames.{unmatched-nil, unmatched-cons}
use Rattle.poll_core.proofs.Pending.{results-push, extend, waiting}
use Rattle.poll_core.proofs.Settles.{outcomes_at-other}
use Rattle.poll_core.specs.declared.outcome.LostCause.{LostCause}
use Rattle.poll_core.specs.Settling.{Event, Settlement, Silent, Lost, settled_by, started, result_of, outcomes_at, results, pending, is_start, moment_of, frames_at, ending_at, alive, unmatched, silences, losses, by_frame, answer, is_for}
use Rattle.poll_core.specs.Laws.{with_outcome, outcomes_by_poll, outcomes_after, outcomes_by_event}
use Rattle.poll_core.specs.Polls.{Poll, due}

abbrev named : Poll → Option Settlement → Option (ℕ × Settlement)
named p o = option_map (λ x. (p.number, x)) o

abbrev give : (Poll → Option Settlement) → List Poll → List (ℕ × Settlement)
give f ps = filter_map (λ p. named p (f p)) ps

abbrev cons_named : Poll → Option Settlement → List (ℕ × Settlement) → List (ℕ × Settlement)
cons_named p o xs = cons_option (named p o) xs

pub same_is : {X : Type 0} (xs ys : List X) → xs ≡ ys → IsPermutation xs ys
same_is xs ys e = let P : List _ → Type 0 = λ zs. IsPermutation xs zs in subst P e (IsPermutation-refl xs)

-- If `xs` is a permutation of `ys` followed by `zs`, then `xs` with a new first element is a
-- permutation of `ys`, that element and `zs`.
pub middle : {X : Type 0} (x : X) (xs ys zs : List X) → IsPermutation xs (ys ++ zs) → IsPermutation (x ∷ xs) (ys ++ x ∷ zs)
middle x xs ys zs h =
    IsPermutation-trans _ _ _ (IsPermutation-cons x xs (ys ++ zs) h) (IsPermutation-sym _ _ (IsPermutation-middle ys x zs))

-- Suppose that a test divides a list of polls into two lists, whose outcomes together are a
-- permutation of the outcomes of all these polls. This is still true after one more poll is added.
parted_step : (t : Bool) (f g h : Poll → Option Settlement) (p : Poll) (o : Settlement) (r : Option Settlement) (xs ys : List Poll) (us : List (ℕ × Settlement)) → f p ≡ cond t (Some o) r → g p ≡ Some o → h p ≡ r → IsPermutation us (give g xs ++ give h ys) → IsPermutation (filter_map (λ (q : Poll). named q (f q)) (p ∷ []) ++ us) (give g (cond t (p ∷ xs) xs) ++ give h (cond (not t) (p ∷ ys) ys))
parted_step true f g h p o r xs ys us fe ge he rest =
    let P : Option Settlement → Option Settlement → Type 0 = λ a b. IsPermutation (cons_named p a [] ++ us) (cons_named p b (give g xs) ++ give h ys) in
    let one : IsPermutation ((p.number, o) ∷ us) ((p.number, o) ∷ (give g xs ++ give h ys)) = IsPermutation-cons (p.number, o) us (give g xs ++ give h ys) rest in
    subst (λ a. P a (g p)) (sym fe) (subst (λ b. P (Some o) b) (sym ge) one)
parted_step false f g h p o None xs ys us fe ge he rest =
    let P : Option Settlement → Option Settlement → Type 0 = λ a b. IsPermutation (cons_named p a [] ++ us) (give g xs ++ cons_named p b (give h ys)) in
    subst (λ a. P a (h p)) (sym fe) (subst (λ b. P None b) (sym he) rest)
parted_step false f g h p o (Some r) xs ys us fe ge he rest =
    let P : Option Settlement → Option Settlement → Type 0 = λ a b. IsPermutation (cons_named p a [] ++ us) (give g xs ++ cons_named p b (give h ys)) in
    subst (λ a. P a (h p)) (sym fe) (subst (λ b. P (Some r) b) (sym he) (middle (p.number, r) us (give g xs) (give h ys) rest))

cons_split : (p : Poll) (o : Option Settlement) (us : List (ℕ × Settlement)) → cons_named p o us ≡ cons_named p o [] ++ us
cons_split p None us = refl
cons_split p (Some o) us = refl

parted : (t : Poll → Bool) (f g h : Poll → Option Settlement) (o : Poll → Settlement) → ((p : Poll) → f p ≡ cond (t p) (Some (o p)) (h p)) → ((p : Poll) → g p ≡ Some (o p)) → (ps : List Poll) → IsPermutation (give f ps) (give g (filter t ps) ++ give h (filter (λ p. not (t p)) ps))
parted t f g h o fe ge [] = IsPermutation-refl []
parted t f g h o fe ge (p ∷ ps) =
    let P : List (ℕ × Settlement) → Type 0 = λ x. IsPermutation x (give g (cond (t p) (p ∷ filter t ps) (filter t ps)) ++ give h (cond (not (t p)) (p ∷ filter (λ q. not (t q)) ps) (filter (λ q. not (t q)) ps))) in
    subst P (sym (cons_split p (f p) (give f ps)))
    (parted_step (t p) f g h p (o p) (h p) (filter t ps) (filter (λ q. not (t q)) ps) (give f ps) (fe p) (ge p) refl (parted t f g h o fe ge ps))

give_all : (g : Poll → Settlement) (ps : List Poll) → give (λ p. Some (g p)) ps ≡ map (λ p. (p.number, g p)) ps
give_all g [] = refl
give_all g (p ∷ ps) = ap (λ xs. (p.number, g p) ∷ xs) (give_all g ps)

give_none : (ps : List Poll) → give (λ p. None) ps ≡ []
give_none [] = refl
give_none (p ∷ ps) = give_none ps

give_lost : (x : Option LostCause) (ps : List Poll) → give (λ p. option_map Lost x) ps ≡ losses x ps
give_lost None ps = give_none ps
give_lost (Some c) ps = give_all (λ _. Lost c) ps

-- The outcome of a poll by the first frame with the poll's transaction identifier. Without such a
-- frame, the poll is lost if the polling session ended, and otherwise has no outcome.
abbrev framed : List (List ℕ) → Option LostCause → Poll → Option Settlement
framed fs x p = option_or (option_map (answer p) (find (is_for p) fs)) (option_map Lost x)

framed_cons : (b : Bool) (f : List ℕ) (o : Option (List ℕ)) (x : Option LostCause) (p : Poll) → option_or (option_map (answer p) (cond b (Some f) o)) (option_map Lost x) ≡ cond b (Some (answer p f)) (option_or (option_map (answer p) o) (option_map Lost x))
framed_cons true f o x p = refl
framed_cons false f o x p = refl

by_frames : (fs : List (List ℕ)) (x : Option LostCause) (ps : List Poll) → IsPermutation (give (framed fs x) ps) (by_frame fs ps ++ losses x (unmatched fs ps))
by_frames [] x ps = same_is _ _ (give_lost x ps ∙ ap (losses x) (sym (unmatched-nil ps)))
by_frames (f ∷ fs) x ps =
    let t : Poll → Bool = λ p. is_for p f in
    let here = filter t ps in
    let others = filter (λ p. not (is_for p f)) ps in
    let first : IsPermutation (give (framed (f ∷ fs) x) ps) (give (λ p. Some (answer p f)) here ++ give (framed fs x) others) =
    parted t (framed (f ∷ fs) x) (λ p. Some (answer p f)) (framed fs x) (λ p. answer p f) (λ p. framed_cons (is_for p f) f (find (is_for p) fs) x p) (λ p. refl) ps in
    let reported = map (λ (p : Poll). (p.number, answer p f)) here in
    let later : IsPermutation (give (λ p. Some (answer p f)) here ++ give (framed fs x) others) (reported ++ (by_frame fs others ++ losses x (unmatched fs others))) =
    IsPermutation-append _ _ _ _ (same_is _ _ (give_all (λ p. answer p f) here)) (by_frames fs x others) in
    let same : reported ++ (by_frame fs others ++ losses x (unmatched fs others)) ≡ (reported ++ by_frame fs others) ++ losses x (unmatched (f ∷ fs) ps) =
    sym (append_assoc reported (by_frame fs others) (losses x (unmatched fs others))) ∙ ap (λ y. (reported ++ by_frame fs others) ++ losses x y) (sym (unmatched-cons f fs ps)) in
    IsPermutation-trans _ _ _ first (IsPermutation-trans _ _ _ later (same_is _ _ same))

-- The poll numbers and outcomes of those polls of a list that an event completes.
abbrev newly : List Event → Event → List Poll → List (ℕ × Settlement)
newly es e ps = give (λ p. settled_by es e p) ps

settled_test : (es : List Event) (e : Event) → is_start e ≡ false → (p : Poll) → settled_by es e p ≡ cond (due (moment_of e) p) (Some Silent) (framed (frames_at es e) (ending_at es e) p)
unfolding settled_by
settled_test es e other p = cond-false _ _ _ other

start_test : (es : List Event) (e : Event) → is_start e ≡ true → (p : Poll) → settled_by es e p ≡ None
unfolding settled_by
start_test es e start p = cond-true _ _ _ start

give_agree : (f g : Poll → Option Settlement) → ((p : Poll) → f p ≡ g p) → (ps : List Poll) → give f ps ≡ give g ps
give_agree f g h [] = refl
give_agree f g h (p ∷ ps) = ap (λ o. cons_named p o (give f ps)) (h p) ∙ ap (cons_named p (g p)) (give_agree f g h ps)

pub outcomes_at-start : (t : ℕ) (es : List Event) (e : Event) → is_start e ≡ true → outcomes_at t es e ≡ []
unfolding outcomes_at
outcomes_at-start t es e start = cond-true _ _ _ start

pub newly_is : (t : ℕ) (es : List Event) (e : Event) → IsPermutation (newly es e (pending t es)) (outcomes_at t es e)
newly_is t es e =
    let ps = pending t es in
    elim (cases_Bool (is_start e)) [
      | inl start ↦ same_is _ _ (give_agree _ (λ p. None) (start_test es e start) ps ∙ give_none ps ∙ sym (outcomes_at-start t es e start))
      | inr other ↦
          let m = moment_of e in
          let fs = frames_at es e in
          let x = ending_at es e in
          let S = silences (filter (due m) ps) in
          let first : IsPermutation (newly es e ps) (give (λ p. Some Silent) (filter (due m) ps) ++ give (framed fs x) (alive m ps)) =
          parted (due m) (settled_by es e) (λ p. Some Silent) (framed fs x) (λ p. Silent) (settled_test es e other) (λ p. refl) ps in
          let second : IsPermutation (give (λ p. Some Silent) (filter (due m) ps) ++ give (framed fs x) (alive m ps)) (S ++ (by_frame fs (alive m ps) ++ losses x (unmatched fs (alive m ps)))) =
          IsPermutation-append _ _ _ _ (same_is _ _ (give_all (λ _. Silent) (filter (due m) ps))) (by_frames fs x (alive m ps)) in
          let same : S ++ (by_frame fs (alive m ps) ++ losses x (unmatched fs (alive m ps))) ≡ outcomes_at t es e =
          sym (append_assoc S (by_frame fs (alive m ps)) (losses x (unmatched fs (alive m ps)))) ∙ sym (outcomes_at-other t es e other) in
          IsPermutation-trans _ _ _ first (IsPermutation-trans _ _ _ second (same_is _ _ same))
    ]

abbrev outcomes_in : List (Poll × Option Settlement) → List (ℕ × Settlement)
outcomes_in rs = filter_map with_outcome rs

new_none : (es : List Event) (o : Option Poll) → outcomes_in (result_of es [] o) ≡ []
new_none es None = refl
new_none es (Some p) = refl

extended_step : (p : Poll) (o : Option Settlement) (xs ys zs : List (ℕ × Settlement)) → IsPermutation xs (ys ++ zs) → IsPermutation (cons_named p o xs) (ys ++ cons_named p o zs)
extended_step p None xs ys zs h = h
extended_step p (Some o) xs ys zs h = middle (p.number, o) xs ys zs h

-- One more event adds to the outcomes of the events before it exactly the outcomes of those pending
-- polls that it completes.
extended : (es : List Event) (e : Event) (rs : List (Poll × Option Settlement)) → IsPermutation (outcomes_in (map (extend es e) rs)) (outcomes_in rs ++ newly es e (waiting rs))
extended es e [] = IsPermutation-refl []
extended es e ((p, Some o) ∷ rs) = IsPermutation-cons (p.number, o) _ _ (extended es e rs)
extended es e ((p, None) ∷ rs) = extended_step p (settled_by es e p) (outcomes_in (map (extend es e) rs)) (outcomes_in rs) (newly es e (waiting rs)) (extended es e rs)

by_poll-push : (t : ℕ) (es : List Event) (e : Event) → IsPermutation (outcomes_by_poll t (es ++ e ∷ [])) (outcomes_by_poll t es ++ outcomes_at t es e)
unfolding pending
by_poll-push t es e =
    let rs = results t [] es in
    let new = result_of (es ++ e ∷ []) [] (started t es e) in
    let all : outcomes_by_poll t (es ++ e ∷ []) ≡ outcomes_in (map (extend es e) rs) =
    ap outcomes_in (results-push t [] es e) ∙ filter_map-append with_outcome (map (extend es e) rs) new ∙ ap (λ y. outcomes_in (map (extend es e) rs) ++ y) (new_none (es ++ e ∷ []) (started t es e)) ∙ append-nil _ in
    IsPermutation-trans _ _ _ (same_is _ _ all)
    (IsPermutation-trans _ _ _ (extended es e rs) (IsPermutation-append_right (outcomes_in rs) (newly es e (waiting rs)) (outcomes_at t es e) (newly_is t es e)))

pub outcomes_after-push : (t : ℕ) (before later : List Event) (e : Event) → outcomes_after t before (later ++ e ∷ []) ≡ outcomes_after t before later ++ outcomes_at t (before ++ later) e
outcomes_after-push t before [] e = append-nil _ ∙ ap (λ b. outcomes_at t b e) (sym (append-nil before))
outcomes_after-push t before (f ∷ later) e =
    ap (λ y. outcomes_at t before f ++ y) (outcomes_after-push t (before ++ f ∷ []) later e ∙ ap (λ b. outcomes_after t (before ++ f ∷ []) later ++ outcomes_at t b e) (append_assoc before (f ∷ []) later))
    ∙ sym (append_assoc (outcomes_at t before f) (outcomes_after t (before ++ f ∷ []) later) (outcomes_at t (before ++ f ∷ later) e))

go : (t : ℕ) (before later : List Event) → IsPermutation (outcomes_by_poll t before) (outcomes_by_event t before) → IsPermutation (outcomes_by_poll t (before ++ later)) (outcomes_by_event t (before ++ later))
go t before [] h = let P : List Event → Type 0 = λ es. IsPermutation (outcomes_by_poll t es) (outcomes_by_event t es) in subst P (sym (append-nil before)) h
go t before (e ∷ later) h =
    let P : List Event → Type 0 = λ es. IsPermutation (outcomes_by_poll t es) (outcomes_by_event t es) in
    let step : IsPermutation (outcomes_by_poll t (before ++ e ∷ [])) (outcomes_by_event t (before ++ e ∷ [])) =
    IsPermutation-trans _ _ _ (by_poll-push t before e)
    (IsPermutation-trans _ _ _ (IsPermutation-append _ _ _ _ h (IsPermutation-refl (outcomes_at t before e)))
    (same_is _ _ (sym (outcomes_after-push t [] before e)))) in
    subst P (append_assoc before (e ∷ []) later) (go t (before ++ e ∷ []) later step)

pub outcomes_agree : (t : ℕ) (es : List Event) → IsPermutation (outcomes_by_poll t es) (outcomes_by_event t es)
outcomes_agree t es = go t [] es (IsPermutation-refl [])
