-- Lemmas about which of the pending polls (without an outcome) are completed by received frames.
use Rattle.std.proofs.Common.{◌≡◌, ℕ, Bool, true, false, cond, not, ◌&&◌, List, [], ◌∷◌, ◌++◌, map, refl, sym, ap, ◌∙◌, Option, Some, append_assoc}
use Rattle.std.specs.List.{filter, find}
use Rattle.std.specs.Option.{is_none}
use Rattle.std.proofs.lemmas.List.Elements.{filter_agree}
use Rattle.poll_core.proofs.Filters.{filter-all, filter_filter}
use Rattle.poll_core.specs.Settling.{by_frame, unmatched, answer, is_for}
use Rattle.poll_core.specs.Polls.{Poll}

pub unmatched-nil : (ps : List Poll) → unmatched [] ps ≡ ps
unmatched-nil ps = filter-all ps

left_test : (b : Bool) (f : List ℕ) (o : Option (List ℕ)) → is_none (cond b (Some f) o) ≡ (not b && is_none o)
left_test true f o = refl
left_test false f o = refl

pub unmatched-cons : (f : List ℕ) (fs : List (List ℕ)) (ps : List Poll) → unmatched (f ∷ fs) ps ≡ unmatched fs (filter (λ p. not (is_for p f)) ps)
unmatched-cons f fs ps =
    filter_agree _ _ (λ p. left_test (is_for p f) f (find (is_for p) fs)) ps
    ∙ sym (filter_filter (λ p. not (is_for p f)) (λ p. is_none (find (is_for p) fs)) ps)

pub unmatched-append : (fs gs : List (List ℕ)) (ps : List Poll) → unmatched (fs ++ gs) ps ≡ unmatched gs (unmatched fs ps)
unmatched-append [] gs ps = ap (unmatched gs) (sym (unmatched-nil ps))
unmatched-append (f ∷ fs) gs ps =
    unmatched-cons f (fs ++ gs) ps
    ∙ unmatched-append fs gs (filter (λ p. not (is_for p f)) ps)
    ∙ ap (unmatched gs) (sym (unmatched-cons f fs ps))

pub by_frame-append : (fs gs : List (List ℕ)) (ps : List Poll) → by_frame (fs ++ gs) ps ≡ by_frame fs ps ++ by_frame gs (unmatched fs ps)
by_frame-append [] gs ps = ap (by_frame gs) (sym (unmatched-nil ps))
by_frame-append (f ∷ fs) gs ps =
    let here = map (λ p. (p.number, answer p f)) (filter (λ p. is_for p f) ps) in
    let others = filter (λ p. not (is_for p f)) ps in
    ap (λ x. here ++ x) (by_frame-append fs gs others)
    ∙ sym (append_assoc here (by_frame fs others) (by_frame gs (unmatched fs others)))
    ∙ ap (λ x. (here ++ by_frame fs others) ++ by_frame gs x) (sym (unmatched-cons f fs ps))

pub by_frame-none : (fs : List (List ℕ)) → by_frame fs [] ≡ []
by_frame-none [] = refl
by_frame-none (f ∷ fs) = by_frame-none fs
