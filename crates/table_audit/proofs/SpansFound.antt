-- Lemmas on meters that overlap at a register: the audit reports none if and only if each meter was
-- closed when the later meters of its register were opened.
use Rattle.std.proofs.Common.{◌≡◌, ◌↔◌, ◌+◌, ◌<◌, ◌≤◌, ℕ, suc, Bool, true, false, not, cond, List, [], ◌∷◌, ◌++◌, drop, take, length, get_or, Option, Some, None, find, filter_map, option_to_list, refl, sym, ap, subst, ◌∙◌, append_assoc, add-one}
use Rattle.std.specs.List.{list_all}
use Rattle.std.proofs.Math.Seq.{drop-cons}
use Rattle.std.proofs.Math.ListN.{drop_of_length-le}
use Rattle.std.proofs.lemmas.Bool.{and_parts, and_from}
use Rattle.table_audit.specs.declared.differences.Difference.{Difference}
use Rattle.table_audit.specs.declared.differences.Difference.TheVariants.{Overlap}
use Rattle.table_audit.specs.declared.spans.MeterSpan.{MeterSpan}
use Rattle.table_audit.specs.Spans.{follows, never_overlap, overlap_with, first_overlap, overlaps}
use Rattle.table_audit.proofs.Named.{append_none, both_none}

-- Lemmas on the search for the first later meter that overlaps an earlier one.

abbrev pub overlaps_it : MeterSpan → MeterSpan → Bool
overlaps_it earlier later = not (follows earlier later)

pub found_there : {X : Type 0} (test : X → Bool) (xs : List X) (i : ℕ) (x d : X) → i < length xs → x ≡ get_or xs i d → test x ≡ true
    → find test (drop i xs) ≡ Some x
found_there test xs i x d inside is passes =
    ap (find test) (drop-cons xs i d inside)
    ∙ ap (λ y. cond (test y) (Some y) (find test (drop (suc i) xs))) (sym is)
    ∙ ap (λ (b : Bool). cond b (Some x) (find test (drop (suc i) xs))) passes

pub found_later : {X : Type 0} (test : X → Bool) (xs : List X) (i : ℕ) (x d : X) → i < length xs → x ≡ get_or xs i d → test x ≡ false
    → find test (drop i xs) ≡ find test (drop (i + 1) xs)
found_later test xs i x d inside is fails =
    ap (find test) (drop-cons xs i d inside)
    ∙ ap (λ y. cond (test y) (Some y) (find test (drop (suc i) xs))) (sym is)
    ∙ ap (λ (b : Bool). cond b (Some x) (find test (drop (suc i) xs))) fails
    ∙ ap (λ n. find test (drop n xs)) (sym (add-one i))

pub found_nowhere : {X : Type 0} (test : X → Bool) (xs : List X) (i : ℕ) → length xs ≤ i → find test (drop i xs) ≡ None
found_nowhere test xs i past = ap (find test) (drop_of_length-le xs past)

-- Lemmas on the loop over all meters.

pub overlaps_more : (spans : List MeterSpan) (i : ℕ) (span d : MeterSpan) (later : List MeterSpan) (found next all : List Difference) → i < length spans
    → span ≡ get_or spans i d → later ≡ drop (i + 1) spans → found ++ overlaps (drop i spans) ≡ all
    → next ≡ found ++ overlap_with span (first_overlap span later) → next ++ overlaps (drop (i + 1) spans) ≡ all
overlaps_more spans i span d later found next all inside is later_is so_far put =
    let rest = drop (i + 1) spans in
    let one : overlaps (drop i spans) ≡ overlap_with span (first_overlap span rest) ++ overlaps rest =
    ap overlaps (drop-cons spans i d inside)
    ∙ ap (λ (s : MeterSpan). overlap_with s (first_overlap s (drop (suc i) spans)) ++ overlaps (drop (suc i) spans)) (sym is)
    ∙ ap (λ n. overlap_with span (first_overlap span (drop n spans)) ++ overlaps (drop n spans)) (sym (add-one i)) in
    ap (λ (l : List Difference). l ++ overlaps rest) put
    ∙ ap (λ (l : List MeterSpan). (found ++ overlap_with span (first_overlap span l)) ++ overlaps rest) later_is
    ∙ append_assoc found (overlap_with span (first_overlap span rest)) (overlaps rest)
    ∙ ap (λ (l : List Difference). found ++ l) (sym one) ∙ so_far

pub overlaps_done : (spans : List MeterSpan) (i : ℕ) (found all : List Difference) → length spans ≤ i → found ++ overlaps (drop i spans) ≡ all → found ≡ all
overlaps_done spans i found all past so_far =
    sym (append_none found) ∙ sym (ap (λ (l : List MeterSpan). found ++ overlaps l) (drop_of_length-le spans past)) ∙ so_far

-- Lemmas: no overlap is reported if and only if no meters overlap.

none_here : (earlier later : MeterSpan) (spans : List MeterSpan) (b : Bool) → follows earlier later ≡ b → overlap_with earlier (first_overlap earlier (later ∷ spans)) ≡ []
    → (follows earlier later ≡ true) × (overlap_with earlier (first_overlap earlier spans) ≡ [])
none_here earlier later spans true is none =
    (is, sym (ap (λ (b : Bool). overlap_with earlier (cond (not b) (Some later) (first_overlap earlier spans))) is) ∙ none)
none_here earlier later spans false is none =
    let here : Overlap earlier.register earlier.meter later.meter ∷ [] ≡ [] =
    sym (ap (λ (b : Bool). overlap_with earlier (cond (not b) (Some later) (first_overlap earlier spans))) is) ∙ none in
    absurd (cc)

none_first : (earlier : MeterSpan) (spans : List MeterSpan) → overlap_with earlier (first_overlap earlier spans) ≡ [] → list_all (follows earlier) spans ≡ true
none_first earlier [] none = refl
none_first earlier (later ∷ spans) none =
    let two = none_here earlier later spans (follows earlier later) refl none in
    and_from (follows earlier later) (list_all (follows earlier) spans) two.0 (none_first earlier spans two.1)

first_none : (earlier : MeterSpan) (spans : List MeterSpan) → list_all (follows earlier) spans ≡ true → overlap_with earlier (first_overlap earlier spans) ≡ []
first_none earlier [] all = refl
first_none earlier (later ∷ spans) all =
    let two = and_parts (follows earlier later) (list_all (follows earlier) spans) all in
    ap (λ (b : Bool). overlap_with earlier (cond (not b) (Some later) (first_overlap earlier spans))) two.0 ∙ first_none earlier spans two.1

pub none_overlap : (spans : List MeterSpan) → overlaps spans ≡ [] → never_overlap spans ≡ true
none_overlap [] none = refl
none_overlap (span ∷ spans) none =
    let two = both_none (overlap_with span (first_overlap span spans)) (overlaps spans) none in
    and_from (list_all (follows span) spans) (never_overlap spans) (none_first span spans two.0) (none_overlap spans two.1)

pub overlap_none : (spans : List MeterSpan) → never_overlap spans ≡ true → overlaps spans ≡ []
overlap_none [] never = refl
overlap_none (span ∷ spans) never =
    let two = and_parts (list_all (follows span) spans) (never_overlap spans) never in
    ap (λ (ds : List Difference). ds ++ overlaps spans) (first_none span spans two.0) ∙ overlap_none spans two.1
