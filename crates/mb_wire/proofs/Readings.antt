-- Proves that each byte list splits in exactly one way into complete frames and the bytes after
-- them. Also proves how this split changes when the frame reader consumes one more chunk.
use Rattle.std.proofs.Common.{◌≡◌, ℕ, zero, suc, ◌+◌, ◌-◌, ◌<◌, ◌≤◌, ◌⊎◌, inl, inr, true, false, List, [], ◌∷◌, ◌++◌, length, take, drop, refl, sym, ap, ◌∙◌, subst, arith, append_assoc, length-append, length-drop, length-take-le, lit<}
use Rattle.std.specs.List.{flat_map, AllByRecursion}
use Rattle.std.proofs.lemmas.List.{get_or_append_left, take_at, drop_at, take-append-drop, append-nil}
use Rattle.std.proofs.lemmas.List.Concat.{flat_map-append}
use Rattle.std.proofs.lemmas.Bool.{and_from, and_parts, le-leb, leb-true, cond-true, cond-false, false_from_ne_true, cases_Bool, cases_lt, and_cases, leb-false, both_ways}
use Rattle.mb_wire.proofs.Buffers.{span_of-take}
use Rattle.mb_wire.specs.Frames.{span_of, IsFrame, IsOpen, IsBad, Reads, begins_with_frame, frames_in, rest_in, frames, rest}
use Rattle.mb_wire.specs.Reader.{ReportsFraming, buffered_after, ended}
use Rattle.mb_wire.specs.declared.frames.Framing.{Framing}
use Rattle.mb_wire.specs.declared.frames.Framing.TheVariants.{Need, Whole, Foreign, Garbled}

abbrev concat : List (List ℕ) → List ℕ
concat frames = flat_map (λ frame. frame) frames

pub span_of-append : (f xs : List ℕ) → 6 ≤ length f → span_of (f ++ xs) ≡ span_of f
span_of-append f xs h =
    let four : 4 < length f = omega arith in
    let five : 5 < length f = omega arith in
    let a = get_or_append_left f xs 0 4 four in
    let b = get_or_append_left f xs 0 5 five in
    cc

pub begins_with_frame-append : (f xs : List ℕ) → IsFrame f → begins_with_frame (f ++ xs) ≡ true
begins_with_frame-append f xs h =
    let six : 6 ≤ length f = omega arith in
    let same : span_of (f ++ xs) ≡ span_of f = span_of-append f xs six in
    let len : length (f ++ xs) ≡ length f + length xs = length-append f xs in
    let low : 2 ≤ span_of (f ++ xs) = omega arith in
    let high : span_of (f ++ xs) ≤ 254 = omega arith in
    let whole : 6 + span_of (f ++ xs) ≤ length (f ++ xs) = omega arith in
    and_from _ _ (and_from _ _ (le-leb _ _ low) (le-leb _ _ high)) (le-leb _ _ whole)

pub rest_is_no_frame : (r : List ℕ) → IsOpen r ⊎ IsBad r → begins_with_frame r ≡ false
rest_is_no_frame r ends =
    false_from_ne_true _ (λ e.
    let outer = and_parts _ _ e in
    let inner = and_parts _ _ outer.0 in
    let low : 2 ≤ span_of r = leb-true _ _ inner.0 in
    let high : span_of r ≤ 254 = leb-true _ _ inner.1 in
    let whole : 6 + span_of r ≤ length r = leb-true _ _ outer.1 in
    let no : ⊥ = elim ends [
      | inl op ↦ elim op [ inl short ↦ absurd (omega arith) | inr w ↦ absurd (omega (arith, w.1)) ]
      | inr bad ↦ elim bad.1 [ inl small ↦ absurd (omega arith) | inr big ↦ absurd (omega arith) ]
    ] in no)

pub only_in : (k : ℕ) (fs : List (List ℕ)) (r : List ℕ) → AllByRecursion IsFrame fs → IsOpen r ⊎ IsBad r → length (concat fs ++ r) ≤ k → (frames_in k (concat fs ++ r) ≡ fs) × (rest_in k (concat fs ++ r) ≡ r)
unfolding frames_in rest_in
only_in zero [] r each ends h = (refl, refl)
only_in (suc k) [] r each ends h =
    let no = rest_is_no_frame r ends in
    (cond-false _ _ _ no, cond-false _ _ _ no)
only_in zero (f ∷ fs) r each ends h =
    let len : length (f ++ (concat fs ++ r)) ≡ length f + length (concat fs ++ r) = length-append f (concat fs ++ r) in
    let asc : length ((f ++ concat fs) ++ r) ≡ length (f ++ (concat fs ++ r)) = ap length (append_assoc f (concat fs) r) in
    let w : length f ≡ 6 + span_of f = each.0.whole in
    absurd (omega arith)
only_in (suc k) (f ∷ fs) r each ends h =
    let whole : length f ≡ 6 + span_of f = each.0.whole in
    let xs = concat fs ++ r in
    let asc : (f ++ concat fs) ++ r ≡ f ++ xs = append_assoc f (concat fs) r in
    let len : length (f ++ xs) ≡ length f + length xs = length-append f xs in
    let lens : length ((f ++ concat fs) ++ r) ≡ length (f ++ xs) = ap length asc in
    let whole_front : begins_with_frame (f ++ xs) ≡ true = begins_with_frame-append f xs each.0 in
    let six : 6 ≤ length f = omega arith in
    let same : span_of (f ++ xs) ≡ span_of f = span_of-append f xs six in
    let at : length f ≡ 6 + span_of (f ++ xs) = omega arith in
    let less : length xs ≤ k = omega arith in
    let ih = only_in k fs r each.1 ends less in
    let front : take (6 + span_of (f ++ xs)) (f ++ xs) ≡ f = take_at f xs _ at in
    let back : drop (6 + span_of (f ++ xs)) (f ++ xs) ≡ xs = drop_at f xs _ at in
    let P : List ℕ → Type 0 = λ ys. (frames_in (suc k) ys ≡ f ∷ fs) × (rest_in (suc k) ys ≡ r) in
    subst P (sym asc) (
      cond-true _ _ _ whole_front ∙ ap (λ y. y ∷ frames_in k (drop (6 + span_of (f ++ xs)) (f ++ xs))) front ∙ ap (λ y. f ∷ frames_in k y) back ∙ ap (λ y. f ∷ y) ih.0,
      cond-true _ _ _ whole_front ∙ ap (λ y. rest_in k y) back ∙ ih.1,
    )

-- The only split of a byte list into complete frames and the bytes after them is the split that the
-- functions `frames` and `rest` compute.
pub Reads-only : (bytes : List ℕ) (fs : List (List ℕ)) (r : List ℕ) → Reads bytes fs r → (frames bytes ≡ fs) × (rest bytes ≡ r)
unfolding frames rest
Reads-only bytes fs r h =
    let P : List ℕ → Type 0 = λ ys. (frames ys ≡ fs) × (rest ys ≡ r) in
    subst P (sym h.joined) (only_in (length (concat fs ++ r)) fs r h.each h.ends (omega arith))

-- If the check `begins_with_frame` succeeds, the first bytes of the list are a complete frame.
-- Their number is 6 plus the value of the length field.
pub frame_in_front : (bytes : List ℕ) → begins_with_frame bytes ≡ true → IsFrame (take (6 + span_of bytes) bytes)
frame_in_front bytes e =
    let outer = and_parts _ _ e in
    let inner = and_parts _ _ outer.0 in
    let low : 2 ≤ span_of bytes = leb-true _ _ inner.0 in
    let high : span_of bytes ≤ 254 = leb-true _ _ inner.1 in
    let whole : 6 + span_of bytes ≤ length bytes = leb-true _ _ outer.1 in
    let six : 6 ≤ 6 + span_of bytes = omega arith in
    let same : span_of (take (6 + span_of bytes) bytes) ≡ span_of bytes = span_of-take (6 + span_of bytes) bytes six in
    let len : length (take (6 + span_of bytes) bytes) ≡ 6 + span_of bytes = length-take-le _ bytes whole in
    record { good = (omega arith, omega arith); whole = omega arith }

pub rest_ends : (bytes : List ℕ) → begins_with_frame bytes ≡ false → IsOpen bytes ⊎ IsBad bytes
rest_ends bytes e =
    elim (cases_lt (length bytes) 6) [
      | inl short ↦ inl (inl short)
      | inr six ↦ elim (cases_lt (span_of bytes) 2) [
        | inl small ↦ inr (six, inl small)
        | inr low ↦ elim (cases_lt 254 (span_of bytes)) [
          | inl big ↦ inr (six, inr big)
          | inr high ↦
              let left = and_from _ _ (le-leb _ _ low) (le-leb _ _ high) in
              elim (and_cases _ _ e) [
                | inl none ↦ absurd (both_ways _ none left)
                | inr none ↦ inl (inr ((low, high), leb-false _ _ none))
              ]
        ]
      ]
    ]

pub Reads-in : (k : ℕ) (bytes : List ℕ) → length bytes ≤ k → Reads bytes (frames_in k bytes) (rest_in k bytes)
unfolding frames_in rest_in
Reads-in zero bytes h = record { joined = refl; each = tt; ends = inl (inl (omega arith)) }
Reads-in (suc k) bytes h =
    let n = 6 + span_of bytes in
    elim (cases_Bool (begins_with_frame bytes)) [
      | inl whole_front ↦
          let len : length (drop n bytes) ≡ length bytes - n = length-drop n bytes in
          let ih = Reads-in k (drop n bytes) (omega arith) in
          let fs_is : take n bytes ∷ frames_in k (drop n bytes) ≡ frames_in (suc k) bytes = sym (cond-true _ _ _ whole_front) in
          let r_is : rest_in k (drop n bytes) ≡ rest_in (suc k) bytes = sym (cond-true _ _ _ whole_front) in
          let whole : bytes ≡ (take n bytes ++ concat (frames_in k (drop n bytes))) ++ rest_in k (drop n bytes) =
          sym (take-append-drop n bytes) ∙ ap (λ y. take n bytes ++ y) ih.joined ∙ sym (append_assoc (take n bytes) (concat (frames_in k (drop n bytes))) (rest_in k (drop n bytes))) in
          let P : List (List ℕ) → Type 0 = λ y. Reads bytes y (rest_in (suc k) bytes) in
          let Q : List ℕ → Type 0 = λ y. Reads bytes (take n bytes ∷ frames_in k (drop n bytes)) y in
          subst P fs_is (subst Q r_is record { joined = whole; each = (frame_in_front bytes whole_front, ih.each); ends = ih.ends })
      | inr none ↦
          let fs_is : [] ≡ frames_in (suc k) bytes = sym (cond-false _ _ _ none) in
          let r_is : bytes ≡ rest_in (suc k) bytes = sym (cond-false _ _ _ none) in
          let P : List (List ℕ) → Type 0 = λ y. Reads bytes y (rest_in (suc k) bytes) in
          let Q : List ℕ → Type 0 = λ y. Reads bytes [] y in
          subst P fs_is (subst Q r_is record { joined = refl; each = tt; ends = rest_ends bytes none })
    ]

pub Reads-is : (bytes : List ℕ) → Reads bytes (frames bytes) (rest bytes)
unfolding frames rest
Reads-is bytes = Reads-in (length bytes) bytes (omega arith)

pub AllByRecursion-append : {X : Type 0} (P : X → Type 0) (xs ys : List X) → AllByRecursion P xs → AllByRecursion P ys → AllByRecursion P (xs ++ ys)
AllByRecursion-append P [] ys h g = g
AllByRecursion-append P (x ∷ xs) ys h g = (h.0, AllByRecursion-append P xs ys h.1 g)

-- Suppose that the bytes after a stream's complete frames form one frame together with the new
-- bytes `p`. Then the longer stream has this frame last, and no further bytes.
more_frame : (bytes r p : List ℕ) (fs : List (List ℕ)) → Reads bytes fs r → IsFrame (r ++ p) → Reads (bytes ++ p) (fs ++ (r ++ p) ∷ []) []
more_frame bytes r p fs h f =
    record {
      joined =
          ap (λ y. y ++ p) h.joined
          ∙ append_assoc (concat fs) r p
          ∙ sym (ap (λ y. concat fs ++ y) (append-nil (r ++ p)))
          ∙ sym (flat_map-append (λ frame. frame) fs ((r ++ p) ∷ []))
          ∙ sym (append-nil _);
      each = AllByRecursion-append IsFrame fs ((r ++ p) ∷ []) h.each (f, tt);
      ends = inl (inl (lit< tt));
    }

-- Suppose that the bytes after a stream's complete frames form no complete frame, even together
-- with the new bytes `p`. Then the longer stream has the same complete frames.
more_rest : (bytes r p : List ℕ) (fs : List (List ℕ)) → Reads bytes fs r → IsOpen (r ++ p) ⊎ IsBad (r ++ p) → Reads (bytes ++ p) (fs ++ []) (r ++ p)
more_rest bytes r p fs h ends =
    let P : List (List ℕ) → Type 0 = λ y. Reads (bytes ++ p) y (r ++ p) in
    subst P (sym (append-nil fs))
    record { joined = ap (λ y. y ++ p) h.joined ∙ append_assoc (concat fs) r p; each = h.each; ends = ends }

-- After a call of the frame reader, the stream has the earlier frames, followed by the frame that
-- the call completed. If the call completed no frame, the consumed bytes follow the last complete
-- frame.
pub Reads-fed : (what : Framing) (bytes r p : List ℕ) (fs : List (List ℕ)) → Reads bytes fs r → ReportsFraming what (r ++ p) → Reads (bytes ++ p) (fs ++ ended what (r ++ p)) ((buffered_after what (r ++ p)).rest)
Reads-fed Need bytes r p fs h t = more_rest bytes r p fs h (inl t)
Reads-fed Whole bytes r p fs h t = more_frame bytes r p fs h t.0
Reads-fed Foreign bytes r p fs h t = more_frame bytes r p fs h t.0
Reads-fed Garbled bytes r p fs h t = more_rest bytes r p fs h (inr t.0)
