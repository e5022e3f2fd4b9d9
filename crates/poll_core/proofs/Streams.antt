-- Lemmas about the bytes that a device sent, to which further bytes are appended: which frames they
-- contain, and whether they are garbled (have an invalid length field).
use Rattle.std.proofs.Common.{◌≡◌, ℕ, ◌+◌, ◌≤◌, inl, inr, Bool, true, false, cond, not, ◌&&◌, List, [], ◌∷◌, ◌++◌, length, drop, refl, sym, ap, ◌∙◌, arith, append_assoc, length-append, Some}
use Rattle.std.specs.List.{flat_map, AllByRecursion}
use Rattle.std.proofs.lemmas.List.{append-nil, drop-append-le, get_or_append_left}
use Rattle.std.proofs.lemmas.List.Concat.{flat_map-append}
use Rattle.std.proofs.lemmas.Bool.{and_from, and_parts, or_left, or_right, or_cases, le-leb, leb-true, lt-ltb, ltb-true, false_from_ne_true, cond-false}
use Rattle.mb_wire.specs.Frames.{span_of, IsFrame, IsOpen, IsBad, Reads, frames, rest, is_bad, is_garbled}
use Rattle.poll_core.specs.declared.outcome.LostCause.TheVariants.{Garbled}
use Rattle.poll_core.specs.Settling.{Event, Piece, stream, frames_at, ending_at, bytes_of, closing_of}

-- The statement that each byte list splits in exactly one way into complete frames and the bytes
-- after them.
pub record OneReading : Type 0 where
  pub exists : (bytes : List ℕ) → Reads bytes (frames bytes) (rest bytes)
  pub only : (bytes : List ℕ) (others : List (List ℕ)) (unread : List ℕ) → Reads bytes others unread → (frames bytes ≡ others) × (rest bytes ≡ unread)

AllByRecursion-append : {X : Type 0} (P : X → Type 0) (xs ys : List X) → AllByRecursion P xs → AllByRecursion P ys → AllByRecursion P (xs ++ ys)
AllByRecursion-append P [] ys h g = g
AllByRecursion-append P (x ∷ xs) ys h g = (h.0, AllByRecursion-append P xs ys h.1 g)

span_of-append : (r q : List ℕ) → 6 ≤ length r → span_of (r ++ q) ≡ span_of r
span_of-append r q six =
    let fifth = get_or_append_left r q 0 4 (omega arith) in
    let sixth = get_or_append_left r q 0 5 (omega arith) in
    cc

abbrev concat : List (List ℕ) → List ℕ
concat fs = flat_map (λ frame. frame) fs

pub bad_is : (r : List ℕ) → is_bad r ≡ true → IsBad r
bad_is r e =
    let both = and_parts _ _ e in
    let six : 6 ≤ length r = leb-true _ _ both.0 in
    elim (or_cases _ _ both.1) [
      | inl low ↦ (six, inl (ltb-true _ _ low))
      | inr high ↦ (six, inr (ltb-true _ _ high))
    ]

pub is_bad-bad : (r : List ℕ) → IsBad r → is_bad r ≡ true
is_bad-bad r (six, inl low) = and_from _ _ (le-leb _ _ six) (or_left _ _ (lt-ltb _ _ low))
is_bad-bad r (six, inr high) = and_from _ _ (le-leb _ _ six) (or_right _ _ (lt-ltb _ _ high))

pub is_bad-open : (r : List ℕ) → IsOpen r → is_bad r ≡ false
is_bad-open r op =
    false_from_ne_true _ (λ e.
    let bad = bad_is r e in
    let six : 6 ≤ length r = bad.0 in
    let no : ⊥ = elim op [
      | inl short ↦ absurd (omega arith)
      | inr w ↦ elim bad.1 [ inl low ↦ absurd (omega (arith, w.0.0)) | inr high ↦ absurd (omega (arith, w.0.1)) ]
    ] in no)

bad-append : (r q : List ℕ) → IsBad r → IsBad (r ++ q)
bad-append r q (six, ways) =
    let len : length (r ++ q) ≡ length r + length q = length-append r q in
    let same : span_of (r ++ q) ≡ span_of r = span_of-append r q six in
    (omega arith, elim ways [ inl low ↦ inl (omega arith) | inr high ↦ inr (omega arith) ])

-- If a stream has an invalid length field, then appending more bytes completes no further frame.
garbled_reads : (one : OneReading) → (b q : List ℕ) → is_garbled b ≡ true → Reads (b ++ q) (frames b) (rest b ++ q)
unfolding is_garbled
garbled_reads one b q g =
    let h = one.exists b in
    record {
      joined = ap (λ y. y ++ q) h.joined ∙ append_assoc (concat (frames b)) (rest b) q;
      each = h.each;
      ends = inr (bad-append (rest b) q (bad_is (rest b) g));
    }

pub frames-garbled : (one : OneReading) → (b q : List ℕ) → is_garbled b ≡ true → frames (b ++ q) ≡ frames b
frames-garbled one b q g = (one.only (b ++ q) (frames b) (rest b ++ q) (garbled_reads one b q g)).0

pub is_garbled-append : (one : OneReading) → (b q : List ℕ) → is_garbled b ≡ true → is_garbled (b ++ q) ≡ true
unfolding is_garbled
is_garbled-append one b q g =
    let h = garbled_reads one b q g in
    let bad : IsBad (rest b ++ q) = bad-append (rest b) q (bad_is (rest b) g) in
    ap is_bad (one.only (b ++ q) (frames b) (rest b ++ q) h).1 ∙ is_bad-bad _ bad

-- Suppose that the bytes after a stream's complete frames, together with new bytes, form the frames
-- `gs`. Then the longer stream has the frames of the shorter stream, followed by `gs`.
pub reads_on : (one : OneReading) → (b q : List ℕ) (gs : List (List ℕ)) (s : List ℕ) → Reads (rest b ++ q) gs s → Reads (b ++ q) (frames b ++ gs) s
reads_on one b q gs s g =
    let h = one.exists b in
    record {
      joined =
          ap (λ y. y ++ q) h.joined
          ∙ append_assoc (concat (frames b)) (rest b) q
          ∙ ap (λ y. concat (frames b) ++ y) g.joined
          ∙ sym (append_assoc (concat (frames b)) (concat gs) s)
          ∙ sym (ap (λ y. y ++ s) (flat_map-append (λ frame. frame) (frames b) gs));
      each = AllByRecursion-append IsFrame (frames b) gs h.each g.each;
      ends = g.ends;
    }

pub frames-longer : (one : OneReading) → (b q : List ℕ) → length (frames b) ≤ length (frames (b ++ q))
frames-longer one b q =
    let gs = frames (rest b ++ q) in
    let h = reads_on one b q gs (rest (rest b ++ q)) (one.exists (rest b ++ q)) in
    let e : length (frames (b ++ q)) ≡ length (frames b ++ gs) = ap length (one.only (b ++ q) (frames b ++ gs) _ h).0 in
    let l : length (frames b ++ gs) ≡ length (frames b) + length gs = length-append (frames b) gs in
    omega arith

pub is_garbled-reads : (one : OneReading) → (b : List ℕ) (fs : List (List ℕ)) (r : List ℕ) → Reads b fs r → is_garbled b ≡ is_bad r
unfolding is_garbled
is_garbled-reads one b fs r h = ap is_bad (one.only b fs r h).1

pub stream-push : (es : List Event) (e : Event) → stream (es ++ e ∷ []) ≡ stream es ++ bytes_of e
unfolding stream
stream-push es e = flat_map-append bytes_of es (e ∷ []) ∙ ap (λ y. flat_map bytes_of es ++ y) (append-nil (bytes_of e))

-- If bytes are appended to a chunk, its frames are those of the shorter chunk, followed by the
-- frames that the added bytes complete.
pub frames_at-more : (one : OneReading) → (es : List Event) (m : ℕ) (p q : List ℕ) (gs : List (List ℕ)) (r : List ℕ) → Reads ((stream es ++ p) ++ q) (frames (stream es ++ p) ++ gs) r → frames_at es (Piece m (p ++ q)) ≡ frames_at es (Piece m p) ++ gs
unfolding frames_at
frames_at-more one es m p q gs r h =
    let n = length (frames (stream es)) in
    ap (λ b. drop n (frames b)) (sym (append_assoc (stream es) p q))
    ∙ ap (drop n) (one.only _ _ r h).0
    ∙ drop-append-le n (frames (stream es ++ p)) gs (frames-longer one (stream es) p)

drop-all : {X : Type 0} (xs : List X) → drop (length xs) xs ≡ []
drop-all [] = refl
drop-all (x ∷ xs) = drop-all xs

and_not : (b : Bool) → (b && not b) ≡ false
and_not true = refl
and_not false = refl

-- An event without bytes completes no frame.
pub frames_at-nil : (es : List Event) (e : Event) → bytes_of e ≡ [] → frames_at es e ≡ []
unfolding frames_at
frames_at-nil es e none =
    let b = stream es in
    ap (λ y. drop (length (frames b)) (frames y)) (ap (λ y. b ++ y) none ∙ append-nil b)
    ∙ drop-all (frames b)

pub ending_at-nil : (es : List Event) (e : Event) → bytes_of e ≡ [] → ending_at es e ≡ closing_of e
unfolding ending_at
ending_at-nil es e none =
    let b = stream es in
    ap (λ y. cond (is_garbled y && not (is_garbled b)) (Some Garbled) (closing_of e)) (ap (λ y. b ++ y) none ∙ append-nil b)
    ∙ cond-false _ _ _ (and_not (is_garbled b))
