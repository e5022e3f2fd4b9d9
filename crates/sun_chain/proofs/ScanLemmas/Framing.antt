-- Lemmas that the Modbus TCP frames of a byte stream do not depend on the chunks in which the
-- stream arrives.
use Rattle.std.proofs.Common.{◌≡◌, ℕ, ◌+◌, ◌-◌, ◌<◌, ◌⊎◌, inl, inr, List, [], ◌∷◌, ◌++◌, length, take, drop, refl, sym, ap, ◌∙◌, subst, arith, append_assoc, length-append, lit<}
use Rattle.std.specs.List.{flat_map}
use Rattle.std.proofs.lemmas.List.{append-nil, take_all, take-append-drop, take_rest}
use Rattle.std.proofs.lemmas.List.Concat.{flat_map-append}
use Rattle.mb_wire.specs.Frames.{span_of, IsFrame, IsOpen, IsBad, frames, rest}
use Rattle.mb_wire.specs.Reader.{Buffered, ReportsFraming, buffered_after, ended}
use Rattle.mb_wire.specs.declared.frames.Framing.{Framing}
use Rattle.mb_wire.specs.declared.frames.Framing.TheVariants.{Need, Whole, Foreign, Garbled}
use Rattle.mb_wire.proofs.Readings.{AllByRecursion-append, Reads-is, Reads-only, span_of-append}

abbrev concat : List (List ℕ) → List ℕ
concat all = flat_map (λ frame. frame) all

-- The part of a list of bytes from a given index to the end of the list.
abbrev pub from : ℕ → List ℕ → List ℕ
from n bytes = take (length bytes - n) (drop n bytes)

pub whole_again : (n : ℕ) (bytes : List ℕ) → take n bytes ++ from n bytes ≡ bytes
whole_again n bytes = ap (λ t. take n bytes ++ t) (take_rest bytes n) ∙ take-append-drop n bytes

-- The complete frames of the stream `a ++ b` are those of `a`, followed by those that the bytes
-- left over from `a` form with `b`.
pub frames-then : (a b : List ℕ) → (frames (a ++ b) ≡ frames a ++ frames (rest a ++ b)) × (rest (a ++ b) ≡ rest (rest a ++ b))
frames-then a b =
    let first = Reads-is a in
    let next = Reads-is (rest a ++ b) in
    let fs = frames a in
    let gs = frames (rest a ++ b) in
    let left = rest (rest a ++ b) in
    Reads-only (a ++ b) (fs ++ gs) left record {
      joined =
          ap (λ y. y ++ b) first.joined
          ∙ append_assoc (concat fs) (rest a) b
          ∙ ap (λ y. concat fs ++ y) next.joined
          ∙ sym (append_assoc (concat fs) (concat gs) left)
          ∙ ap (λ y. y ++ left) (sym (flat_map-append (λ frame. frame) fs gs));
      each = AllByRecursion-append IsFrame fs gs first.each next.each;
      ends = next.ends;
    }

-- An incomplete or invalid frame contains no complete frame: all bytes of the frame are left over.
pub rest_alone : (b : List ℕ) → IsOpen b ⊎ IsBad b → (frames b ≡ []) × (rest b ≡ b)
rest_alone b ends = Reads-only b [] b record { joined = refl; each = tt; ends = ends }

frame_alone : (b : List ℕ) → IsFrame b → (frames b ≡ b ∷ []) × (rest b ≡ [])
frame_alone b whole =
    Reads-only b (b ∷ []) [] record {
      joined = sym (append-nil (b ++ []) ∙ append-nil b);
      each = (whole, tt);
      ends = inl (inl (lit< tt));
    }

pub open_nil : IsOpen []
open_nil = inl (lit< tt)

-- If a stream has an invalid length field after its complete frames, then it still has this invalid
-- length field there after more bytes arrive.
pub bad_stays : (b left : List ℕ) → IsBad b → IsBad (rest (b ++ left))
bad_stays b left bad =
    let same : span_of (b ++ left) ≡ span_of b = span_of-append b left bad.0 in
    let long : length (b ++ left) ≡ length b + length left = length-append b left in
    let still : IsBad (b ++ left) = (omega arith, subst (λ n. (n < 2) ⊎ (254 < n)) (sym same) bad.1) in
    let alone = rest_alone (b ++ left) (inr still) in
    subst IsBad (sym alone.1) still

-- The bytes since the last frame contain exactly the frame that `feed` (which passes a chunk to the
-- frame reader) reports as completed, or none if `feed` reports none.
pub reported : (what : Framing) (b : List ℕ) → ReportsFraming what b → (frames b ≡ ended what b) × (rest b ≡ (buffered_after what b).rest)
reported Need b reports = rest_alone b (inl reports)
reported Whole b reports = frame_alone b reports.0
reported Foreign b reports = frame_alone b reports.0
reported Garbled b reports = rest_alone b (inr reports.0)

-- A chunk of a stream consists of the bytes that a call of `feed` (which passes the chunk to the
-- frame reader) consumed, followed by the remaining bytes.
pub piece_is : (r piece : List ℕ) (taken : ℕ) → r ++ piece ≡ (r ++ take taken piece) ++ from taken piece
piece_is r piece taken = ap (λ y. r ++ y) (sym (whole_again taken piece)) ∙ sym (append_assoc r (take taken piece) (from taken piece))

pub piece_rest : (what : Framing) (r piece : List ℕ) (taken : ℕ) (buffered : Buffered) → ReportsFraming what (r ++ take taken piece) → buffered ≡ buffered_after what (r ++ take taken piece)
    → rest (r ++ piece) ≡ rest (buffered.rest ++ from taken piece)
piece_rest what r piece taken buffered reports is =
    let b = r ++ take taken piece in
    let stays : rest b ≡ buffered.rest = (reported what b reports).1 ∙ ap (λ (h : Buffered). h.rest) (sym is) in
    ap rest (piece_is r piece taken) ∙ (frames-then b (from taken piece)).1 ∙ ap (λ y. rest (y ++ from taken piece)) stays

-- If a call of `feed` (which passes a chunk to the frame reader) consumes all of the chunk and
-- completes no frame, then all bytes of the chunk are buffered.
pub need_rest : (what : Framing) (r piece : List ℕ) (taken : ℕ) (buffered : Buffered) → ReportsFraming what (r ++ take taken piece) → buffered ≡ buffered_after what (r ++ take taken piece)
    → what ≡ Need → taken ≡ length piece → (buffered.rest ≡ rest (r ++ piece)) × IsOpen buffered.rest × (frames (r ++ piece) ≡ []) × (buffered ≡ buffered_after Need (r ++ piece))
need_rest what r piece taken buffered reports is need all =
    let b = r ++ take taken piece in
    let whole : b ≡ r ++ piece = ap (λ y. r ++ y) (take_all taken piece (omega arith)) in
    let open_b : IsOpen b = subst (λ w. ReportsFraming w b) need reports in
    let is_open : IsOpen (r ++ piece) = subst IsOpen whole open_b in
    let alone = rest_alone (r ++ piece) (inl is_open) in
    let is_need : buffered ≡ buffered_after Need (r ++ piece) = is ∙ ap (λ w. buffered_after w b) need ∙ ap (buffered_after Need) whole in
    let stays : buffered.rest ≡ r ++ piece = ap (λ (h : Buffered). h.rest) is_need in
    (stays ∙ sym alone.1, subst IsOpen (sym stays) is_open, alone.0, is_need)

-- If a call of `feed` (which passes a chunk to the frame reader) ends at an invalid length field,
-- then the stream has this invalid header after the last frame.
pub garbled_rest : (what : Framing) (r piece : List ℕ) (taken : ℕ) → ReportsFraming what (r ++ take taken piece) → what ≡ Garbled → IsBad (rest (r ++ piece))
garbled_rest what r piece taken reports garbled =
    let b = r ++ take taken piece in
    let bad : ReportsFraming Garbled b = subst (λ w. ReportsFraming w b) garbled reports in
    subst (λ y. IsBad (rest y)) (sym (piece_is r piece taken)) (bad_stays b (from taken piece) bad.0)

-- If no bytes follow an incomplete frame, then no frame is completed, and all bytes of the frame
-- are left over.
pub nothing_came : (r : List ℕ) → IsOpen r → (frames (r ++ []) ≡ []) × (r ≡ rest (r ++ []))
nothing_came r is_open =
    let alone = rest_alone r (inl is_open) in
    (ap frames (append-nil r) ∙ alone.0, sym alone.1 ∙ sym (ap rest (append-nil r)))

-- The frames of a stream are those of the bytes that arrived first, followed by those that the
-- leftover bytes form with the bytes that arrive later.
pub came_more : (r came more : List ℕ) → (frames (r ++ (came ++ more)) ≡ frames (r ++ came) ++ frames (rest (r ++ came) ++ more)) × (rest (r ++ (came ++ more)) ≡ rest (rest (r ++ came) ++ more))
came_more r came more =
    let joined : r ++ (came ++ more) ≡ (r ++ came) ++ more = sym (append_assoc r came more) in
    let parts = frames-then (r ++ came) more in
    (ap frames joined ∙ parts.0, ap rest joined ∙ parts.1)
