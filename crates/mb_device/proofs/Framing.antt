-- Lemmas: the frames of a stream that arrives in chunks are the frames that its chunks complete,
-- one after another.
use Rattle.std.proofs.Common.{◌≡◌, ℕ, ◌+◌, ◌<◌, ◌⊎◌, inl, inr, List, [], ◌∷◌, ◌++◌, length, take, refl, sym, ap, ◌∙◌, subst, arith, append_assoc, length-append, lit<}
use Rattle.std.specs.List.{flat_map, filter}
use Rattle.std.proofs.lemmas.List.{append-nil, take_all}
use Rattle.std.proofs.lemmas.List.Concat.{flat_map-append}
use Rattle.std.proofs.lemmas.List.Elements.{filter-append}
use Rattle.std.proofs.lemmas.Bool.{cond-true, cond-false, eq-eqb, ne_eqb}
use Rattle.mb_wire.specs.Frames.{span_of, IsFrame, IsOpen, IsBad, frames, rest}
use Rattle.mb_wire.specs.Reader.{Buffered, ReportsFraming, buffered_after}
use Rattle.mb_wire.specs.declared.frames.Framing.{Framing}
use Rattle.mb_wire.specs.declared.frames.Framing.TheVariants.{Need, Whole, Foreign, Garbled}
use Rattle.mb_wire.proofs.Readings.{AllByRecursion-append, Reads-is, Reads-only, span_of-append}
use Rattle.mb_wire.proofs.Giving.{from, whole_again}
use Rattle.mb_device.specs.Server.{buffered_frames, is_own, own_frames}

abbrev concat : List (List ℕ) → List ℕ
concat frames = flat_map (λ frame. frame) frames

-- The complete frames of the stream `a ++ b` are those of `a`, followed by those that the bytes
-- left over from `a` form with `b`.
pub frames-then : (a b : List ℕ) → (frames (a ++ b) ≡ frames a ++ frames (rest a ++ b)) × (rest (a ++ b) ≡ rest (rest a ++ b))
frames-then a b =
    let first = Reads-is a in
    let next = Reads-is (rest a ++ b) in
    let fs = frames a in
    let gs = frames (rest a ++ b) in
    let left = rest (rest a ++ b) in
    Reads-only (a ++ b) (fs ++ gs) left record {
      joined =
          ap (λ y. y ++ b) first.joined
          ∙ append_assoc (concat fs) (rest a) b
          ∙ ap (λ y. concat fs ++ y) next.joined
          ∙ sym (append_assoc (concat fs) (concat gs) left)
          ∙ ap (λ y. y ++ left) (sym (flat_map-append (λ frame. frame) fs gs));
      each = AllByRecursion-append IsFrame fs gs first.each next.each;
      ends = next.ends;
    }

pub own_frames-then : (a b : List ℕ) → own_frames (a ++ b) ≡ own_frames a ++ own_frames (rest a ++ b)
own_frames-then a b = ap (filter is_own) (frames-then a b).0 ∙ filter-append is_own (frames a) (frames (rest a ++ b))

-- If some bytes are an incomplete frame or begin with an invalid header, then they contain no
-- complete frame. All of the bytes are left over.
rest_alone : (b : List ℕ) → IsOpen b ⊎ IsBad b → (frames b ≡ []) × (rest b ≡ b)
rest_alone b ends = Reads-only b [] b record { joined = refl; each = tt; ends = ends }

frame_alone : (b : List ℕ) → IsFrame b → (frames b ≡ b ∷ []) × (rest b ≡ [])
frame_alone b whole =
    Reads-only b (b ∷ []) [] record {
      joined = sym (append-nil (b ++ []) ∙ append-nil b);
      each = (whole, tt);
      ends = inl (inl (lit< tt));
    }

pub open_alone : (b : List ℕ) → IsOpen b → (own_frames b ≡ []) × (rest b ≡ b)
open_alone b is_open = let alone = rest_alone b (inl is_open) in (ap (filter is_own) alone.0, alone.1)

pub bad_alone : (b left : List ℕ) → IsBad b → (own_frames (b ++ left) ≡ []) × IsBad (rest (b ++ left))
bad_alone b left bad =
    let same : span_of (b ++ left) ≡ span_of b = span_of-append b left bad.0 in
    let long : length (b ++ left) ≡ length b + length left = length-append b left in
    let still : IsBad (b ++ left) = (omega arith, subst (λ n. (n < 2) ⊎ (254 < n)) (sym same) bad.1) in
    let alone = rest_alone (b ++ left) (inr still) in
    (ap (filter is_own) alone.0, subst IsBad (sym alone.1) still)

-- When the reader of frames stops consuming bytes, it holds the Modbus frame that the consumed
-- bytes complete, if they complete one.
reported_frames : (what : Framing) (b : List ℕ) → ReportsFraming what b → (own_frames b ≡ buffered_frames (buffered_after what b).frame) × (rest b ≡ (buffered_after what b).rest)
reported_frames Need b reports = open_alone b reports
reported_frames Whole b reports =
    let alone = frame_alone b reports.0 in
    (ap (filter is_own) alone.0 ∙ cond-true _ _ _ (eq-eqb _ _ reports.1), alone.1)
reported_frames Foreign b reports =
    let alone = frame_alone b reports.0 in
    (ap (filter is_own) alone.0 ∙ cond-false _ _ _ (ne_eqb _ _ reports.1), alone.1)
reported_frames Garbled b reports = let alone = rest_alone b (inr reports.0) in (ap (filter is_own) alone.0, alone.1)

-- Suppose that the reader of frames consumed a part of a chunk. Then the chunk's Modbus frames are
-- the frame in the reader, if any, followed by those of the bytes not consumed.
pub piece_frames : (what : Framing) (r piece : List ℕ) (taken : ℕ) (buffered : Buffered) → ReportsFraming what (r ++ take taken piece) → buffered ≡ buffered_after what (r ++ take taken piece)
    → (own_frames (r ++ piece) ≡ buffered_frames buffered.frame ++ own_frames (buffered.rest ++ from taken piece)) × (rest (r ++ piece) ≡ rest (buffered.rest ++ from taken piece))
piece_frames what r piece taken buffered reports is =
    let b = r ++ take taken piece in
    let left = from taken piece in
    let reported = reported_frames what b reports in
    let whole : r ++ piece ≡ b ++ left = ap (λ y. r ++ y) (sym (whole_again taken piece)) ∙ sym (append_assoc r (take taken piece) left) in
    let frame : buffered_frames (buffered_after what b).frame ≡ buffered_frames buffered.frame = ap (λ (h : Buffered). buffered_frames h.frame) (sym is) in
    let stays : rest b ≡ buffered.rest = reported.1 ∙ ap (λ (h : Buffered). h.rest) (sym is) in (
      ap own_frames whole ∙ own_frames-then b left ∙ ap (λ y. y ++ own_frames (rest b ++ left)) (reported.0 ∙ frame) ∙ ap (λ y. buffered_frames buffered.frame ++ own_frames (y ++ left)) stays,
      ap rest whole ∙ (frames-then b left).1 ∙ ap (λ y. rest (y ++ left)) stays,
    )

-- If the reader of frames consumed all of a chunk and completed no frame, it has buffered the bytes
-- after the stream's last complete frame.
pub need_piece : (what : Framing) (r piece : List ℕ) (taken : ℕ) (buffered : Buffered) → ReportsFraming what (r ++ take taken piece) → buffered ≡ buffered_after what (r ++ take taken piece) → what ≡ Need → taken ≡ length piece
    → (own_frames (r ++ piece) ≡ buffered_frames buffered.frame) × IsOpen (rest (r ++ piece)) × (buffered.rest ≡ rest (r ++ piece))
need_piece what r piece taken buffered reports is need all =
    let b = r ++ take taken piece in
    let whole : b ≡ r ++ piece = ap (λ y. r ++ y) (take_all taken piece (omega arith)) in
    let reported : ReportsFraming Need b = subst (λ w. ReportsFraming w b) need reports in
    let is_need : buffered ≡ buffered_after Need b = is ∙ ap (λ w. buffered_after w b) need in
    let alone = open_alone b reported in
    let nothing : buffered_frames buffered.frame ≡ [] = ap (λ (h : Buffered). buffered_frames h.frame) is_need in
    let stays : buffered.rest ≡ b = ap (λ (h : Buffered). h.rest) is_need in (
      ap own_frames (sym whole) ∙ alone.0 ∙ sym nothing,
      subst (λ y. IsOpen (rest y)) whole (subst IsOpen (sym alone.1) reported),
      stays ∙ sym alone.1 ∙ ap rest whole,
    )

-- If the reader of frames stopped at an invalid length field, the stream has that invalid header
-- after its last complete frame.
pub garbled_piece : (what : Framing) (r piece : List ℕ) (taken : ℕ) (buffered : Buffered) → ReportsFraming what (r ++ take taken piece) → buffered ≡ buffered_after what (r ++ take taken piece) → what ≡ Garbled
    → (own_frames (r ++ piece) ≡ buffered_frames buffered.frame) × IsBad (rest (r ++ piece))
garbled_piece what r piece taken buffered reports is garbled =
    let b = r ++ take taken piece in
    let whole : b ++ from taken piece ≡ r ++ piece = append_assoc r (take taken piece) (from taken piece) ∙ ap (λ y. r ++ y) (whole_again taken piece) in
    let reported : ReportsFraming Garbled b = subst (λ w. ReportsFraming w b) garbled reports in
    let is_garbled : buffered ≡ buffered_after Garbled b = is ∙ ap (λ w. buffered_after w b) garbled in
    let alone = bad_alone b (from taken piece) reported.0 in
    let nothing : buffered_frames buffered.frame ≡ [] = ap (λ (h : Buffered). buffered_frames h.frame) is_garbled in (
      ap own_frames (sym whole) ∙ alone.0 ∙ sym nothing,
      subst (λ y. IsBad (rest y)) whole alone.1,
    )

-- An incomplete frame without further bytes completes no frame and remains buffered.
pub nothing_taken : (buffered : List ℕ) → IsOpen buffered → (own_frames (buffered ++ []) ≡ []) × (rest (buffered ++ []) ≡ buffered)
nothing_taken buffered is_open = let alone = open_alone buffered is_open in (ap own_frames (append-nil buffered) ∙ alone.0, ap rest (append-nil buffered) ∙ alone.1)

-- The frames of a longer stream are those of the bytes read until now, followed by those that the
-- bytes left over form with the new bytes.
pub taken_more : (buffered taken more : List ℕ) → (own_frames (buffered ++ (taken ++ more)) ≡ own_frames (buffered ++ taken) ++ own_frames (rest (buffered ++ taken) ++ more)) × (rest (buffered ++ (taken ++ more)) ≡ rest (rest (buffered ++ taken) ++ more))
taken_more buffered taken more =
    let joined : buffered ++ (taken ++ more) ≡ (buffered ++ taken) ++ more = sym (append_assoc buffered taken more) in
    (ap own_frames joined ∙ own_frames-then (buffered ++ taken) more, ap rest joined ∙ (frames-then (buffered ++ taken) more).1)
