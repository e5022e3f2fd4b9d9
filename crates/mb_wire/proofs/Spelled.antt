-- Proves that a frame is the only encoding of its fields.
use Rattle.std.proofs.Common.{◌≡◌, ℕ, ◌+◌, ◌*◌, ◌/◌, ◌%◌, ◌<◌, List, [], ◌∷◌, ◌++◌, length, sym, ap, ◌∙◌, arith}
use Rattle.mb_wire.specs.Bytes.{AreBytes, word}
use Rattle.mb_wire.specs.Frames.{IsFrame, IsOwn, tid_of, unit_of, pdu_of}
use Rattle.mb_wire.specs.Reader.{Fields, fields_of, spelling}

-- Two bytes are the encoding of the 16-bit number that they form.
word_again : (high low : ℕ) → low < 256 → word (256 * high + low) ≡ high ∷ low ∷ []
word_again high low small =
    let first : (256 * high + low) / 256 ≡ high = omega arith in
    let second : (256 * high + low) % 256 ≡ low = omega arith in
    ap (λ x. x ∷ (256 * high + low) % 256 ∷ []) first ∙ ap (λ x. high ∷ x ∷ []) second

word_zero : (high low : ℕ) → 256 * high + low ≡ 0 → word 0 ≡ high ∷ low ∷ []
word_zero high low none =
    let first : 0 ≡ high = omega arith in
    let second : 0 ≡ low = omega arith in
    ap (λ x. x ∷ 0 ∷ []) first ∙ ap (λ x. high ∷ x ∷ []) second

pub spelled_again : (bytes : List ℕ) → AreBytes bytes → IsFrame bytes → IsOwn bytes → bytes ≡ spelling (tid_of bytes) (unit_of bytes) (pdu_of bytes)
spelled_again [] are frame own = absurd (omega (arith, frame.whole))
spelled_again (a ∷ []) are frame own = absurd (omega (arith, frame.whole))
spelled_again (a ∷ b ∷ []) are frame own = absurd (omega (arith, frame.whole))
spelled_again (a ∷ b ∷ c ∷ []) are frame own = absurd (omega (arith, frame.whole))
spelled_again (a ∷ b ∷ c ∷ d ∷ []) are frame own = absurd (omega (arith, frame.whole))
spelled_again (a ∷ b ∷ c ∷ d ∷ e ∷ []) are frame own = absurd (omega (arith, frame.whole))
spelled_again (a ∷ b ∷ c ∷ d ∷ e ∷ f ∷ []) are frame own = absurd (omega (arith, frame.whole, frame.good.0))
spelled_again (a ∷ b ∷ c ∷ d ∷ e ∷ f ∷ unit ∷ pdu) are frame own =
    let size : 1 + length pdu ≡ 256 * e + f = omega (arith, frame.whole) in
    let tid = word_again a b (are 1) in
    let protocol = word_zero c d own in
    let span = ap word size ∙ word_again e f (are 5) in
    sym (
    ap (λ x. x ++ word 0 ++ word (1 + length pdu) ++ unit ∷ pdu) tid
    ∙ ap (λ x. (a ∷ b ∷ []) ++ x ++ word (1 + length pdu) ++ unit ∷ pdu) protocol
    ∙ ap (λ x. (a ∷ b ∷ []) ++ (c ∷ d ∷ []) ++ x ++ unit ∷ pdu) span)

pub same_fields : (one other : List ℕ) → AreBytes one → IsFrame one → IsOwn one → AreBytes other → IsFrame other → IsOwn other → fields_of one ≡ fields_of other → one ≡ other
same_fields one other one_are one_frame one_own other_are other_frame other_own same =
    spelled_again one one_are one_frame one_own
    ∙ ap (λ (x : Fields). spelling x.tid x.unit x.pdu) same
    ∙ sym (spelled_again other other_are other_frame other_own)
