-- Proves that a successful response has the number of registers that the poll requested.
use Rattle.std.proofs.Common.{◌≡◌, ℕ, zero, suc, ◌+◌, ◌*◌, Bool, true, false, not, ◌&&◌, ◌==◌, cond, List, [], ◌∷◌, length, drop, refl, sym, ap, ◌∙◌, arith, length-drop, Some, None}
use Rattle.std.proofs.lemmas.Bool.{or_parts, eqb-true}
use Rattle.mb_wire.specs.Bytes.{words_of}
use Rattle.mb_wire.specs.Frames.{unit_of, pdu_of}
use Rattle.mb_wire.specs.Replies as replies
use Rattle.mb_wire.specs.Replies.{answer_in, is_exception, is_wrong_function, is_wrong_length, is_wrong_byte_count, is_wrong_echo}
use Rattle.mb_wire.specs.RequestFaults.{value_unless}
use Rattle.mb_wire.specs.Requests.{Query, ReadHolding, ReadInput, query_of}
use Rattle.mb_wire.specs.Spans.{Span, read_request, request_of}
use Rattle.mb_wire.specs.declared.replies.ReplyFault.TheVariants.{WrongFunction, WrongLength, WrongByteCount, WrongEcho}
use Rattle.mb_wire.specs.declared.span.ReadFunction.{ReadFunction}
use Rattle.mb_wire.specs.declared.span.ReadFunction.TheVariants.{HoldingRegisters, InputRegisters}
use Rattle.std.specs.List.{slice_index}
use Rattle.poll_core.specs.Polls.{Poll}
use Rattle.poll_core.specs.Settling.{Answered, Malformed, answer, by_reply}
use Rattle.poll_core.specs.declared.outcome.Malformation.TheVariants.{WrongUnit}

length-words_of : (bytes : List ℕ) (n : ℕ) → length bytes ≡ 2 * n → length (words_of bytes) ≡ n
length-words_of [] n h = omega arith
length-words_of (high ∷ []) n h = absurd (omega arith)
length-words_of (high ∷ low ∷ bytes) zero h = absurd (omega arith)
length-words_of (high ∷ low ∷ bytes) (suc n) h = ap suc (length-words_of bytes n (omega arith))

-- If a response has no fault and is no exception, then it has as many registers as its byte count
-- requires.
no_fault : (wrong_function wrong_length wrong_count wrong_echo exception : Bool) (code count : ℕ) (ws words : List ℕ)
    → (exception ≡ false → wrong_length ≡ false → wrong_count ≡ false → length ws ≡ count)
    → by_reply (value_unless (cond wrong_function (Some WrongFunction) (cond wrong_length (Some WrongLength) (cond wrong_count (Some WrongByteCount) (cond wrong_echo (Some WrongEcho) None)))) (cond exception (replies.Exception code) (replies.Words ws))) ≡ Answered words
    → length words ≡ count
no_fault true l c e x code count ws words h is = absurd (cc)
no_fault false true c e x code count ws words h is = absurd (cc)
no_fault false false true e x code count ws words h is = absurd (cc)
no_fault false false false true x code count ws words h is = absurd (cc)
no_fault false false false false true code count ws words h is = absurd (cc)
no_fault false false false false false code count ws words h is =
    let same : ws ≡ words = cc in
    ap length (sym same) ∙ h refl refl refl

not_is : (b : Bool) → not b ≡ false → b ≡ true
not_is true h = refl
not_is false h = absurd (cc)

plain_length : (exception a b c : Bool) → exception ≡ false → cond exception a (cond true b c) ≡ false → b ≡ false
plain_length true a b c x h = absurd (cc)
plain_length false a b c x h = h

plain_count : (exception b : Bool) → exception ≡ false → (not exception && true && not b) ≡ false → b ≡ true
plain_count true b x h = absurd (cc)
plain_count false b x h = not_is b h

-- If the byte count of a PDU is twice `count` and matches the PDU's length, then the PDU has
-- `count` registers.
as_many : (pdu : List ℕ) (count given : ℕ) → length pdu ≡ 2 + given → given ≡ 2 * count → length (words_of (drop 2 pdu)) ≡ count
as_many pdu count given all h =
    let following : length (drop 2 pdu) ≡ 2 * count = omega (arith, length-drop 2 pdu) in
    length-words_of (drop 2 pdu) count following

read : (function : ReadFunction) (address count : ℕ) (pdu words : List ℕ) → by_reply (answer_in (query_of (read_request function address count)) pdu) ≡ Answered words → length words ≡ count
read HoldingRegisters address count pdu words is =
    let q : Query = ReadHolding address count in
    no_fault (is_wrong_function q pdu) (is_wrong_length q pdu) (is_wrong_byte_count q pdu) (is_wrong_echo q pdu) (is_exception q pdu) (slice_index pdu 1) count (words_of (drop 2 pdu)) words
    (λ x l c.
    let long = or_parts _ _ (plain_length (is_exception q pdu) _ _ (not (length pdu == 5)) x l) in
    as_many pdu count (slice_index pdu 1) (eqb-true _ _ (not_is _ long.1)) (eqb-true _ _ (plain_count (is_exception q pdu) _ x c)))
    is
read InputRegisters address count pdu words is =
    let q : Query = ReadInput address count in
    no_fault (is_wrong_function q pdu) (is_wrong_length q pdu) (is_wrong_byte_count q pdu) (is_wrong_echo q pdu) (is_exception q pdu) (slice_index pdu 1) count (words_of (drop 2 pdu)) words
    (λ x l c.
    let long = or_parts _ _ (plain_length (is_exception q pdu) _ _ (not (length pdu == 5)) x l) in
    as_many pdu count (slice_index pdu 1) (eqb-true _ _ (not_is _ long.1)) (eqb-true _ _ (plain_count (is_exception q pdu) _ x c)))
    is

by_unit : (b : Bool) (span : Span) (pdu words : List ℕ) → cond b (by_reply (answer_in (query_of (request_of span)) pdu)) (Malformed WrongUnit) ≡ Answered words → length words ≡ span.count
by_unit true span pdu words is = read span.function span.address span.count pdu words is
by_unit false span pdu words is = absurd (cc)

pub whole : (poll : Poll) (frame words : List ℕ) → answer poll frame ≡ Answered words → length words ≡ poll.span.count
whole poll frame words is = by_unit (unit_of frame == poll.unit) poll.span (pdu_of frame) words is
