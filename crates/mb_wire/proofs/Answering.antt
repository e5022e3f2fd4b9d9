-- Lemmas: decoding and encoding of Modbus responses are inverse, except that spare bits (unused
-- bits of the last coil byte) are set to 0.
use Rattle.std.proofs.Common.{◌≡◌, ℕ, suc, ◌+◌, ◌-◌, ◌*◌, ◌≤◌, ◌==◌, nat_lt, inl, inr, true, false, not, ◌&&◌, ◌||◌, List, [], ◌∷◌, ◌++◌, length, drop, slice_index, None, Ok, refl, sym, ap, subst, ◌∙◌, arith, length-drop}
use Rattle.std.proofs.lemmas.Bool.{cases_Bool, or_cases, or_from, or_parts, or_left, or_right, and_cases, and_left, and_right, and_from, and_parts, not-false, not_from_true, not_from_false, eqb-true, eq-eqb, ne_eqb, le-ltb, ltb-false, cond-true, cond-false, both_ways}
use Rattle.mb_wire.specs.Bytes.{AreBytes, number_at, words_of, word_bytes}
use Rattle.mb_wire.specs.Coils.{bytes_for, coils_of, packed}
use Rattle.mb_wire.specs.Requests.{Query, function_of, address_of, field_of, head_bytes}
use Rattle.mb_wire.specs.RequestFaults.{value_unless}
use Rattle.mb_wire.specs.Replies.{Answer, Bits, Words, Echo, Exception, AnswersQuery, SpellsReply, answer_bytes, answer_from, answer_in, brings_bytes, brought, byte_count, cleared_reply, echo_of, is_exception, is_wrong_byte_count, is_wrong_echo, is_wrong_function, is_wrong_length, reply_cleared, reply_fault, wanted_by}
use Rattle.mb_wire.specs.declared.requests.Wanted.{Wanted}
use Rattle.mb_wire.specs.declared.requests.Wanted.TheVariants.{Coils, Registers, Head}
use Rattle.mb_wire.proofs.Asking.{whole, unless_none, ok_unless, head_first}
use Rattle.mb_wire.proofs.Packing.{coils_of-packed, length-coils_of-whole, length-packed_in, packed-coils_of}
use Rattle.mb_wire.proofs.Words.{length-word_bytes, length-words_of, word_bytes-words_of, words_of-word_bytes}

-- True if the PDU has no fault as a response to the request.
pub record Sound (query : Query) (pdu : List ℕ) : Type 0 where
  pub function : is_wrong_function query pdu ≡ false
  pub length : is_wrong_length query pdu ≡ false
  pub count : is_wrong_byte_count query pdu ≡ false
  pub echo : is_wrong_echo query pdu ≡ false

no_fault : (query : Query) (pdu : List ℕ) → Sound query pdu → reply_fault query pdu ≡ None
no_fault query pdu h =
    cond-false _ _ _ h.function ∙ cond-false _ _ _ h.length ∙ cond-false _ _ _ h.count ∙ cond-false _ _ _ h.echo

pub sound : (query : Query) (pdu : List ℕ) → reply_fault query pdu ≡ None → Sound query pdu
sound query pdu h =
    let a = unless_none (is_wrong_function query pdu) _ _ h in
    let b = unless_none (is_wrong_length query pdu) _ _ a.1 in
    let c = unless_none (is_wrong_byte_count query pdu) _ _ b.1 in
    let d = unless_none (is_wrong_echo query pdu) _ _ c.1 in
    record { function = a.0; length = b.0; count = c.0; echo = d.0 }

reads : (query : Query) (pdu : List ℕ) (answer : Answer) → Sound query pdu → answer_from query pdu ≡ answer → answer_in query pdu ≡ Ok answer
reads query pdu answer h e = ap (λ fault. value_unless fault (answer_from query pdu)) (no_fault query pdu h) ∙ ap Ok e

no_exception : (query : Query) (others : List ℕ) → is_exception query (function_of query ∷ others) ≡ false
no_exception query others = ne_eqb (function_of query) (function_of query + 128) (λ e. omega arith)

own_function : (query : Query) (others : List ℕ) → is_wrong_function query (function_of query ∷ others) ≡ false
own_function query others =
    let pdu = function_of query ∷ others in
    and_right (nat_lt 0 (length pdu)) (not (function_of query == function_of query || is_exception query pdu))
    (not_from_true _ (or_left (function_of query == function_of query) (is_exception query pdu) (eq-eqb (function_of query) (function_of query) refl)))

-- A response to a read request has no fault if it has the byte count that the request requires and
-- as many data bytes.
bringing : (query : Query) (bytes : List ℕ) → brings_bytes (wanted_by query) ≡ true → length bytes ≡ byte_count (wanted_by query) → Sound query (function_of query ∷ byte_count (wanted_by query) ∷ bytes)
bringing query bytes brings e =
    let count = byte_count (wanted_by query) in
    let pdu = function_of query ∷ count ∷ bytes in
    let plain = no_exception query (count ∷ bytes) in
    record {
      function = own_function query (count ∷ bytes);
      length =
          cond-false (is_exception query pdu) _ _ plain
          ∙ cond-true (brings_bytes (wanted_by query)) _ _ brings
          ∙ or_from _ _ (le-ltb (length pdu) 2 (omega arith)) (not_from_true _ (eq-eqb (length pdu) (2 + count) (omega arith)));
      count = and_right (not (is_exception query pdu) && brings_bytes (wanted_by query)) _ (not_from_true _ (eq-eqb count count refl));
      echo = and_left (not (is_exception query pdu) && not (brings_bytes (wanted_by query))) _ (and_right (not (is_exception query pdu)) _ (not_from_true _ brings));
    }

-- A response that repeats the first five bytes of a write request has no fault.
repeating : (query : Query) → wanted_by query ≡ Head → Sound query (echo_of query)
repeating query head =
    let pdu = echo_of query in
    let none : brings_bytes (wanted_by query) ≡ false = ap brings_bytes head in
    let plain : is_exception query pdu ≡ false = ne_eqb (function_of query) (function_of query + 128) (λ e. omega arith) in
    record {
      function =
          and_right (nat_lt 0 (length pdu)) (not (function_of query == function_of query || is_exception query pdu))
          (not_from_true _ (or_left (function_of query == function_of query) (is_exception query pdu) (eq-eqb (function_of query) (function_of query) refl)));
      length = cond-false (is_exception query pdu) _ _ plain ∙ cond-false (brings_bytes (wanted_by query)) _ _ none;
      count = and_left (not (is_exception query pdu) && brings_bytes (wanted_by query)) _ (and_right (not (is_exception query pdu)) _ none);
      echo =
          and_right (not (is_exception query pdu) && not (brings_bytes (wanted_by query))) _
          (not_from_true _ (and_from _ _ (eq-eqb (number_at pdu 1) (address_of query) (whole (address_of query))) (eq-eqb (number_at pdu 3) (field_of query) (whole (field_of query)))));
    }

excepting : (query : Query) (code : ℕ) → Sound query ((function_of query + 128) ∷ code ∷ [])
excepting query code =
    let pdu = (function_of query + 128) ∷ code ∷ [] in
    let exception : is_exception query pdu ≡ true = eq-eqb (function_of query + 128) (function_of query + 128) refl in
    record {
      function =
          and_right (nat_lt 0 (length pdu)) (not ((function_of query + 128) == function_of query || is_exception query pdu))
          (not_from_true _ (or_right ((function_of query + 128) == function_of query) (is_exception query pdu) exception));
      length = cond-true (is_exception query pdu) _ _ exception;
      count = and_left (not (is_exception query pdu) && brings_bytes (wanted_by query)) _ (and_left (not (is_exception query pdu)) _ (not_from_true _ exception));
      echo = and_left (not (is_exception query pdu) && not (brings_bytes (wanted_by query))) _ (and_left (not (is_exception query pdu)) _ (not_from_true _ exception));
    }

-- If a PDU encodes a response, decoding the PDU returns that response.
pub spells_reads : (query : Query) (pdu : List ℕ) (answer : Answer) → SpellsReply query pdu answer → answer_in query pdu ≡ Ok answer
spells_reads query pdu (Bits bits) h =
    let bytes = h.1.0 in
    let n = length bits in
    let count : byte_count (wanted_by query) ≡ bytes_for n = ap byte_count h.0 in
    let shape : pdu ≡ function_of query ∷ byte_count (wanted_by query) ∷ bytes = h.1.1 ∙ ap (λ m. function_of query ∷ m ∷ bytes) (sym count) in
    ap (answer_in query) shape
    ∙ reads query (function_of query ∷ byte_count (wanted_by query) ∷ bytes) (Bits bits) (bringing query bytes (ap brings_bytes h.0) (h.1.2 ∙ sym count))
    (cond-false _ _ _ (no_exception query (byte_count (wanted_by query) ∷ bytes))
    ∙ ap (λ wanted. brought wanted (function_of query ∷ byte_count (wanted_by query) ∷ bytes)) h.0
    ∙ ap Bits (sym h.1.3))
spells_reads query pdu (Words words) h =
    let bytes = h.1.0 in
    let n = length words in
    let count : byte_count (wanted_by query) ≡ 2 * n = ap byte_count h.0 in
    let shape : pdu ≡ function_of query ∷ byte_count (wanted_by query) ∷ bytes = h.1.1 ∙ ap (λ m. function_of query ∷ m ∷ bytes) (sym count) in
    ap (answer_in query) shape
    ∙ reads query (function_of query ∷ byte_count (wanted_by query) ∷ bytes) (Words words) (bringing query bytes (ap brings_bytes h.0) (h.1.2 ∙ sym count))
    (cond-false _ _ _ (no_exception query (byte_count (wanted_by query) ∷ bytes))
    ∙ ap (λ wanted. brought wanted (function_of query ∷ byte_count (wanted_by query) ∷ bytes)) h.0
    ∙ ap Words (sym h.1.3))
spells_reads query pdu Echo h =
    ap (answer_in query) h.1
    ∙ reads query (echo_of query) Echo (repeating query h.0)
    (cond-false (is_exception query (echo_of query)) _ _ (ne_eqb (function_of query) (function_of query + 128) (λ e. omega arith))
    ∙ ap (λ wanted. brought wanted (echo_of query)) h.0)
spells_reads query pdu (Exception code) h =
    ap (answer_in query) h
    ∙ reads query ((function_of query + 128) ∷ code ∷ []) (Exception code) (excepting query code)
    (cond-true _ _ _ (eq-eqb (function_of query + 128) (function_of query + 128) refl))

-- A PDU of at least two bytes is its first two bytes followed by the remaining bytes.
two_first : (pdu : List ℕ) → 2 ≤ length pdu → pdu ≡ slice_index pdu 0 ∷ slice_index pdu 1 ∷ drop 2 pdu
two_first [] h = absurd (omega arith)
two_first (a ∷ []) h = absurd (omega arith)
two_first (a ∷ b ∷ others) h = refl

two_only : (pdu : List ℕ) → length pdu ≡ 2 → pdu ≡ slice_index pdu 0 ∷ slice_index pdu 1 ∷ []
two_only [] h = absurd (omega arith)
two_only (a ∷ []) h = absurd (omega arith)
two_only (a ∷ b ∷ []) h = refl
two_only (a ∷ b ∷ c ∷ others) h = absurd (omega arith)

five_only : (pdu : List ℕ) → length pdu ≡ 5 → drop 5 pdu ≡ []
five_only [] h = refl
five_only (a ∷ []) h = refl
five_only (a ∷ b ∷ []) h = refl
five_only (a ∷ b ∷ c ∷ []) h = refl
five_only (a ∷ b ∷ c ∷ d ∷ []) h = refl
five_only (a ∷ b ∷ c ∷ d ∷ e ∷ []) h = refl
five_only (a ∷ b ∷ c ∷ d ∷ e ∷ f ∷ others) h = absurd (omega arith)

-- If a nonempty PDU has no wrong function code and is not an exception, then its first byte is the
-- request's function code.
begins : (query : Query) (pdu : List ℕ) → 1 ≤ length pdu → is_wrong_function query pdu ≡ false → is_exception query pdu ≡ false → slice_index pdu 0 ≡ function_of query
begins query pdu some h plain =
    elim (and_cases _ _ h) [
      | inl none ↦ let no : length pdu ≤ 0 = ltb-false _ _ none in absurd (omega arith)
      | inr known ↦ elim (or_cases _ _ (not-false _ known)) [
        | inl own ↦ eqb-true _ _ own
        | inr exception ↦ absurd (both_ways _ plain exception)
      ]
    ]

-- True if the PDU consists of the request's function code, the byte count that the request
-- requires, and as many data bytes.
pub record Brings (query : Query) (pdu : List ℕ) : Type 0 where
  pub shape : pdu ≡ function_of query ∷ byte_count (wanted_by query) ∷ drop 2 pdu
  pub count : length (drop 2 pdu) ≡ byte_count (wanted_by query)

pub brings : (query : Query) (pdu : List ℕ) → Sound query pdu → is_exception query pdu ≡ false → brings_bytes (wanted_by query) ≡ true → Brings query pdu
brings query pdu h plain some =
    let sized = sym (cond-true (brings_bytes (wanted_by query)) _ _ some) ∙ sym (cond-false (is_exception query pdu) _ _ plain) ∙ h.length in
    let both = or_parts (nat_lt (length pdu) 2) (not (length pdu == 2 + slice_index pdu 1)) sized in
    let low : 2 ≤ length pdu = ltb-false _ _ both.0 in
    let long : length pdu ≡ 2 + slice_index pdu 1 = eqb-true _ _ (not-false _ both.1) in
    let cut : length (drop 2 pdu) ≡ length pdu - 2 = length-drop 2 pdu in
    let counted : slice_index pdu 1 ≡ byte_count (wanted_by query) =
    elim (and_cases (not (is_exception query pdu) && brings_bytes (wanted_by query)) _ h.count) [
      | inl stopped ↦ absurd (both_ways _ stopped (and_from _ _ (not_from_false _ plain) some))
      | inr yes_is ↦ eqb-true _ _ (not-false _ yes_is)
    ] in
    let own = begins query pdu (omega arith) h.function plain in
    record {
      shape = two_first pdu low ∙ ap (λ n. n ∷ slice_index pdu 1 ∷ drop 2 pdu) own ∙ ap (λ n. function_of query ∷ n ∷ drop 2 pdu) counted;
      count = omega arith;
    }

repeats : (query : Query) (pdu : List ℕ) → AreBytes pdu → Sound query pdu → is_exception query pdu ≡ false → brings_bytes (wanted_by query) ≡ false → pdu ≡ echo_of query
repeats query pdu bytes h plain none =
    let sized = sym (cond-false (brings_bytes (wanted_by query)) _ _ none) ∙ sym (cond-false (is_exception query pdu) _ _ plain) ∙ h.length in
    let long : length pdu ≡ 5 = eqb-true _ _ (not-false (length pdu == 5) sized) in
    let same : (number_at pdu 1 == address_of query && number_at pdu 3 == field_of query) ≡ true =
    elim (and_cases (not (is_exception query pdu) && not (brings_bytes (wanted_by query))) _ h.echo) [
      | inl stopped ↦ absurd (both_ways _ stopped (and_from _ _ (not_from_false _ plain) (not_from_false _ none)))
      | inr yes_is ↦ not-false _ yes_is
    ] in
    let both = and_parts _ _ same in
    let own = begins query pdu (omega arith) h.function plain in
    head_first pdu bytes (omega arith)
    ∙ ap (λ xs. head_bytes (slice_index pdu 0) (number_at pdu 1) (number_at pdu 3) ++ xs) (five_only pdu long)
    ∙ ap (λ n. head_bytes n (number_at pdu 1) (number_at pdu 3)) own
    ∙ ap (λ n. head_bytes (function_of query) n (number_at pdu 3)) (eqb-true _ _ both.0)
    ∙ ap (λ n. head_bytes (function_of query) (address_of query) n) (eqb-true _ _ both.1)

-- If a PDU has no fault, it encodes the response that the decoder returns: coils, registers or a
-- repeated write.
spelled_wanted : (query : Query) (pdu : List ℕ) (wanted : Wanted) → wanted_by query ≡ wanted → AreBytes pdu → Sound query pdu → is_exception query pdu ≡ false → SpellsReply query pdu (brought wanted pdu)
spelled_wanted query pdu (Coils quantity) e bytes h plain =
    let b = brings query pdu h plain (ap brings_bytes e) in
    let counted : length (drop 2 pdu) ≡ bytes_for quantity = b.count ∙ ap byte_count e in
    let long = length-coils_of-whole quantity (drop 2 pdu) counted in
    let P : ℕ → Type 0 = λ n. (wanted_by query ≡ Coils n)
    × ((others : List ℕ) × (pdu ≡ function_of query ∷ bytes_for n ∷ others) × (length others ≡ bytes_for n) × (coils_of quantity (drop 2 pdu) ≡ coils_of n others)) in
    subst P (sym long) (e, (drop 2 pdu, b.shape ∙ ap (λ wanted. function_of query ∷ byte_count wanted ∷ drop 2 pdu) e, counted, refl))
spelled_wanted query pdu (Registers quantity) e bytes h plain =
    let b = brings query pdu h plain (ap brings_bytes e) in
    let counted : length (drop 2 pdu) ≡ 2 * quantity = b.count ∙ ap byte_count e in
    let halves = length-words_of (drop 2 pdu) in
    let long : length (words_of (drop 2 pdu)) ≡ quantity = omega arith in
    let P : ℕ → Type 0 = λ n. (wanted_by query ≡ Registers n)
    × ((others : List ℕ) × (pdu ≡ function_of query ∷ 2 * n ∷ others) × (length others ≡ 2 * n) × (words_of (drop 2 pdu) ≡ words_of others)) in
    subst P (sym long) (e, (drop 2 pdu, b.shape ∙ ap (λ wanted. function_of query ∷ byte_count wanted ∷ drop 2 pdu) e, counted, refl))
spelled_wanted query pdu Head e bytes h plain = (e, repeats query pdu bytes h plain (ap brings_bytes e))

sound_spells : (query : Query) (pdu : List ℕ) → AreBytes pdu → Sound query pdu → SpellsReply query pdu (answer_from query pdu)
sound_spells query pdu bytes h =
    elim (cases_Bool (is_exception query pdu)) [
      | inl exception ↦
          let long : length pdu ≡ 2 = eqb-true _ _ (not-false (length pdu == 2) (sym (cond-true (is_exception query pdu) _ _ exception) ∙ h.length)) in
          let code : slice_index pdu 0 ≡ function_of query + 128 = eqb-true _ _ exception in
          subst (SpellsReply query pdu) (sym (cond-true (is_exception query pdu) (Exception (slice_index pdu 1)) (brought (wanted_by query) pdu) exception))
          (two_only pdu long ∙ ap (λ n. n ∷ slice_index pdu 1 ∷ []) code)
      | inr plain ↦
          subst (SpellsReply query pdu) (sym (cond-false (is_exception query pdu) (Exception (slice_index pdu 1)) (brought (wanted_by query) pdu) plain))
          (spelled_wanted query pdu (wanted_by query) refl bytes h plain)
    ]

-- A PDU that decodes to a response encodes that response.
pub reads_spells : (query : Query) (pdu : List ℕ) (answer : Answer) → AreBytes pdu → answer_in query pdu ≡ Ok answer → SpellsReply query pdu answer
reads_spells query pdu answer bytes e =
    let both = ok_unless (reply_fault query pdu) (answer_from query pdu) answer e in
    subst (SpellsReply query pdu) both.1 (sound_spells query pdu bytes (sound query pdu both.0))

pub faultless_spells : (query : Query) (pdu : List ℕ) → AreBytes pdu → reply_fault query pdu ≡ None → SpellsReply query pdu (answer_from query pdu)
faultless_spells query pdu bytes e = sound_spells query pdu bytes (sound query pdu e)

-- If a response answers a request, the PDU that the encoder builds encodes that response.
pub spells_own : (query : Query) (answer : Answer) → AnswersQuery query answer → SpellsReply query (answer_bytes query answer) answer
spells_own query (Bits bits) h =
    let count : length (packed bits) ≡ bytes_for (length bits) = length-packed_in (bytes_for (length bits)) bits in
    (h, (packed bits, refl, count, coils_of-packed bits))
spells_own query (Words words) h =
    let count : length (word_bytes words) ≡ 2 * length words = length-word_bytes words in
    (h, (word_bytes words, refl, count, sym (words_of-word_bytes words)))
spells_own query Echo h = (h, refl)
spells_own query (Exception code) h = refl

-- Clearing the spare bits (unused bits of the last coil byte) in the PDU of a successful response
-- leaves its function code and byte count unchanged.
plain_cleared : (query : Query) (wanted : Wanted) (others : List ℕ) → wanted_by query ≡ wanted → reply_cleared query (function_of query ∷ others) ≡ cleared_reply wanted (function_of query ∷ others)
plain_cleared query wanted others e =
    cond-false _ _ _ (no_exception query others) ∙ ap (λ w. cleared_reply w (function_of query ∷ others)) e

-- Encoding a decoded response gives its PDU with the spare bits (unused bits of the last coil byte)
-- set to 0.
pub spells_cleared : (query : Query) (pdu : List ℕ) (answer : Answer) → AreBytes pdu → SpellsReply query pdu answer → answer_bytes query answer ≡ reply_cleared query pdu
spells_cleared query pdu (Bits bits) h s =
    let bytes = s.1.0 in
    let n = length bits in
    ap (λ xs. function_of query ∷ bytes_for n ∷ packed xs) s.1.3
    ∙ ap (λ xs. function_of query ∷ bytes_for n ∷ xs) (packed-coils_of n bytes s.1.2)
    ∙ sym (plain_cleared query (Coils n) (bytes_for n ∷ bytes) s.0)
    ∙ sym (ap (reply_cleared query) s.1.1)
spells_cleared query pdu (Words words) h s =
    let bytes = s.1.0 in
    let n = length words in
    let all : AreBytes (function_of query ∷ 2 * n ∷ bytes) = subst AreBytes s.1.1 h in
    let bytes_are : AreBytes bytes = λ place. all (suc (suc place)) in
    ap (λ xs. function_of query ∷ 2 * n ∷ word_bytes xs) s.1.3
    ∙ ap (λ xs. function_of query ∷ 2 * n ∷ xs) (word_bytes-words_of n bytes bytes_are s.1.2)
    ∙ sym (plain_cleared query (Registers n) (2 * n ∷ bytes) s.0)
    ∙ sym (ap (reply_cleared query) s.1.1)
spells_cleared query pdu Echo h s =
    sym (plain_cleared query Head (drop 1 (echo_of query)) s.0) ∙ sym (ap (reply_cleared query) s.1)
spells_cleared query pdu (Exception code) h s =
    sym (cond-true _ _ _ (eq-eqb (function_of query + 128) (function_of query + 128) refl)) ∙ sym (ap (reply_cleared query) s)

-- A register response without a fault has as many registers as the request reads.
pub registers_fit : (query : Query) (pdu : List ℕ) (quantity : ℕ) → reply_fault query pdu ≡ None → is_exception query pdu ≡ false → wanted_by query ≡ Registers quantity → (length (words_of (drop 2 pdu)) ≡ quantity) × (length (drop 2 pdu) ≡ 2 * quantity)
registers_fit query pdu quantity none plain e =
    let b = brings query pdu (sound query pdu none) plain (ap brings_bytes e) in
    let counted : length (drop 2 pdu) ≡ 2 * quantity = b.count ∙ ap byte_count e in
    let halves = length-words_of (drop 2 pdu) in
    (omega arith, counted)
