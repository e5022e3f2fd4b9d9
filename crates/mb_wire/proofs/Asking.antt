-- Lemmas: decoding and encoding of Modbus requests are inverse, except that spare bits (unused bits
-- of the last coil byte) are set to 0.
use Rattle.std.proofs.Common.{◌≡◌, ℕ, suc, ◌+◌, ◌-◌, ◌*◌, ◌/◌, ◌%◌, ◌<◌, ◌≤◌, ◌==◌, nat_lt, inl, inr, Bool, true, false, not, ◌&&◌, ◌||◌, if◌then◌else◌, List, [], ◌∷◌, ◌++◌, length, drop, slice_index, Option, Some, None, Ok, refl, sym, ap, subst, ◌∙◌, arith, length-drop, drop-cons}
use Rattle.std.proofs.lemmas.Bool.{cases_eq, or_cases, or_from, or_parts, and_cases, and_left, and_right, not-false, not_from_true, eqb-true, eq-eqb, le-ltb, ltb-false, cond-true, cond-false, both_ways, leb-true, and_parts}
use Rattle.std.proofs.lemmas.List.{drop_all}
use Rattle.mb_wire.specs.Bytes.{AreBytes, number_at, words_of, word_bytes}
use Rattle.mb_wire.specs.Coils.{bytes_for, coils_of, packed, cleared_after}
use Rattle.mb_wire.specs.Requests.{Query, ReadCoils, ReadDiscrete, ReadHolding, ReadInput, WriteCoil, WriteRegister, WriteCoils, WriteRegisters, IsLawfulQuery, IsWithin, SpellsRequest, address_of, coil_value, field_of, head_bytes, query_bytes}
use Rattle.mb_wire.specs.RequestFaults.{address_in, bytes_of, carries_bytes, count_in, field_in, function_in, is_known, is_unknown_function, is_wrong_carried_count, is_wrong_coil_value, is_wrong_quantity, is_wrong_request_length, most_of, query_from, query_in, request_cleared, request_fault, value_unless, writes_one}
use Rattle.mb_wire.proofs.Packing.{coils_of-packed, length-coils_of-whole, length-packed_in, packed-coils_of}
use Rattle.mb_wire.proofs.Words.{length-word_bytes, length-words_of, word_bytes-words_of, words_of-word_bytes}

pub whole : (n : ℕ) → 256 * (n / 256) + n % 256 ≡ n
whole n = omega arith

-- True if the PDU is a valid Modbus request (no fault of a request applies).
pub record Faultless (pdu : List ℕ) : Type 0 where
  pub function : is_unknown_function pdu ≡ false
  pub length : is_wrong_request_length pdu ≡ false
  pub quantity : is_wrong_quantity pdu ≡ false
  pub count : is_wrong_carried_count pdu ≡ false
  pub coil : is_wrong_coil_value pdu ≡ false

pub no_fault : (pdu : List ℕ) → Faultless pdu → request_fault pdu ≡ None
no_fault pdu h =
    cond-false _ _ _ h.function
    ∙ cond-false _ _ _ h.length
    ∙ cond-false _ _ _ h.quantity
    ∙ cond-false _ _ _ h.count
    ∙ cond-false _ _ _ h.coil

pub unless_none : {F : Type 0} (test : Bool) (fault : F) (others : Option F) → (if test then Some fault else others) ≡ None → (test ≡ false) × (others ≡ None)
unless_none true fault others h = absurd cc
unless_none false fault others h = (refl, h)

pub faultless : (pdu : List ℕ) → request_fault pdu ≡ None → Faultless pdu
faultless pdu h =
    let a = unless_none (is_unknown_function pdu) _ _ h in
    let b = unless_none (is_wrong_request_length pdu) _ _ a.1 in
    let c = unless_none (is_wrong_quantity pdu) _ _ b.1 in
    let d = unless_none (is_wrong_carried_count pdu) _ _ c.1 in
    let e = unless_none (is_wrong_coil_value pdu) _ _ d.1 in
    record { function = a.0; length = b.0; quantity = c.0; count = d.0; coil = e.0 }

-- A request of five bytes with a known function and allowed values has no fault.
plain : (function address field : ℕ) → is_known function ≡ true → carries_bytes function ≡ false → is_wrong_quantity (head_bytes function address field) ≡ false → is_wrong_coil_value (head_bytes function address field) ≡ false → Faultless (head_bytes function address field)
plain function address field known short quantity coil =
    record {
      function = and_right (nat_lt 0 (length (head_bytes function address field))) (not (is_known function)) (not_from_true _ known);
      length = cond-false (carries_bytes function) _ _ short;
      quantity = quantity;
      count = and_left (carries_bytes function) _ short;
      coil = coil;
    }

-- If the Modbus standard allows a quantity for a function code, the check for wrong quantities
-- accepts it.
allowed : (function most quantity n : ℕ) → most_of function ≡ most → IsWithin quantity most → n ≡ quantity → (not (writes_one function) && (nat_lt n 1 || nat_lt (most_of function) n)) ≡ false
allowed function most quantity n e h same =
    and_right (not (writes_one function)) _ (or_from _ _ (le-ltb n 1 (omega arith)) (le-ltb (most_of function) n (omega arith)))

reads : (pdu : List ℕ) (query : Query) → Faultless pdu → query_from pdu ≡ query → query_in pdu ≡ Ok query
reads pdu query h e = ap (λ fault. value_unless fault (query_from pdu)) (no_fault pdu h) ∙ ap Ok e

reads_pair : (make : ℕ → ℕ → Query) (address field : ℕ) → make (256 * (address / 256) + address % 256) (256 * (field / 256) + field % 256) ≡ make address field
reads_pair make address field =
    ap (λ n. make n (256 * (field / 256) + field % 256)) (whole address) ∙ ap (make address) (whole field)

coil_reads : (on : Bool) (address : ℕ) → query_in (head_bytes 5 address (coil_value on)) ≡ Ok (WriteCoil address on)
coil_reads true address = reads _ _ (plain 5 address 65280 refl refl refl refl) (ap (λ n. WriteCoil n true) (whole address))
coil_reads false address = reads _ _ (plain 5 address 0 refl refl refl refl) (ap (λ n. WriteCoil n false) (whole address))

-- A write request has no fault if its byte count and its number of data bytes match its quantity.
carrying : (function most address quantity : ℕ) (bytes : List ℕ) → is_known function ≡ true → carries_bytes function ≡ true → (function == 5) ≡ false → most_of function ≡ most → IsWithin quantity most → length bytes ≡ bytes_of function quantity → Faultless (head_bytes function address quantity ++ length bytes ∷ bytes)
carrying function most address quantity bytes known carries other greatest within e =
    let pdu = head_bytes function address quantity ++ length bytes ∷ bytes in
    let same : 256 * (quantity / 256) + quantity % 256 ≡ quantity = whole quantity in
    let count : length bytes ≡ bytes_of function (256 * (quantity / 256) + quantity % 256) = e ∙ ap (bytes_of function) (sym same) in
    record {
      function = and_right (nat_lt 0 (length pdu)) (not (is_known function)) (not_from_true _ known);
      length = cond-true (carries_bytes function) _ _ carries ∙ or_from _ _ (le-ltb (length pdu) 6 (omega arith)) (not_from_true _ (eq-eqb (length pdu) (6 + length bytes) (omega arith)));
      quantity = allowed function most quantity _ greatest within same;
      count = and_right (carries_bytes function) _ (not_from_true _ (eq-eqb _ _ count));
      coil = and_left (function == 5) _ other;
    }

-- If a PDU encodes a request, decoding the PDU returns that request.
pub spells_reads : (pdu : List ℕ) (query : Query) → SpellsRequest pdu query → query_in pdu ≡ Ok query
spells_reads pdu (ReadCoils address quantity) h =
    ap query_in h.2 ∙ reads _ _ (plain 1 address quantity refl refl (allowed 1 2000 quantity _ refl h.0 (whole quantity)) refl) (reads_pair ReadCoils address quantity)
spells_reads pdu (ReadDiscrete address quantity) h =
    ap query_in h.2 ∙ reads _ _ (plain 2 address quantity refl refl (allowed 2 2000 quantity _ refl h.0 (whole quantity)) refl) (reads_pair ReadDiscrete address quantity)
spells_reads pdu (ReadHolding address quantity) h =
    ap query_in h.2 ∙ reads _ _ (plain 3 address quantity refl refl (allowed 3 125 quantity _ refl h.0 (whole quantity)) refl) (reads_pair ReadHolding address quantity)
spells_reads pdu (ReadInput address quantity) h =
    ap query_in h.2 ∙ reads _ _ (plain 4 address quantity refl refl (allowed 4 125 quantity _ refl h.0 (whole quantity)) refl) (reads_pair ReadInput address quantity)
spells_reads pdu (WriteCoil address on) h = ap query_in h.1 ∙ coil_reads on address
spells_reads pdu (WriteRegister address value) h =
    ap query_in h.2 ∙ reads _ _ (plain 6 address value refl refl refl refl) (reads_pair WriteRegister address value)
spells_reads pdu (WriteCoils address coils) h =
    let bytes = h.2.0 in
    let shape = h.2.1 in
    let count = h.2.2 in
    let is = h.2.3 in
    ap query_in shape
    ∙ reads _ _ (carrying 15 1968 address (length coils) bytes refl refl refl refl h.0 count)
    (ap (λ n. WriteCoils n (coils_of (256 * (length coils / 256) + length coils % 256) bytes)) (whole address)
    ∙ ap (λ n. WriteCoils address (coils_of n bytes)) (whole (length coils))
    ∙ ap (WriteCoils address) (sym is))
spells_reads pdu (WriteRegisters address values) h =
    let bytes = h.2.0 in
    let shape = h.2.1 in
    let count = h.2.2 in
    let is = h.2.3 in
    ap query_in shape
    ∙ reads _ _ (carrying 16 123 address (length values) bytes refl refl refl refl h.0 count)
    (ap (λ n. WriteRegisters n (words_of bytes)) (whole address) ∙ ap (WriteRegisters address) (sym is))

-- A PDU of at least five bytes begins with a function code and two 16-bit numbers.
pub head_first : (pdu : List ℕ) → AreBytes pdu → 5 ≤ length pdu → pdu ≡ head_bytes (function_in pdu) (address_in pdu) (field_in pdu) ++ drop 5 pdu
head_first [] h e = absurd (omega arith)
head_first (a ∷ []) h e = absurd (omega arith)
head_first (a ∷ b ∷ []) h e = absurd (omega arith)
head_first (a ∷ b ∷ c ∷ []) h e = absurd (omega arith)
head_first (a ∷ b ∷ c ∷ d ∷ []) h e = absurd (omega arith)
head_first (f ∷ a ∷ b ∷ c ∷ d ∷ others) h e =
    let low : b < 256 = h 2 in
    let low' : d < 256 = h 4 in
    let first : (256 * a + b) / 256 ≡ a = omega arith in
    let second : (256 * a + b) % 256 ≡ b = omega arith in
    let third : (256 * c + d) / 256 ≡ c = omega arith in
    let fourth : (256 * c + d) % 256 ≡ d = omega arith in
    sym (ap (λ n. f ∷ n ∷ (256 * a + b) % 256 ∷ (256 * c + d) / 256 ∷ (256 * c + d) % 256 ∷ others) first
    ∙ ap (λ n. f ∷ a ∷ n ∷ (256 * c + d) / 256 ∷ (256 * c + d) % 256 ∷ others) second
    ∙ ap (λ n. f ∷ a ∷ b ∷ n ∷ (256 * c + d) % 256 ∷ others) third
    ∙ ap (λ n. f ∷ a ∷ b ∷ c ∷ n ∷ others) fourth)

-- If a property is true for the function codes 1 to 6, 15 and 16, it is true for every function
-- code that the decoder knows.
by_function : (P : ℕ → Type 0) → P 1 → P 2 → P 3 → P 4 → P 5 → P 6 → P 15 → P 16 → (function : ℕ) → is_known function ≡ true → P function
by_function P p1 p2 p3 p4 p5 p6 p15 p16 function h =
    elim (cases_eq function 1) [
      | inl e ↦ subst P (sym e) p1
      | inr n1 ↦
          elim (cases_eq function 2) [
            | inl e ↦ subst P (sym e) p2
            | inr n2 ↦
                elim (cases_eq function 3) [
                  | inl e ↦ subst P (sym e) p3
                  | inr n3 ↦
                      elim (cases_eq function 4) [
                        | inl e ↦ subst P (sym e) p4
                        | inr n4 ↦
                            elim (cases_eq function 5) [
                              | inl e ↦ subst P (sym e) p5
                              | inr n5 ↦
                                  elim (cases_eq function 6) [
                                    | inl e ↦ subst P (sym e) p6
                                    | inr n6 ↦
                                        elim (cases_eq function 15) [
                                          | inl e ↦ subst P (sym e) p15
                                          | inr n15 ↦
                                              elim (cases_eq function 16) [
                                                | inl e ↦ subst P (sym e) p16
                                                | inr n16 ↦
                                                    elim (or_cases _ _ h) [
                                                      | inl few ↦ elim (or_cases _ _ few) [
                                                        | inl small ↦
                                                            let both = and_parts _ _ small in
                                                            let low : 1 ≤ function = leb-true _ _ both.0 in
                                                            let high : function ≤ 6 = leb-true _ _ both.1 in
                                                            absurd (omega arith)
                                                        | inr fifteen ↦ absurd (n15 (eqb-true _ _ fifteen))
                                                      ]
                                                      | inr sixteen ↦ absurd (n16 (eqb-true _ _ sixteen))
                                                    ]
                                              ]
                                        ]
                                  ]
                            ]
                      ]
                ]
          ]
    ]

-- If a request PDU has no wrong quantity, its quantity is within the limit of its function code.
within : (function : ℕ) (pdu : List ℕ) (most : ℕ) → writes_one function ≡ false → most_of function ≡ most → (not (writes_one function) && (nat_lt (field_in pdu) 1 || nat_lt (most_of function) (field_in pdu))) ≡ false → IsWithin (field_in pdu) most
within function pdu most many greatest h =
    elim (and_cases _ _ h) [
      | inl none ↦ absurd (both_ways _ many (not-false _ none))
      | inr fits ↦
          let both = or_parts _ _ fits in
          let low : 1 ≤ field_in pdu = ltb-false _ _ both.0 in
          let high : field_in pdu ≤ most_of function = ltb-false _ _ both.1 in
          (low, omega arith)
    ]

-- States that, if a PDU with this function code passes all further checks of the decoder, then it
-- encodes the request that the decoder returns.
abbrev Spelled : (List ℕ → Query) → List ℕ → ℕ → Type 0
Spelled read others function =
    AreBytes (function ∷ others)
    → is_wrong_request_length (function ∷ others) ≡ false
    → is_wrong_quantity (function ∷ others) ≡ false
    → is_wrong_carried_count (function ∷ others) ≡ false
    → is_wrong_coil_value (function ∷ others) ≡ false
    → SpellsRequest (function ∷ others) (read (function ∷ others))

small_address : (pdu : List ℕ) → AreBytes pdu → (place : ℕ) → number_at pdu place < 65536
small_address pdu h place =
    let high = h place in
    let low = h (place + 1) in
    omega arith

-- A PDU of exactly five bytes is a function code and two 16-bit numbers.
five : (pdu : List ℕ) → AreBytes pdu → not (length pdu == 5) ≡ false → pdu ≡ head_bytes (function_in pdu) (address_in pdu) (field_in pdu)
five pdu h e =
    let long : length pdu ≡ 5 = eqb-true _ _ (not-false _ e) in
    let none : drop 5 pdu ≡ [] = drop_all 5 pdu (omega arith) in
    head_first pdu h (omega arith) ∙ ap (λ xs. head_bytes (function_in pdu) (address_in pdu) (field_in pdu) ++ xs) none

-- A PDU that passes the length check for writes is five bytes, a byte count and the data.
six : (pdu : List ℕ) → AreBytes pdu → (nat_lt (length pdu) 6 || not (length pdu == 6 + count_in pdu)) ≡ false → (length (drop 6 pdu) ≡ count_in pdu) × (pdu ≡ head_bytes (function_in pdu) (address_in pdu) (field_in pdu) ++ length (drop 6 pdu) ∷ drop 6 pdu)
six pdu h e =
    let both = or_parts _ _ e in
    let low : 6 ≤ length pdu = ltb-false _ _ both.0 in
    let long : length pdu ≡ 6 + count_in pdu = eqb-true _ _ (not-false _ both.1) in
    let cut : length (drop 6 pdu) ≡ length pdu - 6 = length-drop 6 pdu in
    let count : length (drop 6 pdu) ≡ count_in pdu = omega arith in
    let front : drop 5 pdu ≡ slice_index pdu 5 ∷ drop 6 pdu = drop-cons pdu 5 0 (omega arith) in
    let shape = head_bytes (function_in pdu) (address_in pdu) (field_in pdu) in
    (count, head_first pdu h (omega arith) ∙ ap (λ xs. shape ++ xs) front ∙ ap (λ n. shape ++ n ∷ drop 6 pdu) (sym count))

coil_field : (n : ℕ) → (n == 0 || n == 65280) ≡ true → coil_value (n == 65280) ≡ n
coil_field n h =
    elim (or_cases _ _ h) [
      | inl zero_is ↦ let e : n ≡ 0 = eqb-true _ _ zero_is in ap (λ m. coil_value (m == 65280)) e ∙ sym e
      | inr full ↦ let e : n ≡ 65280 = eqb-true _ _ full in ap (λ m. coil_value (m == 65280)) e ∙ sym e
    ]

spelled_coils : (others : List ℕ) → Spelled (λ pdu. WriteCoils (address_in pdu) (coils_of (field_in pdu) (drop 6 pdu))) others 15
spelled_coils others h sized quantity count coil =
    let pdu = 15 ∷ others in
    let shape = six pdu h sized in
    let fits = within 15 pdu 1968 refl refl quantity in
    let counted : count_in pdu ≡ bytes_for (field_in pdu) = eqb-true _ _ (not-false _ count) in
    let long = length-coils_of-whole (field_in pdu) (drop 6 pdu) (shape.0 ∙ counted) in
    let P : ℕ → Type 0 = λ n. IsWithin n 1968 × (address_in pdu < 65536)
    × ((bytes : List ℕ) × (pdu ≡ head_bytes 15 (address_in pdu) n ++ length bytes ∷ bytes)
    × (length bytes ≡ bytes_for n) × (coils_of (field_in pdu) (drop 6 pdu) ≡ coils_of n bytes)) in
    subst P (sym long) (fits, small_address pdu h 1, (drop 6 pdu, shape.1, shape.0 ∙ counted, refl))

spelled_registers : (others : List ℕ) → Spelled (λ pdu. WriteRegisters (address_in pdu) (words_of (drop 6 pdu))) others 16
spelled_registers others h sized quantity count coil =
    let pdu = 16 ∷ others in
    let shape = six pdu h sized in
    let fits = within 16 pdu 123 refl refl quantity in
    let counted : count_in pdu ≡ 2 * field_in pdu = eqb-true _ _ (not-false _ count) in
    let halves = length-words_of (drop 6 pdu) in
    let long : length (words_of (drop 6 pdu)) ≡ field_in pdu = omega arith in
    let P : ℕ → Type 0 = λ n. IsWithin n 123 × (address_in pdu < 65536)
    × ((bytes : List ℕ) × (pdu ≡ head_bytes 16 (address_in pdu) n ++ length bytes ∷ bytes)
    × (length bytes ≡ 2 * n) × (words_of (drop 6 pdu) ≡ words_of bytes)) in
    subst P (sym long) (fits, small_address pdu h 1, (drop 6 pdu, shape.1, shape.0 ∙ counted, refl))

spelled : (function : ℕ) (others : List ℕ) → is_known function ≡ true → Spelled query_from others function
spelled function others known =
    by_function (Spelled query_from others)
    (λ h sized quantity count coil. (within 1 (1 ∷ others) 2000 refl refl quantity, small_address (1 ∷ others) h 1, five (1 ∷ others) h sized))
    (λ h sized quantity count coil. (within 2 (2 ∷ others) 2000 refl refl quantity, small_address (2 ∷ others) h 1, five (2 ∷ others) h sized))
    (λ h sized quantity count coil. (within 3 (3 ∷ others) 125 refl refl quantity, small_address (3 ∷ others) h 1, five (3 ∷ others) h sized))
    (λ h sized quantity count coil. (within 4 (4 ∷ others) 125 refl refl quantity, small_address (4 ∷ others) h 1, five (4 ∷ others) h sized))
    (λ h sized quantity count coil. (
      small_address (5 ∷ others) h 1,
      five (5 ∷ others) h sized
          ∙ ap (head_bytes 5 (address_in (5 ∷ others))) (sym (coil_field (field_in (5 ∷ others)) (not-false _ coil))),
    ))
    (λ h sized quantity count coil. (small_address (6 ∷ others) h 1, small_address (6 ∷ others) h 3, five (6 ∷ others) h sized))
    (spelled_coils others)
    (spelled_registers others)
    function known

-- A PDU without a fault encodes the request that the decoder returns.
pub faultless_spells : (pdu : List ℕ) → AreBytes pdu → Faultless pdu → SpellsRequest pdu (query_from pdu)
faultless_spells [] h f = absurd (both_ways _ f.length refl)
faultless_spells (function ∷ others) h f =
    elim (and_cases _ _ f.function) [
      | inl none ↦ let no : length (function ∷ others) ≤ 0 = ltb-false _ _ none in absurd (omega arith)
      | inr known ↦ spelled function others (not-false (is_known function) known) h f.length f.quantity f.count f.coil
    ]

pub ok_unless : {F V : Type 0} (fault : Option F) (value wanted : V) → value_unless fault value ≡ Ok wanted → (fault ≡ None) × (value ≡ wanted)
ok_unless None value wanted h = (refl, cc)
ok_unless (Some fault) value wanted h = absurd cc

-- A PDU that decodes to a request encodes that request.
pub reads_spells : (pdu : List ℕ) (query : Query) → AreBytes pdu → query_in pdu ≡ Ok query → SpellsRequest pdu query
reads_spells pdu query h e =
    let both = ok_unless (request_fault pdu) (query_from pdu) query e in
    subst (SpellsRequest pdu) both.1 (faultless_spells pdu h (faultless pdu both.0))

-- If a request is valid, the PDU that the encoder builds encodes that request.
pub spells_own : (query : Query) → IsLawfulQuery query → address_of query < 65536 → field_of query < 65536 → SpellsRequest (query_bytes query) query
spells_own (ReadCoils address quantity) lawful small fits = (lawful, small, refl)
spells_own (ReadDiscrete address quantity) lawful small fits = (lawful, small, refl)
spells_own (ReadHolding address quantity) lawful small fits = (lawful, small, refl)
spells_own (ReadInput address quantity) lawful small fits = (lawful, small, refl)
spells_own (WriteCoil address on) lawful small fits = (small, refl)
spells_own (WriteRegister address value) lawful small fits = (small, fits, refl)
spells_own (WriteCoils address coils) lawful small fits =
    let count : length (packed coils) ≡ bytes_for (length coils) = length-packed_in (bytes_for (length coils)) coils in
    (lawful, small, (packed coils, ap (λ n. head_bytes 15 address (length coils) ++ n ∷ packed coils) (sym count), count, coils_of-packed coils))
spells_own (WriteRegisters address values) lawful small fits =
    let count : length (word_bytes values) ≡ 2 * length values = length-word_bytes values in
    (lawful, small, (word_bytes values, ap (λ n. head_bytes 16 address (length values) ++ n ∷ word_bytes values) (sym count), count, sym (words_of-word_bytes values)))

pub bytes_spell_own : (query : Query) → IsLawfulQuery query → AreBytes (query_bytes query) → SpellsRequest (query_bytes query) query
bytes_spell_own query lawful h = spells_own query lawful (omega (arith, h 1)) (omega (arith, h 3))

-- Encoding a decoded request gives its PDU with the spare bits (unused bits of the last coil byte)
-- set to 0.
pub spells_cleared : (pdu : List ℕ) (query : Query) → AreBytes pdu → SpellsRequest pdu query → query_bytes query ≡ request_cleared pdu
spells_cleared pdu (ReadCoils address quantity) h s = sym (ap request_cleared s.2)
spells_cleared pdu (ReadDiscrete address quantity) h s = sym (ap request_cleared s.2)
spells_cleared pdu (ReadHolding address quantity) h s = sym (ap request_cleared s.2)
spells_cleared pdu (ReadInput address quantity) h s = sym (ap request_cleared s.2)
spells_cleared pdu (WriteCoil address on) h s = sym (ap request_cleared s.1)
spells_cleared pdu (WriteRegister address value) h s = sym (ap request_cleared s.2)
spells_cleared pdu (WriteCoils address coils) h s =
    let bytes = s.2.0 in
    let n = length coils in
    let shape = head_bytes 15 address n in
    ap (λ count. shape ++ count ∷ packed coils) (sym s.2.2)
    ∙ ap (λ xs. shape ++ length bytes ∷ packed xs) s.2.3
    ∙ ap (λ xs. shape ++ length bytes ∷ xs) (packed-coils_of n bytes s.2.2)
    ∙ ap (λ m. shape ++ length bytes ∷ cleared_after m bytes) (sym (whole n))
    ∙ sym (ap request_cleared s.2.1)
spells_cleared pdu (WriteRegisters address values) h s =
    let bytes = s.2.0 in
    let n = length values in
    let shape = head_bytes 16 address n in
    let all : AreBytes (shape ++ length bytes ∷ bytes) = subst AreBytes s.2.1 h in
    let bytes_are : AreBytes bytes = λ place. all (suc (suc (suc (suc (suc (suc place)))))) in
    ap (λ count. shape ++ count ∷ word_bytes values) (sym s.2.2)
    ∙ ap (λ xs. shape ++ length bytes ∷ word_bytes xs) s.2.3
    ∙ ap (λ xs. shape ++ length bytes ∷ xs) (word_bytes-words_of n bytes bytes_are s.2.2)
    ∙ sym (ap request_cleared s.2.1)

-- A PDU that writes registers and has no fault has as many data registers as its quantity field
-- requires.
pub registers_lawful : (pdu : List ℕ) → AreBytes pdu → function_in pdu ≡ 16 → Faultless pdu → IsWithin (length (words_of (drop 6 pdu))) 123 × (length (drop 6 pdu) ≡ 2 * length (words_of (drop 6 pdu)))
registers_lawful [] h e faults = absurd (omega arith)
registers_lawful (function ∷ others) h e faults =
    let P : ℕ → Type 0 = λ n. AreBytes (n ∷ others) → Faultless (n ∷ others) → IsWithin (length (words_of (drop 5 others))) 123 × (length (drop 5 others) ≡ 2 * length (words_of (drop 5 others))) in
    subst P (sym e) (λ bytes f.
    let s = spelled_registers others bytes f.length f.quantity f.count f.coil in
    let long : length (16 ∷ others) ≡ 6 + length s.2.0 = ap length s.2.1 ∙ omega arith in
    let cut : length (drop 5 others) ≡ length others - 5 = length-drop 5 others in
    (s.0, omega (arith, s.2.2))) h faults
