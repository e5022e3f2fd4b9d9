-- Lemmas about loops that pack Modbus values into bytes, or store values from bytes: each iteration
-- adds one byte or value, and the finished loop has handled all.
use Rattle.std.proofs.Common.{◌≡◌, ℕ, zero, suc, ◌+◌, ◌-◌, ◌*◌, ◌<◌, ◌≤◌, min, inl, inr, Bool, List, [], ◌∷◌, ◌++◌, length, take, drop, map, set, get_or, slice_get, Option, Some, true, subst, refl, sym, ap, ◌∙◌, arith, append_assoc, length-drop, length-take-le}
use Rattle.std.proofs.lemmas.Bool.{cases_lt, and_parts, leb-true}
use Rattle.std.specs.Option.{option_map}
use Rattle.std.proofs.lemmas.List.{take_more_set, drop_more, drop-drop, take-map, drop-map, take_all, length-map, map_more, drop_all, append-nil}
use Rattle.mb_wire.specs.Bytes.{word, word_bytes, words_of}
use Rattle.mb_wire.specs.Coils.{coils_of, number_of, packed, packed_in}
use Rattle.mb_wire.specs.Requests.{Query}
use Rattle.mb_wire.specs.Replies.{WantsRegisters}
use Rattle.mb_wire.proofs.Packing.{coils_of-packed}
use Rattle.mb_wire.proofs.Words.{length-word_bytes, words_of-word_bytes}
use Rattle.mb_device.specs.Device.{is_kept_on, kept_value}
use Rattle.mb_device.specs.Maps.{all_written, are_there, values_at}

-- After one more iteration of the loop that packs coils, one more byte is packed.
pub packed_more : (count i : ℕ) (coils : List Bool) (out whole : List ℕ) (byte : ℕ) → i < count → i < length out → byte ≡ number_of (take 8 (drop (8 * i) coils)) → take i out ++ packed_in (count - i) (drop (8 * i) coils) ≡ whole → take (i + 1) (set out i byte) ++ packed_in (count - (i + 1)) (drop (8 * (i + 1)) coils) ≡ whole
unfolding packed_in
packed_more count i coils out whole byte less room is h =
    let left : count - i ≡ suc (count - (i + 1)) = omega arith in
    let next : 8 * i + 8 ≡ 8 * (i + 1) = omega arith in
    ap (λ xs. xs ++ packed_in (count - (i + 1)) (drop (8 * (i + 1)) coils)) (take_more_set out i byte room)
    ∙ append_assoc (take i out) (byte ∷ []) (packed_in (count - (i + 1)) (drop (8 * (i + 1)) coils))
    ∙ ap (λ n. take i out ++ n ∷ packed_in (count - (i + 1)) (drop (8 * (i + 1)) coils)) is
    ∙ ap (λ n. take i out ++ number_of (take 8 (drop (8 * i) coils)) ∷ packed_in (count - (i + 1)) (drop n coils)) (sym next)
    ∙ ap (λ xs. take i out ++ number_of (take 8 (drop (8 * i) coils)) ∷ packed_in (count - (i + 1)) xs) (sym (drop-drop 8 (8 * i) coils))
    ∙ ap (λ n. take i out ++ packed_in n (drop (8 * i) coils)) (sym left)
    ∙ h

-- The coils that one byte of a response encodes are at most eight consecutive values of the
-- device's table of coils.
pub eight : (f : Option ℕ → Bool) (values : List (Option ℕ)) (start end : ℕ) → start ≤ length values → end ≡ min (length values) (start + 8) → map f (take (end - start) (drop start values)) ≡ take 8 (drop start (map f values))
eight f values start end fits is =
    let left : length (drop start values) ≡ length values - start = length-drop start values in
    let same : take (end - start) (drop start values) ≡ take 8 (drop start values) =
    elim (cases_lt (start + 8) (length values)) [
      | inl more ↦ let few : end - start ≡ 8 = omega arith in ap (λ n. take n (drop start values)) few
      | inr all ↦ take_all (end - start) (drop start values) (omega arith) ∙ sym (take_all 8 (drop start values) (omega arith))
    ] in
    ap (map f) same ∙ sym (take-map f 8 (drop start values)) ∙ ap (take 8) (sym (drop-map f start values))

pub word_bytes-append : (xs ys : List ℕ) → word_bytes (xs ++ ys) ≡ word_bytes xs ++ word_bytes ys
word_bytes-append [] ys = refl
word_bytes-append (x ∷ xs) ys = ap (λ rest. word x ++ rest) (word_bytes-append xs ys)

-- After one more iteration of the loop that writes the registers of a response, the response's data
-- bytes contain one more register.
pub words_more : (f : Option ℕ → ℕ) (values : List (Option ℕ)) (i : ℕ) (d : Option ℕ) (old new : List ℕ) → i < length values → take (2 * i + 2) new ≡ take (2 * i) old ++ word (f (get_or values i d)) → take (2 * i) old ≡ word_bytes (map f (take i values)) → take (2 * (i + 1)) new ≡ word_bytes (map f (take (i + 1) values))
words_more f values i d old new less step h =
    let next : 2 * (i + 1) ≡ 2 * i + 2 = omega arith in
    ap (λ n. take n new) next ∙ step
    ∙ ap (λ xs. xs ++ word (f (get_or values i d))) h
    ∙ sym (word_bytes-append (map f (take i values)) (f (get_or values i d) ∷ []))
    ∙ ap word_bytes (sym (map_more f values i d less))

get_some : (ws : List ℕ) (i : ℕ) → i < length ws → slice_get ws i ≡ Some (get_or ws i 0)
get_some [] i h = absurd (omega arith)
get_some (w ∷ ws) zero h = refl
get_some (w ∷ ws) (suc i) h = get_some ws i (omega arith)

-- After one more iteration of the loop that stores values in a device's table, one more value is in
-- the table.
pub written_more : (table whole : List (Option ℕ)) (place i : ℕ) (values : List ℕ) (value : Option ℕ) → i < length values → value ≡ slice_get values i → all_written table (place + i) (drop i values) ≡ whole → all_written (set table (place + i) value) (place + (i + 1)) (drop (i + 1) values) ≡ whole
written_more table whole place i values value less is h =
    let next : place + (i + 1) ≡ place + i + 1 = omega arith in
    ap (λ v. all_written (set table (place + i) v) (place + (i + 1)) (drop (i + 1) values)) (is ∙ get_some values i less)
    ∙ ap (λ n. all_written (set table (place + i) (Some (get_or values i 0))) n (drop (i + 1) values)) next
    ∙ sym (ap (all_written table (place + i)) (drop_more values i 0 less))
    ∙ h

-- If the loop that stores values in a device's table has no value left to store, then it has stored
-- all values.
pub written_all : (table whole : List (Option ℕ)) (place i : ℕ) (values : List ℕ) → length values ≤ i → all_written table (place + i) (drop i values) ≡ whole → table ≡ whole
written_all table whole place i values past h = sym (ap (all_written table (place + i)) (drop_all i values past)) ∙ h

pub get-map : {X : Type 0} (f : X → ℕ) (xs : List X) (i : ℕ) → slice_get (map f xs) i ≡ option_map f (slice_get xs i)
get-map f [] i = refl
get-map f (x ∷ xs) zero = refl
get-map f (x ∷ xs) (suc i) = get-map f xs i

-- If the loop that packs coils has no byte left to write, then it has packed all coils.
pub packed_all : (count i : ℕ) (coils : List Bool) (out whole : List ℕ) → count ≡ i → take i out ++ packed_in (count - i) (drop (8 * i) coils) ≡ whole → take count out ≡ whole
unfolding packed_in
packed_all count i coils out whole same h =
    let none : count - i ≡ 0 = omega arith in
    ap (λ n. take n out) same
    ∙ sym (append-nil (take i out))
    ∙ sym (ap (λ n. take i out ++ packed_in n (drop (8 * i) coils)) none)
    ∙ h

pub slice_is : (table : List (Option ℕ)) (first count address quantity : ℕ) → first ≡ address → count ≡ quantity → take (first + count - first) (drop first table) ≡ values_at table address quantity
slice_is table first count address quantity a q =
    let size : first + count - first ≡ quantity = omega arith in
    ap (λ n. take n (drop first table)) size ∙ ap (λ n. take quantity (drop n table)) a

pub there_fits : (table : List (Option ℕ)) (address quantity : ℕ) → are_there table address quantity ≡ true → address + quantity ≤ length table
there_fits table address quantity h = leb-true _ _ (and_parts _ _ h).0

pub length-values_at : (table : List (Option ℕ)) (address quantity : ℕ) → address + quantity ≤ length table → length (values_at table address quantity) ≡ quantity
length-values_at table address quantity h =
    let left : length (drop address table) ≡ length table - address = length-drop address table in
    length-take-le quantity (drop address table) (omega arith)

-- If the data bytes of a response encode values of a table as registers, then decoding the bytes
-- gives these values.
pub words_are : (bytes : List ℕ) (slice values : List (Option ℕ)) → slice ≡ values → bytes ≡ word_bytes (map kept_value slice) → words_of bytes ≡ map kept_value values
words_are bytes slice values same h = ap words_of h ∙ words_of-word_bytes (map kept_value slice) ∙ ap (map kept_value) same

pub words_fit : (query : Query) (quantity : ℕ) (bytes : List ℕ) (slice values : List (Option ℕ)) → slice ≡ values → bytes ≡ word_bytes (map kept_value slice) → length values ≡ quantity → WantsRegisters query quantity → WantsRegisters query (length (words_of bytes)) × (length bytes ≡ 2 * length (words_of bytes))
words_fit query quantity bytes slice values same h long wants =
    let are = words_are bytes slice values same h in
    let size : length (words_of bytes) ≡ quantity = ap length are ∙ length-map values kept_value ∙ long in
    let double : length bytes ≡ 2 * length (map kept_value slice) = ap length h ∙ length-word_bytes (map kept_value slice) in
    let equal : length (map kept_value slice) ≡ quantity = length-map slice kept_value ∙ ap length same ∙ long in
    (subst (WantsRegisters query) (sym size) wants, omega arith)

-- If the data bytes of a response encode values of a table as coils, then decoding the bytes gives
-- these values.
pub bits_are : (quantity : ℕ) (bytes : List ℕ) (slice values : List (Option ℕ)) → slice ≡ values → length values ≡ quantity → bytes ≡ packed (map is_kept_on slice) → coils_of quantity bytes ≡ map is_kept_on values
bits_are quantity bytes slice values same long h =
    let coils = map is_kept_on slice in
    let size : length coils ≡ quantity = length-map slice is_kept_on ∙ ap length same ∙ long in
    ap (λ n. coils_of n bytes) (sym size) ∙ ap (coils_of (length coils)) h ∙ sym (coils_of-packed coils) ∙ ap (map is_kept_on) same
