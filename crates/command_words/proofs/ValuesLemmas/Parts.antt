-- Lemmas: parsing the comma-separated parts of a device list one by one yields the devices of the
-- complete list, or finds the list invalid.
use Rattle.std.proofs.Common.{◌≡◌, ◌∙◌, ◌&&◌, ◌||◌, ◌++◌, ◌+◌, ◌-◌, ◌<◌, ◌∷◌, [], ap, refl, sym, ℕ, Bool, List, Option, Some, None, zero, suc, length, map, take, drop, get_or, not, true, false, arith, add-one, length-drop}
use Rattle.std.specs.Borrow.{Bor}
use Rattle.std.specs.List.{list_any}
use Rattle.std.specs.Str.{bytes_eq}
use Rattle.std.proofs.Math.Seq.{drop-cons}
use Rattle.std.proofs.lemmas.List.{take_all, map-append, map_more, get_or-map, length-map}
use Rattle.command_words.specs.Values.Devices.{are_distinct, device_in, name_in, names_in, place_of, texts, Text}
use Rattle.command_words.specs.Values.Given.{each_of, given}
use Rattle.command_words.specs.declared.values.devices.Device.{Device}

-- Lemmas about applying a partial function to each item of a list. If an item is appended to the
-- list, its result is appended to the results.

abbrev with_last : {B : Type 0} → Option (List B) → Option B → Option (List B)
with_last values value = given values (λ vs. given value (λ v. Some (vs ++ v ∷ [])))

abbrev with_first : {B : Type 0} → Option B → Option (List B) → Option (List B)
with_first value values = given value (λ v. given values (λ vs. Some (v ∷ vs)))

first_and_last : {B : Type 0} (a : Option B) (e : Option (List B)) (r : Option B) → with_first a (with_last e r) ≡ with_last (with_first a e) r
first_and_last None e r = refl
first_and_last (Some v) None r = refl
first_and_last (Some v) (Some vs) None = refl
first_and_last (Some v) (Some vs) (Some w) = refl

each_of-append : {A B : Type 0} (f : A → Option B) (xs : List A) (x : A) → each_of f (xs ++ x ∷ []) ≡ with_last (each_of f xs) (f x)
each_of-append f [] x = refl
each_of-append f (z ∷ zs) x = ap (with_first (f z)) (each_of-append f zs x) ∙ first_and_last (f z) (each_of f zs) (f x)

each_more : {A B : Type 0} (f : A → Option B) (xs : List A) (x : A) (ys : List B) (y : B) → Some ys ≡ each_of f xs → Some y ≡ f x → Some (ys ++ y ∷ []) ≡ each_of f (xs ++ x ∷ [])
each_more f xs x ys y earlier next =
    ap (λ r. with_last (Some ys) r) next ∙ (ap (λ e. with_last e (f x)) earlier ∙ sym (each_of-append f xs x))

nothing_first : {B : Type 0} (a : Option B) (e : Option (List B)) → None ≡ e → None ≡ with_first a e
nothing_first None e none = refl
nothing_first (Some v) e none = ap (λ o. with_first (Some v) o) none

each_none : {A B : Type 0} (f : A → Option B) (xs : List A) (i : ℕ) (d : A) → i < length xs → None ≡ f (get_or xs i d) → None ≡ each_of f xs
each_none f [] i d within none = absurd (omega (arith, within))
each_none f (x ∷ xs) zero d within none = ap (λ o. with_first o (each_of f xs)) none
each_none f (x ∷ xs) (suc i) d within none = nothing_first (f x) (each_of f xs) (each_none f xs i d (omega (arith, within)) none)

-- Lemmas about a loop that parses the parts of a device list one by one. After the part at index
-- `i`, it has the devices of the first `i + 1` parts, or the list is invalid.

pub devices_more : (parts : List (Bor Text)) (i : ℕ) (d : Bor Text) (old new : List Device) (device : Device) → i < length parts
    → Some (map place_of old) ≡ each_of device_in (texts (take i parts)) → Some (place_of device) ≡ device_in (get_or parts i d).now → new ≡ old ++ device ∷ []
    → Some (map place_of new) ≡ each_of device_in (texts (take (i + 1) parts))
devices_more parts i d old new device within earlier next is =
    ap (λ l. Some (map place_of l)) is
    ∙ (ap Some (map-append place_of old (device ∷ []))
    ∙ (each_more device_in (texts (take i parts)) (get_or parts i d).now (map place_of old) (place_of device) earlier next
    ∙ ap (each_of device_in) (sym (map_more (λ part. part.now) parts i d within))))

pub devices_none : (parts : List (Bor Text)) (i : ℕ) (d : Bor Text) → i < length parts → None ≡ device_in (get_or parts i d).now → None ≡ each_of device_in (texts parts)
devices_none parts i d within none =
    let inside : i < length (texts parts) = rw length-map within in
    each_none device_in (texts parts) i d.now inside (none ∙ ap device_in (sym (get_or-map (λ part. part.now) parts i d d.now within)))

-- Lemmas about the device names in the part of a device list from an index to the end. They state
-- whether all names are different, and whether a given name is among them.

list_any-map : {X Y : Type 0} (p : Y → Bool) (f : X → Y) (xs : List X) → list_any (λ x. p (f x)) xs ≡ list_any p (map f xs)
list_any-map p f [] = refl
list_any-map p f (x ∷ xs) = ap (λ b. p (f x) || b) (list_any-map p f xs)

any_name : (name : Text) (parts : List (Bor Text)) → list_any (λ part. bytes_eq name (name_in part.now)) parts ≡ list_any (bytes_eq name) (names_in (texts parts))
any_name name parts = list_any-map (λ text. bytes_eq name (name_in text)) (λ part. part.now) parts ∙ list_any-map (bytes_eq name) name_in (texts parts)

distinct_at : (parts : List (Bor Text)) (i : ℕ) (d : Bor Text) → i < length parts
    → are_distinct (names_in (texts (drop i parts)))
    ≡ (not (list_any (λ part. bytes_eq (name_in (get_or parts i d).now) (name_in part.now)) (drop (i + 1) parts)) && are_distinct (names_in (texts (drop (i + 1) parts))))
distinct_at parts i d within =
    ap (λ l. are_distinct (names_in (texts l))) (drop-cons parts i d within ∙ ap (λ n. get_or parts i d ∷ drop n parts) (sym (add-one i)))
    ∙ ap (λ b. not b && are_distinct (names_in (texts (drop (i + 1) parts)))) (sym (any_name (name_in (get_or parts i d).now) (drop (i + 1) parts)))

pub distinct_no : (parts : List (Bor Text)) (i : ℕ) (d : Bor Text) → i < length parts → are_distinct (names_in (texts (drop i parts))) ≡ are_distinct (names_in (texts parts))
    → list_any (λ part. bytes_eq (name_in (get_or parts i d).now) (name_in part.now)) (drop (i + 1) parts) ≡ true → are_distinct (names_in (texts parts)) ≡ false
distinct_no parts i d within so_far there =
    sym so_far ∙ (distinct_at parts i d within ∙ ap (λ b. not b && are_distinct (names_in (texts (drop (i + 1) parts)))) there)

pub distinct_more : (parts : List (Bor Text)) (i : ℕ) (d : Bor Text) → i < length parts → are_distinct (names_in (texts (drop i parts))) ≡ are_distinct (names_in (texts parts))
    → list_any (λ part. bytes_eq (name_in (get_or parts i d).now) (name_in part.now)) (drop (i + 1) parts) ≡ false → are_distinct (names_in (texts (drop (i + 1) parts))) ≡ are_distinct (names_in (texts parts))
distinct_more parts i d within so_far absent =
    ap (λ b. not b && are_distinct (names_in (texts (drop (i + 1) parts)))) (sym absent) ∙ (sym (distinct_at parts i d within) ∙ so_far)

-- Lemma on the parts of an argument that lists devices. The slice of the parts from index `i + 1`
-- to the end equals the list without its first `i + 1` parts.
slice_after : (parts : List (Bor Text)) (i : ℕ) → take (length parts - (i + 1)) (drop (i + 1) parts) ≡ drop (i + 1) parts
slice_after parts i = let size : length (drop (i + 1) parts) ≡ length parts - (i + 1) = length-drop (i + 1) parts in take_all _ (drop (i + 1) parts) (omega arith)

pub name_later : (parts : List (Bor Text)) (i : ℕ) (d : Bor Text) (name : Text) (found : Bool) → name ≡ name_in (get_or parts i d).now
    → found ≡ list_any (λ part. bytes_eq name (name_in part.now)) (take (length parts - (i + 1)) (drop (i + 1) parts))
    → list_any (λ part. bytes_eq (name_in (get_or parts i d).now) (name_in part.now)) (drop (i + 1) parts) ≡ found
name_later parts i d name found is looked =
    sym (looked ∙ (ap (λ n. list_any (λ part. bytes_eq n (name_in part.now)) (take (length parts - (i + 1)) (drop (i + 1) parts))) is
    ∙ ap (λ l. list_any (λ part. bytes_eq (name_in (get_or parts i d).now) (name_in part.now)) l) (slice_after parts i)))
