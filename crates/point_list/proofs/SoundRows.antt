-- Proves that a row of a point list (CSV) without faults encodes a point.
use Rattle.std.proofs.Common.{◌≡◌, ◌≤◌, ℕ, zero, suc, ℤ, pos, negsuc, Bool, true, false, IsTrue, List, [], ◌∷◌, Some, None, Option, drop, refl, arith, inl, inr, rules}
use Rattle.std.specs.Prelude.{◌==◌, nat_le, not, if◌then◌else◌, ◌&&◌, ◌||◌, is_none, int_le, codes}
use Rattle.std.specs.Option.{option_and_then, option_map}
use Rattle.std.specs.List.{starts_with}
use Rattle.std.specs.Str.{bytes_eq}
use Rattle.std.proofs.lemmas.Bool.{cases_Bool}
use Rattle.std.proofs.lemmas.Option.{cond_some, same_Some}
use Rattle.sun_points.specs.declared.point_type.PointType.{PointType}
use Rattle.sun_points.specs.declared.point_type.PointType.TheVariants as kind
use Rattle.sun_points.specs.PointType.{registers_of}
use Rattle.point_list.specs.declared.fault.RowFault.{RowFault}
use Rattle.point_list.specs.declared.fault.RowFault.TheVariants as fault
use Rattle.point_list.specs.Faults.{RowText, conditions_where, first_of, is_bad_scale, is_no_number, reaches_past}
use Rattle.point_list.specs.Fields.{fixed_scale_of, function_of, minus, number_of, number_within, text_type_of, type_of}
use Rattle.point_list.specs.Names.{is_name}

-- States that the six fields of a point list's row have none of the faults for which a row is
-- rejected: an invalid name, function, area, address, type or scale. The name is new, and the row
-- is one of the first 512.
pub record Sound (taken : Bool) (place : ℕ) (row : RowText) : Type 0 where
  pub name : not (is_name row.name) ≡ false
  pub untaken : taken ≡ false
  pub function : is_none (function_of row.function) ≡ false
  pub area : is_no_number 0 255 row.area ≡ false
  pub address : (is_no_number 0 65535 row.address || reaches_past (number_within 0 65535 row.address) (type_of row.kind)) ≡ false
  pub kind : is_none (type_of row.kind) ≡ false
  pub scale : is_bad_scale row.scale (type_of row.kind) ≡ false
  pub few : nat_le 512 place ≡ false

first-none : (f : RowFault) (b : Bool) (rest : List (RowFault × Bool)) → first_of ((f, b) ∷ rest) ≡ None → (b ≡ false) × (first_of rest ≡ None)
first-none f true rest h = absurd (cc h)
first-none f false rest h = (refl, h)

pub sound : (taken : Bool) (place : ℕ) (row : RowText) → first_of (conditions_where taken place row) ≡ None → Sound taken place row
sound taken place row h =
    let rest8 : List (RowFault × Bool) = [] in
    let rest7 : List (RowFault × Bool) = (fault.TooMany, nat_le 512 place) ∷ rest8 in
    let rest6 : List (RowFault × Bool) = (fault.Scale, is_bad_scale row.scale (type_of row.kind)) ∷ rest7 in
    let rest5 : List (RowFault × Bool) = (fault.«Type», is_none (type_of row.kind)) ∷ rest6 in
    let rest4 : List (RowFault × Bool) = (fault.Address, is_no_number 0 65535 row.address || reaches_past (number_within 0 65535 row.address) (type_of row.kind)) ∷ rest5 in
    let rest3 : List (RowFault × Bool) = (fault.Area, is_no_number 0 255 row.area) ∷ rest4 in
    let rest2 : List (RowFault × Bool) = (fault.Function, is_none (function_of row.function)) ∷ rest3 in
    let rest1 : List (RowFault × Bool) = (fault.DoubleName, taken) ∷ rest2 in
    let name = first-none fault.Name (not (is_name row.name)) rest1 h in
    let untaken = first-none fault.DoubleName (taken) rest2 name.1 in
    let function = first-none fault.Function (is_none (function_of row.function)) rest3 untaken.1 in
    let area = first-none fault.Area (is_no_number 0 255 row.area) rest4 function.1 in
    let address = first-none fault.Address (is_no_number 0 65535 row.address || reaches_past (number_within 0 65535 row.address) (type_of row.kind)) rest5 area.1 in
    let kind = first-none fault.«Type» (is_none (type_of row.kind)) rest6 address.1 in
    let scale = first-none fault.Scale (is_bad_scale row.scale (type_of row.kind)) rest7 kind.1 in
    let few = first-none fault.TooMany (nat_le 512 place) rest8 scale.1 in
    record { name = name.0; untaken = untaken.0; function = function.0; area = area.0; address = address.0; kind = kind.0; scale = scale.0; few = few.0 }

pub sound-none : (taken : Bool) (place : ℕ) (row : RowText) → Sound taken place row → first_of (conditions_where taken place row) ≡ None
sound-none taken place row s = rw (s.name, s.untaken, s.function, s.area, s.address, s.kind, s.scale, s.few) refl

-- An option that is not `None` has a value.
pub there : {X : Type 0} (o : Option X) → is_none o ≡ false → (x : X) × (o ≡ Some x)
there None h = absurd (cc h)
there (Some x) h = (x, refl)

pub or-first : (a b : Bool) → (a || b) ≡ false → (a ≡ false) × (b ≡ false)
or-first true b h = absurd (cc h)
or-first false b h = (refl, h)

pub not-false : (b : Bool) → not b ≡ false → b ≡ true
not-false true h = refl
not-false false h = absurd (cc h)

and-true : (a b : Bool) → (a && b) ≡ true → (a ≡ true) × (b ≡ true)
and-true true b h = (refl, h)
and-true false b h = absurd (cc h)

within-some : (low high : ℕ) (o : Option ℕ) (n : ℕ) → option_and_then (λ m. if nat_le low m && nat_le m high then Some m else None) o ≡ Some n → (low ≤ n) × (n ≤ high)
within-some low high None n h = absurd (cc h)
within-some low high (Some m) n h =
    let c = cond_some (nat_le low m && nat_le m high) m n h in
    let both = and-true (nat_le low m) (nat_le m high) c.0 in
    rw (← c.1) (grind (arith, both.0), grind (arith, both.1))

pub within : (low high : ℕ) (field : List ℕ) (n : ℕ) → number_within low high field ≡ Some n → (low ≤ n) × (n ≤ high)
within low high field n h = within-some low high (number_of field) n h

-- The negative of a number up to 10 is from -10 to 10.
minus-bounds : (n : ℕ) → n ≤ 10 → IsTrue (int_le (negsuc 9) (minus n) && int_le (minus n) (pos 10))
minus-bounds zero h = search rules
minus-bounds (suc n) h = search rules

pos-bounds : (n : ℕ) → n ≤ 10 → IsTrue (int_le (negsuc 9) (pos n) && int_le (pos n) (pos 10))
pos-bounds n h = search rules

mapped : {X Y : Type 0} (f : X → Y) (o : Option X) (y : Y) → option_map f o ≡ Some y → (x : X) × (o ≡ Some x) × (f x ≡ y)
mapped f None y h = absurd (cc h)
mapped f (Some x) y h = (x, refl, same_Some _ _ h)

pub fixed-bounds : (field : List ℕ) (exponent : ℤ) → fixed_scale_of field ≡ Some exponent → IsTrue (int_le (negsuc 9) exponent && int_le exponent (pos 10))
fixed-bounds [] exponent h = absurd (cc h)
fixed-bounds (first ∷ rest) exponent h = elim (cases_Bool (first == 45)) [
  | inl dash ↦
      let m = mapped minus (number_within 0 10 rest) exponent (rw dash at h) in
      rw (← m.2) (minus-bounds m.0 (within 0 10 rest m.0 m.1).1)
  | inr other ↦
      let m = mapped pos (number_within 0 10 (first ∷ rest)) exponent (rw other at h) in
      rw (← m.2) (pos-bounds m.0 (within 0 10 (first ∷ rest) m.0 m.1).1)
]

-- The type of a text point, such as `string8`, has 1 to 125 registers.
text-sized : (field : List ℕ) (kind : PointType) → text_type_of field ≡ Some kind → (1 ≤ registers_of kind) × (registers_of kind ≤ 125)
text-sized field shown h = elim (cases_Bool (starts_with (λ a b. a == b) field (codes "string"))) [
  | inl is ↦ text-found (number_within 1 125 (drop 6 field)) shown (λ n. within 1 125 (drop 6 field) n) (rw is at h)
  | inr other ↦ absurd (cc (rw other at h))
]
  where
    text-found : (o : Option ℕ) (k : PointType) → ((n : ℕ) → o ≡ Some n → (1 ≤ n) × (n ≤ 125)) → option_and_then (λ n. Some (kind.Text n)) o ≡ Some k
        → (1 ≤ registers_of k) × (registers_of k ≤ 125)
    text-found None k known e = absurd (cc e)
    text-found (Some n) k known e = rw (← same_Some _ _ e) (known n refl)

small : (kind : PointType) → IsTrue (nat_le 1 (registers_of kind) && nat_le (registers_of kind) 125) → (1 ≤ registers_of kind) × (registers_of kind ≤ 125)
small kind h = search rules

chosen : (b : Bool) (kind shown : PointType) (other : Option PointType) → IsTrue (nat_le 1 (registers_of kind) && nat_le (registers_of kind) 125)
    → (other ≡ Some shown → (1 ≤ registers_of shown) × (registers_of shown ≤ 125))
    → (if b then Some kind else other) ≡ Some shown → (1 ≤ registers_of shown) × (registers_of shown ≤ 125)
chosen true kind shown other fits next h = rw (← same_Some _ _ h) (small kind fits)
chosen false kind shown other fits next h = next h

pub type-sized : (field : List ℕ) (shown : PointType) → type_of field ≡ Some shown → (1 ≤ registers_of shown) × (registers_of shown ≤ 125)
type-sized field shown h =
    chosen (bytes_eq field (codes "int16")) kind.Int16 shown _ refl
    (chosen (bytes_eq field (codes "uint16")) kind.Uint16 shown _ refl
    (chosen (bytes_eq field (codes "enum16")) kind.Enum16 shown _ refl
    (chosen (bytes_eq field (codes "int32")) kind.Int32 shown _ refl
    (chosen (bytes_eq field (codes "uint32")) kind.Uint32 shown _ refl
    (chosen (bytes_eq field (codes "bitfield32")) kind.Bitfield32 shown _ refl
    (chosen (bytes_eq field (codes "acc32")) kind.Acc32 shown _ refl
    (chosen (bytes_eq field (codes "sunssf")) kind.Sunssf shown _ refl
    (text-sized field shown)))))))) h
