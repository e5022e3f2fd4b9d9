-- Lemmas about readers, which are functions that read a result row column by column. A reader
-- returns the values of the columns, and reports `Damaged` only if a value is out of its range.
use Rattle.std.proofs.Common.{◌≡◌, ◌≢◌, ◌≤◌, inl, inr, ℕ, ℤ, pos, nat_le, Bool, true, false, ◌&&◌, if◌then◌else◌, Option, Some, None, Ok, Err, Result, IfOk, IfErr, IsTrue, refl, sym, ap, subst, ◌∙◌}
use Rattle.std.proofs.lemmas.Bool.{le-leb, leb-true, and_parts}
use Rattle.mb_wire.specs.declared.span.ReadFunction.{ReadFunction}
use Rattle.mb_wire.specs.declared.span.ReadFunction.TheVariants.{HoldingRegisters, InputRegisters}
use Rattle.mb_wire.specs.Spans.{code_of}
use Rattle.sqlite.specs.declared.types.Value.{Value}
use Rattle.sqlite.specs.declared.types.Value.TheVariants.{Null, Int, Real, Text, Blob}
use Rattle.sqlite.specs.Order.{Row, column}
use Rattle.store_tables.specs.declared.faults.RowFault.{RowFault}
use Rattle.store_tables.specs.declared.faults.RowFault.TheVariants.{Sql, Damaged}
use Rattle.store_tables.specs.Failing.{IsRowFault}
use Rattle.store_tables.specs.Columns.{whole_in, within, is_within, function_in, or_damaged, and_then}
use Rattle.store_tables.specs.Asking.{ReadsRow}

-- True if a reader's Ok value satisfies the condition `Is`, and the reader reports `Damaged` only
-- for a row with a value out of its range.
pub record IsFair {A : Type 0} (Sound : Type 0) (Is : A → Type 0) (result : Result A RowFault) : Type 0 where
  pub read : IfOk result Is
  pub fault : IfErr result (IsRowFault Sound)

-- If damage in one part of a row justifies the fault `Damaged`, it also justifies this fault for
-- the complete row.
pub less_sound : (Sound Part : Type 0) → (Sound → Part) → (e : RowFault) → IsRowFault Part e → IsRowFault Sound e
less_sound Sound Part part (Sql e) is = is
less_sound Sound Part part Damaged not = λ sound. not (part sound)

module _ {A B : Type 0} (Sound : Type 0) (Is : B → Type 0) (next : A → Result B RowFault) where
  tested : (b : Bool) (x : A) → (Sound → b ≡ true) → IsFair Sound Is (next x) → IsFair Sound Is (and_then (or_damaged (if b then Some x else None)) next)
  tested true x sound rest = rest
  tested false x sound rest = record { read = tt; fault = λ is. let f = sound is in cc }

  -- If the first column of a row is in its range, and the reader of the other columns satisfies
  -- `IsFair`, the reader of the complete row satisfies `IsFair`. `IsFair` is the contract of a
  -- reader.
  pub fair_some : (o : Option A) (x : A) → o ≡ Some x → IsFair Sound Is (next x) → IsFair Sound Is (and_then (or_damaged o) next)
  fair_some o x is rest = rw is rest

pub both : (a b : Bool) → a ≡ true → b ≡ true → a && b ≡ true
both true b e f = f
both false b e f = absurd (let g = e in cc)

module _ {B : Type 0} (Sound : Type 0) (Is : B → Type 0) where
  -- If a row begins with an integer from `low` to `high`, and the reader of the other columns
  -- satisfies `IsFair`, the reader of the row satisfies `IsFair`. `IsFair` is the contract of a
  -- reader.
  pub fair_whole : (next : ℕ → Result B RowFault) (low high n : ℕ) → (Sound → (low ≤ n) × (n ≤ high)) → IsFair Sound Is (next n) → IsFair Sound Is (and_then (or_damaged (whole_in low high (Int (pos n)))) next)
  fair_whole next low high n sound rest = tested Sound Is next (nat_le low n && nat_le n high) n (λ is. both _ _ (le-leb low n (sound is).0) (le-leb n high (sound is).1)) rest

  pub fair_within : (next : ℤ → Result B RowFault) (bound : ℕ) (n : ℤ) → (Sound → IsTrue (is_within bound n)) → IsFair Sound Is (next n) → IsFair Sound Is (and_then (or_damaged (within bound (Int n))) next)
  fair_within next bound n sound rest = tested Sound Is next (is_within bound n) n sound rest

  if_fair : (b : Bool) (x : B) → (Sound → b ≡ true) → Is x → IsFair Sound Is (or_damaged (if b then Some x else None))
  if_fair true x sound is = record { read = is; fault = tt }
  if_fair false x sound is = record { read = tt; fault = λ s. let f = sound s in cc }

  -- If one reader of a row's first columns and one reader of its other columns satisfy `IsFair`
  -- (the contract of a reader), both readers in sequence satisfy `IsFair`.
  pub fair_then : {A : Type 0} (Part : Type 0) (a : A) (first : Result A RowFault) (next : A → Result B RowFault) → (Sound → Part) → IsFair Part (λ x. x ≡ a) first → IsFair Sound Is (next a) → IsFair Sound Is (and_then first next)
  fair_then Part a (Ok x) next part one rest = subst (λ y. IsFair Sound Is (next y)) (sym one.read) rest
  fair_then Part a (Err e) next part one rest = record { read = tt; fault = less_sound Sound Part part e one.fault }

-- If a row consists of one integer from `low` to `high`, the reader that checks these bounds
-- satisfies `IsFair` (the contract of a reader).
pub fair_last : (Sound : Type 0) (Is : ℕ → Type 0) (low high n : ℕ) → (Sound → (low ≤ n) × (n ≤ high)) → Is n → IsFair Sound Is (or_damaged (whole_in low high (Int (pos n))))
fair_last Sound Is low high n sound is = if_fair Sound Is (nat_le low n && nat_le n high) n (λ s. both _ _ (le-leb low n (sound s).0) (le-leb n high (sound s).1)) is

-- If reading two parts of a row in sequence succeeds, reading the first part succeeded.
pub then_read : {A B : Type 0} (first : Result A RowFault) (next : A → Result B RowFault) (b : B) → and_then first next ≡ Ok b → (a : A) × (first ≡ Ok a) × (next a ≡ Ok b)
then_read (Ok a) next b e = (a, refl, e)
then_read (Err f) next b e = absurd (let g = e in cc)

-- Lemmas: if a row was read successfully, each of its values is within the bounds that the reader
-- checks.

-- True if reading a row returned `b`: the reader found a permitted value in the first column, and
-- `next` returned `b` from the other columns.
pub record HasRead {X B : Type 0} (o : Option X) (next : X → Result B RowFault) (b : B) : Type 0 where
  pub value : X
  pub is : o ≡ Some value
  pub rest : next value ≡ Ok b

pub has_read : {X B : Type 0} (o : Option X) (next : X → Result B RowFault) (b : B) → and_then (or_damaged o) next ≡ Ok b → HasRead o next b
has_read (Some x) next b e = record { value = x; is = refl; rest = e }
has_read None next b e = absurd (let f = e in cc)

bounds_if : (low high n m : ℕ) (b : Bool) → nat_le low n && nat_le n high ≡ b → (if b then Some n else None) ≡ Some m → (low ≤ m) × (m ≤ high)
bounds_if low high n m true is e =
    let same : n ≡ m = cc in
    let parts = and_parts (nat_le low n) (nat_le n high) is in
    subst (λ k. (low ≤ k) × (k ≤ high)) same (leb-true low n parts.0, leb-true n high parts.1)
bounds_if low high n m false is e = absurd (let f = e in cc)

pub whole_bounds : (low high : ℕ) (v : Value) (n : ℕ) → whole_in low high v ≡ Some n → (low ≤ n) × (n ≤ high)
whole_bounds low high (Int (pos k)) n e = bounds_if low high k n _ refl e
whole_bounds low high (Int (Rattle.std.proofs.Common.negsuc k)) n e = absurd (let f = e in cc)
whole_bounds low high Null n e = absurd (let f = e in cc)
whole_bounds low high (Real x) n e = absurd (let f = e in cc)
whole_bounds low high (Text t) n e = absurd (let f = e in cc)
whole_bounds low high (Blob b) n e = absurd (let f = e in cc)

within_if : (bound : ℕ) (n m : ℤ) (b : Bool) → is_within bound n ≡ b → (if b then Some n else None) ≡ Some m → IsTrue (is_within bound m)
within_if bound n m true is e = let same : n ≡ m = cc in subst (λ k. IsTrue (is_within bound k)) same is
within_if bound n m false is e = absurd (let f = e in cc)

pub within_bounds : (bound : ℕ) (v : Value) (n : ℤ) → within bound v ≡ Some n → IsTrue (is_within bound n)
within_bounds bound (Int k) n e = within_if bound k n _ refl e
within_bounds bound Null n e = absurd (let f = e in cc)
within_bounds bound (Real x) n e = absurd (let f = e in cc)
within_bounds bound (Text t) n e = absurd (let f = e in cc)
within_bounds bound (Blob b) n e = absurd (let f = e in cc)

pub reads_row : {A X : Type 0} (row : Row) (shown : X → Row) (IsSeen : X → A → Type 0) (IsSound : X → Type 0) (result : Result A RowFault) → ((x : X) → row ≡ shown x → IsFair (IsSound x) (IsSeen x) result)
    → ReadsRow row shown IsSeen IsSound result
reads_row row shown IsSeen IsSound result fair = record { read = λ x is. (fair x is).read; fault = λ x is. (fair x is).fault }

pub ok_is : {A : Type 0} {a b : A} → ◌≡◌ {A = Result A RowFault} (Ok a) (Ok b) → a ≡ b
ok_is e = cc

pub or_is : {A : Type 0} (o : Option A) (a : A) → or_damaged o ≡ Ok a → o ≡ Some a
or_is (Some b) a e = ap Some (ok_is e)
or_is None a e = absurd (let f = e in cc)

-- Lemmas: an integer that was read from the first column is within the bounds `low` and `high` that
-- the reader checks.

pub number_bounds : (low high : ℕ) (row : Row) (r : Result ℕ RowFault) → r ≡ or_damaged (whole_in low high (column row 0)) → IfOk r (λ n. (low ≤ n) × (n ≤ high))
number_bounds low high row (Err f) is = tt
number_bounds low high row (Ok n) is = whole_bounds low high (column row 0) n (or_is _ n (sym is))

pub reads_number : {X : Type 0} (low high : ℕ) (shown : X → Row) (of : X → ℕ) (Sound : X → Type 0) → ((x : X) → column (shown x) 0 ≡ Int (pos (of x))) → ((x : X) → Sound x → (low ≤ of x) × (of x ≤ high))
    → (row : Row) (r : Result ℕ RowFault) → r ≡ or_damaged (whole_in low high (column row 0)) → ReadsRow row shown (λ x n. n ≡ of x) Sound r
reads_number low high shown of Sound first bounds row r is = reads_row row shown (λ x n. n ≡ of x) Sound r (λ x seen.
    subst (IsFair (Sound x) (λ n. n ≡ of x)) (sym (is ∙ ap (λ v. or_damaged (whole_in low high v)) (ap (λ r. column r 0) seen ∙ first x))) (fair_last (Sound x) (λ m. m ≡ of x) low high (of x) (bounds x) refl))

-- Lemmas: the stored code of a Modbus read function is read back as this function.

pub function_back : (f : ReadFunction) → function_in (Int (pos (code_of f))) ≡ Some f
function_back HoldingRegisters = refl
function_back InputRegisters = refl
