-- Proofs that the functions which read rows of tables return the values that these rows encode.
use Rattle.std.proofs.Common.{◌≡◌, ℕ, zero, suc, ◌+◌, ◌≤◌, ◌<◌, nat_le, Bool, true, false, ◌&&◌, if◌then◌else◌, List, [], ◌∷◌, ◌++◌, map, take, length, get_or, Option, Some, None, Ok, Err, Result, IfOk, IfErr, IsErrAnd, string_bytes, refl, sym, ap, ap₂, subst, ◌∙◌, arith, add-one}
use Rattle.std.specs.List.{AllByRecursion}
use Rattle.std.proofs.Math.Bridge.{le_prop}
use Rattle.std.proofs.lemmas.Bool.{le-leb}
use Rattle.std.proofs.lemmas.List.{length-map}
use Rattle.sqlite.specs.Order.{Row}
use Rattle.mb_wire.specs.declared.span.ReadFunction.{ReadFunction}
use Rattle.mb_wire.specs.declared.span.ReadSpan.{ReadSpan}
use Rattle.office_events.specs.Names.{is_name, named}
use Rattle.office_events.specs.declared.facts.Device.{Device}
use Rattle.office_events.specs.declared.facts.Register.{Register}
use Rattle.office_events.specs.declared.facts.ScaleSource.{ScaleSource}
use Rattle.office_events.specs.declared.facts.ScaleSource.TheVariants as source
use Rattle.office_events.specs.declared.facts.Poll.{Poll}
use Rattle.store_tables.specs.declared.faults.RowFault.{RowFault}
use Rattle.store_tables.specs.declared.faults.RowFault.TheVariants.{Sql, Damaged}
use Rattle.store_tables.specs.Columns.{or_damaged, and_then}
use Rattle.store_tables.specs.Asking.{ReadsRow}
use Rattle.store_tables.specs.Failing.{IsRowFault}
use Rattle.store_tables.proofs.ReadLemmas.{IsFair, fair_then, both, less_sound}
use Rattle.store_tables.specs.declared.devices.rows.Device as list_device
use Rattle.store_tables.specs.declared.devices.rows.Register as list_register
use Rattle.store_tables.specs.declared.devices.rows.DeviceRow.{DeviceRow}
use Rattle.store_tables.specs.declared.devices.rows.RegisterRow.{RegisterRow}
use Rattle.store_tables.specs.Devices.Rows.{Added, Registered, IsDevice, IsRegister}
use Rattle.store_tables.specs.declared.polls.rows.Poll as store_poll
use Rattle.store_tables.specs.declared.polls.rows.PollRow.{PollRow}
use Rattle.store_tables.specs.Polls.Rows.{Started, IsStarted}
use Rattle.office_store.specs.Rows.{added, registered, started, scale_as}
use Rattle.office_store.specs.Finding.Each.{AreEach}
use Rattle.office_store.specs.Finding.Finding.{ReadsAll}
use Rattle.office_store.specs.Finding.Reading.{device_with, IsDeviceOf, source_from, register_with, IsRegisterOf, HasNumbers, IsPollOf}
use Rattle.office_store.specs.Finding.Sound.{IsReadableDevice, IsReadableRegister, IsReadablePoll}
use Rattle.office_store.proofs.FindingLemmas.Each.{each_append}

-- Lemmas: reading one row and converting its value returns the value that the row encodes, or the
-- error of the row's reader.

module _ {A B X : Type 0} (row : Row) (shown : X → Row) (Seen : X → A → Type 0) (Is : X → B → Type 0) (S T : X → Type 0) where
  -- If a row can be read, and the value that was read is then converted correctly, the result is
  -- the value that the row encodes.
  pub reads_then : (a : A) (r : Result B RowFault) → ReadsRow row shown Seen S (Ok a) → ((x : X) → Seen x a → IsFair (T x) (Is x) r) → ReadsRow row shown Is T r
  reads_then a r one fair = record { read = λ x is. (fair x (one.read x is)).read; fault = λ x is. (fair x (one.read x is)).fault }

  -- If one part of a row's reader fails and the whole reader returns the same error, then the whole
  -- reader satisfies its contract.
  pub not_read : (e : RowFault) (r : Result B RowFault) → ReadsRow row shown Seen S (Err e) → ((x : X) → T x → S x) → IsErrAnd r (λ d. d ≡ e) → ReadsRow row shown Is T r
  not_read e (Ok b) one sound fails = absurd fails
  not_read e (Err d) one sound fails = record {
    read = λ x is. tt;
    fault = λ x is. subst (IsRowFault (T x)) (sym fails) (less_sound (T x) (S x) (sound x) e (one.fault x is));
  }

pub fair_if : {A : Type 0} (Sound : Type 0) (b : Bool) (x : A) → (Sound → b ≡ true) → IsFair Sound (λ y. y ≡ x) (or_damaged (if b then Some x else None))
fair_if Sound true x sound = record { read = refl; fault = tt }
fair_if Sound false x sound = record { read = tt; fault = λ s. let f = sound s in cc }

pub fair_ok : {A : Type 0} (Sound : Type 0) (Is : A → Type 0) (x : A) → Is x → IsFair Sound Is (Ok x)
fair_ok Sound Is x is = record { read = is; fault = tt }

within : (low high n : ℕ) → (low ≤ n) × (n ≤ high) → nat_le low n && nat_le n high ≡ true
within low high n h = both _ _ (le-leb low n h.0) (le-leb n high h.1)

-- Lemmas that reading a row of `devices` returns the device that the row encodes.

device_as : Added → Device
device_as x = record { name = x.name; unit = x.row.unit; timeout = x.row.timeout; window = x.row.window }

device_is : (x : Added) → IsDeviceOf x (device_as x)
unfolding device_as
device_is x place d is = ap device_as is

fair_device : (x : Added) → IsFair (IsReadableDevice x) (IsDeviceOf x) (device_with x.name x.row)
unfolding device_as
fair_device x =
    let S = IsReadableDevice x in
    let I = IsDeviceOf x in
    fair_then S I S x.name _ _ (λ s. s) (fair_if S (is_name x.name) x.name (λ s. s.name))
    (fair_then S I S x.row.timeout _ _ (λ s. s) (fair_if S _ x.row.timeout (λ s. within 1 60 x.row.timeout s.row.row.timeout))
    (fair_then S I S x.row.window _ _ (λ s. s) (fair_if S _ x.row.window (λ s. within 1 16 x.row.window s.row.row.window))
    (fair_ok S I (device_as x) (device_is x))))

pub device_found : (a : list_device.Device) (r : Result Device RowFault) → r ≡ device_with (string_bytes a.name) a.row → (x : Added) → IsDevice x a → IsFair (IsReadableDevice x) (IsDeviceOf x) r
device_found a r is x seen = subst (IsFair (IsReadableDevice x) (IsDeviceOf x)) (sym (is ∙ ap₂ device_with seen.name seen.row)) (fair_device x)

-- Lemmas that reading a row of `registers` returns the accounting register (a named energy counter)
-- that the row encodes.

source_back : (s : ScaleSource) → source_from (scale_as s) ≡ s
source_back (source.Fixed sf) = refl
source_back (source.Register address) = refl

register_as : Registered → Register
register_as x = record { name = x.name; device = x.device; function = x.row.function; address = x.row.address; scale = source_from x.row.scale }

register_is : (x : Registered) → IsRegisterOf x (register_as x)
unfolding register_as
register_is x place r is =
    ap register_as is ∙ ap (λ (s : ScaleSource). let q : Register = record { name = r.name; device = r.device; function = r.function; address = r.address; scale = s } in q) (source_back r.scale)

fair_register : (x : Registered) → IsFair (IsReadableRegister x) (IsRegisterOf x) (register_with x.name x.device x.row)
unfolding register_as
fair_register x =
    let S = IsReadableRegister x in
    let I = IsRegisterOf x in
    fair_then S I S x.name _ _ (λ s. s) (fair_if S (is_name x.name) x.name (λ s. s.name))
    (fair_then S I S x.device _ _ (λ s. s) (fair_if S (is_name x.device) x.device (λ s. s.device))
    (fair_ok S I (register_as x) (register_is x)))

pub register_found : (a : list_register.Register) (r : Result Register RowFault) → r ≡ register_with (string_bytes a.name) (string_bytes a.device) a.row
    → (x : Registered) → IsRegister x a → IsFair (IsReadableRegister x) (IsRegisterOf x) r
register_found a r is x seen =
    subst (IsFair (IsReadableRegister x) (IsRegisterOf x)) (sym (is ∙ (λ i. register_with (seen.name i) (seen.device i) (seen.row i)))) (fair_register x)

-- Lemmas that reading a row of `polls` returns the poll that the row encodes.

span_of : (f : ReadFunction) (a c : ℕ) → 1 ≤ c → c ≤ 125 → a + c ≤ 65536 → ReadSpan
span_of f a c s w i = record { function = f; address = a; count = c; some = s; few = w; inside = i }

-- True if the span of a Modbus read has the given function, address and count.
abbrev IsSpan : (x : ReadSpan) (f : ReadFunction) (a c : ℕ) → Type 0
IsSpan x f a c = (s : 1 ≤ c) (w : c ≤ 125) (i : a + c ≤ 65536) → x ≡ span_of f a c s w i

own_numbers : (x : ReadSpan) → IsSpan x x.function x.address x.count
unfolding span_of
own_numbers x s w i =
    ap (λ (p : 1 ≤ x.count). span_of x.function x.address x.count p x.few x.inside) (le_prop x.some s)
    ∙ ap (λ (p : x.count ≤ 125). span_of x.function x.address x.count s p x.inside) (le_prop x.few w)
    ∙ ap (λ (p : x.address + x.count ≤ 65536). span_of x.function x.address x.count s w p) (le_prop x.inside i)

one_span : (x y : ReadSpan) → x.function ≡ y.function → x.address ≡ y.address → x.count ≡ y.count → x ≡ y
unfolding span_of
one_span x y f a c =
    subst (λ (n : ℕ). IsSpan x y.function y.address n) c
    (subst (λ (n : ℕ). IsSpan x y.function n x.count) a
    (subst (λ (g : ReadFunction). IsSpan x g x.address x.count) f (own_numbers x)))
    y.some y.few y.inside

poll_is : (x : Started) (p : Poll) → HasNumbers x.device x.row p → IsPollOf x p
poll_is x p has q is =
    let of : HasNumbers q.device (started q).row p = subst (λ (y : Started). HasNumbers y.device y.row p) is has in
    let span : p.span ≡ q.span = one_span p.span q.span of.function of.address of.count in
    λ i. record { number = of.number i; device = of.device i; unit = of.unit i; at = of.at i; id = of.id i; span = span i }

pub poll_found : (a : store_poll.Poll) (r : Result Poll RowFault) → IfOk r (HasNumbers (string_bytes a.device) a.row) → IfErr r (λ e. (e ≡ Damaged) × (¬ (is_name (string_bytes a.device) ≡ true)))
    → (x : Started) → IsStarted x a → IsFair (IsReadablePoll x) (IsPollOf x) r
poll_found a (Ok p) has fair x seen = record {
  read = poll_is x p (subst (λ (row : PollRow). HasNumbers x.device row p) seen.row (subst (λ (device : List ℕ). HasNumbers device a.row p) seen.device has));
  fault = tt;
}
poll_found a (Err e) has fair x seen = record { read = tt; fault = subst (IsRowFault (IsReadablePoll x)) (sym fair.0) (λ s. fair.1 (ap is_name seen.device ∙ s.device)) }

-- Lemmas that reading several rows one by one returns their values in order.

at_index : {X : Type 0} (shown : X → Row) (xs : List X) (i : ℕ) (row : Row) → i < length (map shown xs) → row ≡ get_or (map shown xs) i row
    → (x : X) × (row ≡ shown x) × (take (suc i) xs ≡ take i xs ++ x ∷ [])
at_index shown [] i row lt is = absurd (omega arith)
at_index shown (x ∷ xs) zero row lt is = (x, is, refl)
at_index shown (x ∷ xs) (suc i) row lt is =
    let it = at_index shown xs i row (omega arith) is in
    (it.0, it.1, ap (λ l. x ∷ l) it.2)

pub at_element : {X : Type 0} (shown : X → Row) (xs : List X) (i : ℕ) (row : Row) → i < length (map shown xs) → row ≡ get_or (map shown xs) i row
    → (x : X) × (row ≡ shown x) × ((S : X → Type 0) → AllByRecursion S xs → S x)
at_element shown [] i row lt is = absurd (omega arith)
at_element shown (x ∷ xs) zero row lt is = (x, is, λ S all. all.0)
at_element shown (x ∷ xs) (suc i) row lt is = let it = at_element shown xs i row (omega arith) is in (it.0, it.1, λ S all. it.2 S all.1)

module _ {X A : Type 0} (rows : List Row) (shown : X → Row) (Seen : X → A → Type 0) where
  -- True if the values in `done` are those of the first `i` rows, in order.
  abbrev pub HasReadSome : ℕ → List A → Type 0
  HasReadSome i done = (xs : List X) → rows ≡ map shown xs → AreEach Seen (take i xs) done

  module _ (i : ℕ) (row : Row) (lt : i < length rows) (is : row ≡ get_or rows i row) where
    this_row : (xs : List X) → rows ≡ map shown xs → (x : X) × (row ≡ shown x) × (take (suc i) xs ≡ take i xs ++ x ∷ [])
    this_row xs are = at_index shown xs i row (subst (λ l. i < length l) are lt) (subst (λ l. row ≡ get_or l i row) are is)

    pub read_more : (S : X → Type 0) (done : List A) (a : A) → ReadsRow row shown Seen S (Ok a) → HasReadSome i done → HasReadSome (i + 1) (done ++ a ∷ [])
    read_more S done a reads some xs are =
        let it = this_row xs are in
        rw (add-one) (subst (λ l. AreEach Seen l (done ++ a ∷ [])) (sym it.2) (each_append Seen (take i xs) (it.0 ∷ []) done (a ∷ []) (some xs are) (reads.read it.0 it.1, tt)))

    -- If one of several rows can't be parsed, the reader of all rows returns the error for this
    -- row.
    pub unreadable : {T : Type 0} (S : X → Type 0) (items : T → List A) (e : RowFault) (r : Result T RowFault) → ReadsRow row shown Seen S (Err e) → IsErrAnd r (λ d. d ≡ e) → ReadsAll rows shown Seen S items r
    unreadable S items e (Ok v) reads fails = absurd fails
    unreadable S items e (Err d) reads fails = record {
      read = λ xs are. tt;
      fault = λ xs are.
          let it = at_element shown xs i row (subst (λ l. i < length l) are lt) (subst (λ l. row ≡ get_or l i row) are is) in
          subst (IsRowFault (AllByRecursion S xs)) (sym fails) (less_sound (AllByRecursion S xs) (S it.0) (it.2 S) e (reads.fault it.0 it.1));
    }

  -- If each of several rows can be read, reading all rows returns the values of all rows.
  pub read_all : {T : Type 0} (S : X → Type 0) (items : T → List A) (v : T) (i : ℕ) → i ≡ length rows → HasReadSome i (items v) → ReadsAll rows shown Seen S items (Ok v)
  read_all S items v i end some = record {
    read = λ xs are.
        let long : length xs ≤ i = whole_length xs are end in
        subst (λ l. AreEach Seen l (items v)) (take_whole i xs long) (some xs are);
    fault = λ xs are. tt;
  }
    where
      whole_length : (xs : List X) → rows ≡ map shown xs → i ≡ length rows → length xs ≤ i
      whole_length xs are end = let m = length-map xs shown in let l = ap length are in omega (arith, m, l, end)

      take_whole : (n : ℕ) (xs : List X) → length xs ≤ n → take n xs ≡ xs
      take_whole zero [] le = refl
      take_whole zero (x ∷ xs) le = absurd (omega arith)
      take_whole (suc n) [] le = refl
      take_whole (suc n) (x ∷ xs) le = ap (λ l. x ∷ l) (take_whole n xs (omega arith))
