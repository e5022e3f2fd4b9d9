-- Defines the areas of a simulated device, which are the ranges of addresses that it has, and its
-- initial register map.
use Rattle.std.specs.Prelude.{◌≡◌, ℕ, ◌+◌, ◌<◌, ◌==◌, ◌&&◌, ◌||◌, nat_le, nat_lt, min, max, Bool, true, false, if◌then◌else◌, List, [], ◌∷◌, ◌++◌, length, take, drop, replicate, is_some, Some, None, Ok, Err}
use Rattle.std.specs.List.{list_any}
use Rattle.std.specs.declared.option.Option.{Option}
use Rattle.std.specs.declared.result.Result.{Result}
use Rattle.mb_wire.specs.declared.limits.TheConstants.{ADDRESSES}
use Rattle.mb_device.specs.Maps.{Maps, value_at, value_in, values_at}
use Rattle.mb_device.specs.declared.kinds.Area.{Area}
use Rattle.mb_device.specs.declared.kinds.BankFault.{BankFault}
use Rattle.mb_device.specs.declared.kinds.BankFault.TheVariants.{AreasOverlap, OutOfRange, Memory}
use Rattle.mb_device.specs.declared.kinds.Kind.{Kind}
use Rattle.mb_device.specs.declared.kinds.Kind.TheVariants.{Coil, Discrete, Holding, Input}

-- A numeric code for each kind of values: coils, discrete inputs, holding registers and input
-- registers. Contracts compare kinds by their codes.
abbrev pub kind_number : Kind → ℕ
kind_number Coil = 1
kind_number Discrete = 2
kind_number Holding = 3
kind_number Input = 4

-- True if the area (a range of addresses of one kind) has the given kind and contains the address.
abbrev pub contains : Kind → ℕ → Area → Bool
contains kind address area =
    kind_number area.kind == kind_number kind && nat_le area.start address
    && nat_lt address (area.start + area.count)

-- True if two areas (ranges of addresses of one kind, such as holding registers) have the same kind
-- and share an address: the greater start is below the lesser end.
abbrev pub overlap : Area → Area → Bool
overlap a b =
    kind_number a.kind == kind_number b.kind
    && nat_lt (max a.start b.start) (min (a.start + a.count) (b.start + b.count))

-- True if two areas of the list have the same kind and share an address. An area is a range of
-- addresses of one kind, such as holding registers.
abbrev pub any_overlap : List Area → Bool
any_overlap [] = false
any_overlap (area ∷ areas) = list_any (λ other. overlap area other) areas || any_overlap areas

-- True if the area (a range of addresses of one kind, such as holding registers) is empty or
-- extends past address 65535.
abbrev pub is_out_of_range : Area → Bool
is_out_of_range area = area.count == 0 || nat_lt ADDRESSES (area.start + area.count)

-- The initial value at an address: 0 if one of the device's areas (address ranges) of the given
-- kind contains the address, otherwise `None`.
abbrev pub first_value : List Area → Kind → ℕ → Option ℕ
first_value areas kind address =
    if list_any (λ area. contains kind address area) areas then Some 0 else None

-- True if the table of this kind of values (such as holding registers) is initial: 0 at each
-- address that an area (address range) of this kind contains, and `None` elsewhere.
abbrev pub BeginsAs : List Area → Kind → List (Option ℕ) → Type 0
BeginsAs areas kind table =
    (address : ℕ) → address < ADDRESSES → value_in table address ≡ first_value areas kind address

-- True if each of the four tables (one for each kind of values) is initial: 0 at each address that
-- an area (address range) of its kind contains, and `None` elsewhere.
abbrev pub AllBeginAs : List Area → Maps → Type 0
AllBeginAs areas maps =
    (kind : Kind) (address : ℕ) → address < ADDRESSES
    → value_at maps kind address ≡ first_value areas kind address

-- The numeric code of each reason to reject a range of addresses, in the order of the checks.
abbrev pub bank_fault_number : BankFault → ℕ
bank_fault_number AreasOverlap = 1
bank_fault_number OutOfRange = 2
bank_fault_number Memory = 3

-- A device's table of values after the values at `count` consecutive addresses, from `start` on,
-- were set to 0.
abbrev pub begun_from : List (Option ℕ) → ℕ → ℕ → List (Option ℕ)
begun_from table start count =
    take start table ++ (replicate count (Some 0) ++ drop (start + count) table)

-- True if the device has at least one of the addresses: the given number of addresses from the
-- given start on.
abbrev pub is_any_there : List (Option ℕ) → ℕ → ℕ → Bool
is_any_there table start count = list_any (λ value. is_some value) (values_at table start count)

-- True if a range of addresses is empty or extends past the table's last address.
abbrev pub is_past_end : List (Option ℕ) → ℕ → ℕ → Bool
is_past_end table start count = count == 0 || nat_lt (length table) (start + count)

-- The effect of adding an area (a range of addresses of one kind) to a table. Adding succeeds if
-- the addresses are in range and the device has none of them yet. Otherwise it returns the first
-- fault, and the table is unchanged. The result `Memory` never occurs.
abbrev pub Adds : List (Option ℕ) → (start count : ℕ) → Result (Unit {0}) BankFault
    → List (Option ℕ) → Type 0
Adds old start count (Ok done) new =
    (is_any_there old start count ≡ false) × (is_past_end old start count ≡ false)
    × (new ≡ begun_from old start count)
Adds old start count (Err AreasOverlap) new = (is_any_there old start count ≡ true) × (new ≡ old)
Adds old start count (Err OutOfRange) new =
    (is_any_there old start count ≡ false) × (is_past_end old start count ≡ true) × (new ≡ old)
Adds old start count (Err Memory) new = ⊥
