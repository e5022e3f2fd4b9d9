-- Defines the four tables of a device (Modbus Application Protocol V1.1b3, section 4.3). A table
-- has a value for each address that the device has.
use Rattle.std.specs.Prelude.{◌≡◌, ℕ, ◌+◌, ◌==◌, ◌&&◌, nat_le, Bool, if◌then◌else◌, List, [], ◌∷◌, length, take, drop, is_some, slice_index_or, slice_set, Some, None}
use Rattle.std.specs.List.{list_all}
use Rattle.std.specs.declared.option.Option.{Option}
use Rattle.mb_wire.specs.declared.limits.TheConstants.{ADDRESSES}
use Rattle.mb_device.specs.declared.kinds.Kind.{Kind}
use Rattle.mb_device.specs.declared.kinds.Kind.TheVariants.{Coil, Discrete, Holding, Input}

-- A register map: for each kind of values, a table indexed by address.
pub record Maps : Type 0 where
  pub coils : List (Option ℕ)
  pub discretes : List (Option ℕ)
  pub holdings : List (Option ℕ)
  pub inputs : List (Option ℕ)

-- The table of a register map for one kind of values, such as coils.
abbrev pub table_of : Maps → Kind → List (Option ℕ)
table_of maps Coil = maps.coils
table_of maps Discrete = maps.discretes
table_of maps Holding = maps.holdings
table_of maps Input = maps.inputs

-- The value at an address of a table, or `None` if the device does not have the address.
abbrev pub value_in : List (Option ℕ) → ℕ → Option ℕ
value_in table address = slice_index_or table address None

-- The value of the given kind (such as holding registers) at an address, or `None` if the device
-- does not have the address.
abbrev pub value_at : Maps → Kind → ℕ → Option ℕ
value_at maps kind address = value_in (table_of maps kind) address

-- True if each table has an entry for every address: `None` if the device does not have the
-- address.
abbrev pub HasAllAddresses : Maps → Type 0
HasAllAddresses maps = (kind : Kind) → length (table_of maps kind) ≡ ADDRESSES

-- The number that is stored for a written value. A coil or a discrete input is stored as 1 (on) or
-- 0 (off).
abbrev pub kept : Kind → ℕ → ℕ
kept Coil value = if value == 0 then 0 else 1
kept Discrete value = if value == 0 then 0 else 1
kept Holding value = value
kept Input value = value

-- A table of a device's values after a write of one value. The table is unchanged if the device
-- does not have the address.
abbrev pub written : List (Option ℕ) → ℕ → ℕ → List (Option ℕ)
written table address value =
    if is_some (value_in table address) then slice_set table address (Some value) else table

-- The register map `maps` with a new table for one kind of values (coils, discrete inputs, holding
-- registers or input registers).
abbrev pub with_table : Maps → Kind → List (Option ℕ) → Maps
with_table maps Coil table =
    record {
      coils = table;
      discretes = maps.discretes;
      holdings = maps.holdings;
      inputs = maps.inputs;
    }
with_table maps Discrete table =
    record { coils = maps.coils; discretes = table; holdings = maps.holdings; inputs = maps.inputs }
with_table maps Holding table =
    record {
      coils = maps.coils;
      discretes = maps.discretes;
      holdings = table;
      inputs = maps.inputs;
    }
with_table maps Input table =
    record {
      coils = maps.coils;
      discretes = maps.discretes;
      holdings = maps.holdings;
      inputs = table;
    }

-- The values at consecutive addresses of a table: the given number of values from the given address
-- on.
abbrev pub values_at : List (Option ℕ) → ℕ → ℕ → List (Option ℕ)
values_at table address count = take count (drop address table)

-- True if the device has all of these addresses: the given number of addresses of the table from
-- the given address on.
abbrev pub are_there : List (Option ℕ) → ℕ → ℕ → Bool
are_there table address count =
    nat_le (address + count) (length table)
    && list_all (λ value. is_some value) (values_at table address count)

-- A table of a device's values after a list of values is written at consecutive addresses from the
-- given address on.
abbrev pub all_written : List (Option ℕ) → ℕ → List ℕ → List (Option ℕ)
all_written table address [] = table
all_written table address (value ∷ values) =
    all_written (slice_set table address (Some value)) (address + 1) values
