-- The values of a seal (digests of a file's records), as contracts and proofs use them.
use Rattle.std.specs.Prelude.{ℕ, List, Vec, map, string_bytes}
use Rattle.table_audit.specs.declared.rows.VoidRow.{VoidRow}
use Rattle.table_seals.specs.declared.seals.MeterSeal.{MeterSeal}
use Rattle.table_seals.specs.declared.seals.MonthSeal.{MonthSeal}
use Rattle.table_seals.specs.declared.seals.PollSeal.{PollSeal}
use Rattle.table_seals.specs.declared.seals.Seal.{Seal}

-- The energy of a meter in one calendar month, in mWh. The month is a text like `2026-01`.
pub record SealedMonth : Type 0 where
  pub month : List ℕ
  pub mwh : ℕ

-- Converts the program's `MonthSeal` to the record `SealedMonth` that contracts and proofs use.
abbrev pub sealed_month_of : MonthSeal → SealedMonth
sealed_month_of seal = record { month = seal.month.items; mwh = seal.mwh }

-- The seal of a meter: its index, name, accounting register (a named energy counter), range and
-- ceiling (maximum power), and its entries' number and digest. It also has the meter's voids
-- (cancellations of entries), and its energy in each calendar month up to the last entry.
pub record Sealed : Type 0 where
  pub place : ℕ
  pub meter : List ℕ
  pub register : List ℕ
  pub range : ℕ
  pub ceiling : ℕ
  pub entries : ℕ
  pub digest : List ℕ
  pub voids : List VoidRow
  pub months : List SealedMonth

-- Converts the program's `MeterSeal` to the record `Sealed` that contracts and proofs use.
abbrev pub sealed_of : MeterSeal → Sealed
sealed_of seal = record {
  place = seal.place;
  meter = string_bytes seal.meter;
  register = string_bytes seal.register;
  range = seal.range;
  ceiling = seal.ceiling;
  entries = seal.entries;
  digest = seal.digest;
  voids = seal.voids.items;
  months = map sealed_month_of seal.months.items;
}

-- The seal of polls: their number, the digest of the text that lists the polls and their outcomes,
-- and the numbers of the pending polls.
pub record SealedPolls : Type 0 where
  pub count : ℕ
  pub digest : List ℕ
  pub pending : List ℕ

-- Converts the program's `PollSeal` to the record `SealedPolls` that contracts and proofs use.
abbrev pub sealed_polls_of : PollSeal → SealedPolls
sealed_polls_of seal = record {
  count = seal.count;
  digest = seal.digest;
  pending = seal.pending.items;
}

-- The seal (digests of earlier records) of a file: the lines of its time zone, devices and
-- registers, the seals of its meters in order of index, and the seal of its polls.
pub record SealedTables : Type 0 where
  pub setup : List (List ℕ)
  pub meters : List Sealed
  pub polls : SealedPolls

-- The bytes of a line.
abbrev pub line_bytes : {Z : Type 0} → Vec ℕ Z → List ℕ
line_bytes line = line.items

-- Converts the program's `Seal` to the record `SealedTables` that contracts and proofs use.
abbrev pub sealed_tables_of : Seal → SealedTables
sealed_tables_of seal = record {
  setup = map line_bytes seal.setup.items;
  meters = map sealed_of seal.meters.items;
  polls = sealed_polls_of seal.polls;
}
