-- Defines spans: ranges of consecutive registers that one Modbus request reads.
use Rattle.std.specs.Prelude.{ℕ, ◌+◌, ◌≤◌}
use Rattle.mb_wire.specs.declared.limits.TheConstants.{ADDRESSES, MAX_READ_REGISTERS}
use Rattle.mb_wire.specs.declared.requests.Request.{Request}
use Rattle.mb_wire.specs.declared.requests.Request.TheVariants.{ReadHolding, ReadInput}
use Rattle.mb_wire.specs.declared.span.ReadFunction.{ReadFunction}
use Rattle.mb_wire.specs.declared.span.ReadFunction.TheVariants.{HoldingRegisters, InputRegisters}
use Rattle.mb_wire.specs.declared.span.ReadSpan.{ReadSpan}

-- The function code of a function that reads registers: 3 or 4.
abbrev pub code_of : ReadFunction → ℕ
code_of HoldingRegisters = 3
code_of InputRegisters = 4

-- A range of registers: the function that reads them, the first address and the register count.
pub record Span : Type 0 where
  pub function : ReadFunction
  pub address : ℕ
  pub count : ℕ

-- The contents of a `ReadSpan` (a range of registers that one request reads) as a `Span`: the
-- function, the first address and the register count.
abbrev pub span_view : ReadSpan → Span
span_view span = record { function = span.function; address = span.address; count = span.count }

-- True if the function code is 3 or 4 and the range has 1 to 125 registers within the 65536
-- addresses of a device.
pub record IsSpan (function address count : ℕ) : Type 0 where
  pub low : 3 ≤ function
  pub high : function ≤ 4
  pub some : 1 ≤ count
  pub few : count ≤ MAX_READ_REGISTERS
  pub inside : address + count ≤ ADDRESSES

-- The Modbus request that reads `count` registers from `address` on with the given function (3 or
-- 4).
abbrev pub read_request : ReadFunction → ℕ → ℕ → Request
read_request HoldingRegisters address count = ReadHolding address count
read_request InputRegisters address count = ReadInput address count

-- The Modbus request that reads the registers of a span (a range of consecutive registers).
abbrev pub request_of : Span → Request
request_of span = read_request span.function span.address span.count
