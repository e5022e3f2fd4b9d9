-- Numeric codes of the faults that parsing a script line can have.
use Rattle.std.specs.Prelude.{ℕ}
use Rattle.script_text.specs.declared.line_fault.LineFault.{LineFault}
use Rattle.script_text.specs.declared.line_fault.LineFault.TheVariants.{Bad, Memory}

-- The numeric code of a fault of a script line: 1 for a malformed line, 2 for out of memory.
abbrev pub line_fault_number : LineFault → ℕ
line_fault_number Bad = 1
line_fault_number Memory = 2
