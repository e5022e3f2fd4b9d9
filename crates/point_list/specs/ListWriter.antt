-- Defines the effect of writing a point list to a sink (an output), and the faults of writing.
use Rattle.std.specs.Prelude.{ℕ, ◌≡◌, List, Ok, Err}
use Rattle.std.specs.declared.io.Error.{Error}
use Rattle.std.specs.declared.result.Result.{Result}
use Rattle.point_list.specs.declared.list_writer.WriteListFault.{WriteListFault}
use Rattle.point_list.specs.declared.list_writer.WriteListFault.TheVariants.{Write, Memory}

-- The effect of `write_list`, which writes a point list: the sink receives the text in one call.
-- The fault `Write` reports that this call failed. The fault `Memory` reports too little memory for
-- the text, and leaves the sink unchanged.
abbrev pub HandsOver : {S : Type 0} → (S → List ℕ → Result (Unit {0}) Error → S → Type 0)
    → Result (Unit {0}) WriteListFault → List ℕ → S → S → Type 0
HandsOver takes (Ok done) text old new = takes old text (Ok done) new
HandsOver takes (Err Write) text old new = (error : Error) × takes old text (Err error) new
HandsOver takes (Err Memory) text old new = new ≡ old

-- The numeric code of each fault of writing a point list.
abbrev pub write_fault_number : WriteListFault → ℕ
write_fault_number Write = 1
write_fault_number Memory = 2
