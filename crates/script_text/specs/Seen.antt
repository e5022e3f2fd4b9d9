-- Defines the contract for parsing a script line (a command, an event or a query): the words spell
-- the parsed script line, and no other script line.
use Rattle.std.specs.Prelude.{◌≡◌, ◌<◌, ℕ, List, [], length, Ok, Err}
use Rattle.std.specs.declared.result.Result.{Result}
use Rattle.office_events.specs.declared.events.Event.TheVariants.{Bytes}
use Rattle.script_text.specs.Forms.{IsLine}
use Rattle.script_text.specs.declared.line_fault.LineFault.{LineFault}
use Rattle.script_text.specs.declared.line_fault.LineFault.TheVariants.{Bad, Memory}
use Rattle.script_text.specs.declared.script.ScriptLine.{ScriptLine}
use Rattle.script_text.specs.declared.script.ScriptLine.TheVariants.{Event, List as PointList}

-- States that the words spell the given script line (a command, an event or a query), and no other
-- script line.
pub record IsOnly (words : List (List ℕ)) (line : ScriptLine) : Type 0 where
  pub is : IsLine words line
  pub only : (other : ScriptLine) → IsLine words other → other ≡ line

-- The bytes that a script line carries, which are bytes that a device sent, or the text of a point
-- list. Other script lines carry no bytes.
abbrev pub bytes_in : ScriptLine → List ℕ
bytes_in (Event at (Bytes device piece)) = piece
bytes_in (PointList at list) = list.text
bytes_in line = []

-- States that the words spell a script line that contains at least one byte of data: received bytes
-- or the text of a point list.
pub record BringBytes (words : List (List ℕ)) : Type 0 where
  pub line : ScriptLine
  pub is : IsLine words line
  pub some : 0 < length (bytes_in line)

-- States that parsing returns the only script line that the words spell, or the fault `Bad` if the
-- words spell no script line. The fault `Memory` (out of memory) is possible only for a line that
-- carries bytes.
abbrev pub Reads : List (List ℕ) → Result ScriptLine LineFault → Type 0
Reads words (Ok line) = IsOnly words line
Reads words (Err Bad) = (line : ScriptLine) → IsLine words line → ⊥
Reads words (Err Memory) = BringBytes words
