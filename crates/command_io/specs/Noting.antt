-- The model of a writer that records whether its last write failed.
use Rattle.std.specs.Prelude.{◌≡◌, ◌==◌, ℕ, Bool, true, Result, Ok, Err}
use Rattle.command_io.specs.declared.printer.NotedWriter.{NotedWriter}

-- The inner writer of a `NotedWriter` (a writer that records whether its last write failed). It
-- receives the bytes written to the `NotedWriter`.
abbrev pub written_on : {W : Type 0} → NotedWriter W → W
written_on noted = noted.output

-- States that the last write of a `NotedWriter`, a writer that records this, failed or accepted no
-- bytes.
abbrev pub IsFailing : {W : Type 0} → NotedWriter W → Type 0
IsFailing noted = noted.failed ≡ true

-- True if the result of a write is an error or a count of 0 bytes.
abbrev pub is_unwritten : {E : Type 0} → Result ℕ E → Bool
is_unwritten (Ok count) = count == 0
is_unwritten (Err error) = true
