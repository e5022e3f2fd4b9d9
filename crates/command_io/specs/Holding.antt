-- The model of the buffered writer `Buffered`: its inner writer, and the bytes still in its buffer.
use Rattle.std.specs.Prelude.{ℕ, List, take, Option}
use Rattle.std.specs.Io.KnownBytes.{append_known}
use Rattle.command_io.specs.declared.buffer.Buffered.{Buffered}

-- The inner writer of a buffered writer, which receives the buffered bytes.
abbrev pub output_of : {W : Type 0} → Buffered W → W
output_of b = b.output

-- The bytes in the buffer of a buffered writer, which the inner writer has not accepted yet.
abbrev pub buffered_in : {W : Type 0} → Buffered W → List ℕ
buffered_in b = take b.filled b.buffered

-- The bytes that the inner writer accepted, followed by the bytes in the buffer. `None` if the
-- bytes that the inner writer accepted are unknown.
abbrev pub contents_of : {W : Type 0} → (W → Option (List ℕ)) → Buffered W → Option (List ℕ)
contents_of contents b = append_known (contents b.output) (take b.filled b.buffered)
