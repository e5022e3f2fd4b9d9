-- Lemmas on a script (a text of commands, events and queries) whose output is written to a buffer.
-- After a successful flush, the inner writer has received the complete output, otherwise a
-- beginning of it.
use Rattle.std.proofs.Common.{◌≡◌, ℕ, Option, Some, None, List, [], ◌++◌, refl, sym, ap, ◌∙◌, append_assoc, append-nil}
use Rattle.std.specs.Io.KnownBytes.{Appends, Keeps, append_known}
use Rattle.command_io.specs.declared.status.ExitStatus.{ExitStatus}
use Rattle.command_io.specs.declared.status.ExitStatus.TheVariants.{Fine, Refused, Failed}
use Rattle.interval_core.specs.declared.zone.Zone.{Zone}
use Rattle.script_run.specs.Replaying.TextRun.{HoldsPart, InputRuns, Replays}
use Rattle.script_run.proofs.ReplayingLemmas.Scripts.{input_begun}

-- If a script's run leaves no bytes in the output buffer, then the writer that gets the buffer's
-- bytes received the complete text.
pub given_out : (a b d : Option (List ℕ)) (buffered last text : List ℕ) → Appends a (append_known b buffered) text
    → Keeps (append_known b buffered) (append_known d last) → last ≡ [] → Appends a d text
given_out None b d buffered last text wrote kept none = tt
given_out (Some x) None d buffered last text wrote kept none = absurd wrote
given_out (Some x) (Some y) None buffered last text wrote kept none = absurd kept
given_out (Some x) (Some y) (Some z) buffered last text wrote kept none =
    sym (append-nil z) ∙ sym (ap (λ (more : List ℕ). z ++ more) none) ∙ kept ∙ wrote

-- If a text was written to the buffer, then the inner writer received a beginning of the text. The
-- other bytes of the text may still be in the buffer.
pub buffered_part : (a b d : Option (List ℕ)) (buffered last text : List ℕ) → Appends a (append_known b buffered) text
    → Keeps (append_known b buffered) (append_known d last) → HoldsPart a d text
buffered_part None b d buffered last text wrote kept = tt
buffered_part (Some x) None d buffered last text wrote kept = absurd wrote
buffered_part (Some x) (Some y) None buffered last text wrote kept = absurd kept
buffered_part (Some x) (Some y) (Some z) buffered last text wrote kept = (last, sym (kept ∙ wrote))

from_empty : (a b : Option (List ℕ)) (buffered text : List ℕ) → buffered ≡ [] → Appends (append_known a buffered) b text → Appends a b text
from_empty None b buffered text none wrote = tt
from_empty (Some x) None buffered text none wrote = absurd wrote
from_empty (Some x) (Some y) buffered text none wrote =
    wrote ∙ ap (λ (front : List ℕ). front ++ text) (ap (λ (more : List ℕ). x ++ more) none ∙ append-nil x)

-- If the output buffer was flushed after a script was run, then the inner writer (which gets the
-- buffer's bytes) received the complete output of the run.
pub run_whole : (zone : Zone) (input : List ℕ) (status : ExitStatus) (a b d : Option (List ℕ)) (first buffered last : List ℕ) → first ≡ []
    → InputRuns zone input status (append_known a first) (append_known b buffered) → Keeps (append_known b buffered) (append_known d last)
    → last ≡ [] → Replays zone input status a d
run_whole zone input Fine a b d first buffered last none runs kept given =
    (runs.0, given_out a b d buffered last runs.0 (from_empty a _ first runs.0 none runs.1) kept given, runs.2)
run_whole zone input Refused a b d first buffered last none runs kept given =
    (runs.0, given_out a b d buffered last runs.0 (from_empty a _ first runs.0 none runs.1) kept given, runs.2)
run_whole zone input Failed a b d first buffered last none runs kept given =
    (runs.0, buffered_part a b d buffered last runs.0 (from_empty a _ first runs.0 none runs.1) kept, runs.2)

-- If the buffer could not be flushed after a run, then the inner writer received a beginning of the
-- run's output.
pub run_part : (zone : Zone) (input : List ℕ) (status : ExitStatus) (a b d : Option (List ℕ)) (first buffered last : List ℕ) → first ≡ []
    → InputRuns zone input status (append_known a first) (append_known b buffered) → Keeps (append_known b buffered) (append_known d last)
    → Replays zone input Failed a d
run_part zone input Fine a b d first buffered last none runs kept =
    (runs.0, buffered_part a b d buffered last runs.0 (from_empty a _ first runs.0 none runs.1) kept, input_begun zone input runs.0 Fine runs.2)
run_part zone input Refused a b d first buffered last none runs kept =
    (runs.0, buffered_part a b d buffered last runs.0 (from_empty a _ first runs.0 none runs.1) kept, input_begun zone input runs.0 Refused runs.2)
run_part zone input Failed a b d first buffered last none runs kept =
    (runs.0, buffered_part a b d buffered last runs.0 (from_empty a _ first runs.0 none runs.1) kept, runs.2)
