use Rattle.std.proofs.Common.{◌≡◌, ◌++◌, length}
use Rattle.mb_wire.specs.Bytes.{words_of}
use Rattle.sun_chain.proofs.scans.words.words_of_bytes.Given as goal

abbrev pub invariant-loop-left : goal.invariant-loop-left
invariant-loop-left l = words_of l.bytes ≡ l.words.items ++ words_of l.left

abbrev pub decreases-loop-left : goal.decreases-loop-left
decreases-loop-left l = length l.left
