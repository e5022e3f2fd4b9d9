use Rattle.std.proofs.Common.{rules}
use Rattle.command_io.proofs.Held.{all_read}
use Rattle.command_io.proofs.input.read_by.Goals as goal

pub returns-then-count-eq0-clause-whole : goal.returns-then-count-eq0-clause-whole
returns-then-count-eq0-clause-whole g c =
    all_read _ _ _ c.loop-call.whole.items _ c.in-Ok.count c.loop-call.invariant.read c.in-Ok.ensures.bytes.0 (search rules)
    (c.in-Ok.ensures.bytes.1 (search rules) (search rules))
