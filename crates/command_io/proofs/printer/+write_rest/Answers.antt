use Rattle.command_io.proofs.Held.{some_then_rest}
use Rattle.command_io.proofs.printer.+write_rest.Goals as goal

pub returns-clause-bytes : goal.returns-clause-bytes
returns-clause-bytes g t c =
    some_then_rest c.write_rest.result _ _ _ c.args.bytes.now c.in_ok-count.count c.in_ok-count.ensures.bytes c.write_rest.ensures.bytes
