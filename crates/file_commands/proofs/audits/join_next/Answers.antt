use Rattle.std.proofs.Common.{string_bytes}
use Rattle.file_commands.proofs.Audited.{joined}
use Rattle.file_commands.proofs.audits.join_next.Goals as goal

pub returns-in-Ok-clause-joins : goal.returns-in-Ok-clause-joins
returns-in-Ok-clause-joins g c = λ clean content holds.
    joined c.args.file.now content c.in_ok-meters.meters (string_bytes c.in-Ok.zone) c.args.joining.now c.hold_to_earlier.new.joining c.hold_to_earlier.result
    (c.in_ok-meters.ensures.reports (c.in-Ok.ensures.clean clean) content holds) c.hold_to_earlier.ensures.lines c.hold_to_earlier.ensures.known
