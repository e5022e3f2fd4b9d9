use Rattle.file_commands.proofs.Audited.{checked_printed}
use Rattle.file_commands.proofs.audits.hold_to.Goals as goal

pub returns-clause-prints : goal.returns-clause-prints
returns-clause-prints g c = λ clean content holds.
    checked_printed content c.args.text.now c.in_ok-checked.checked _ _ c.write_checked.result (c.in_ok-checked.ensures.reports clean content holds)
    c.write_checked.ensures.fine c.write_checked.ensures.reported
