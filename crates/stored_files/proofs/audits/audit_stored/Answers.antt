use Rattle.stored_files.proofs.audits.audit_stored.Goals as goal

pub returns-in-Ok-clause-reports : goal.returns-in-Ok-clause-reports
returns-in-Ok-clause-reports g c = λ clean content holds. c.in-Ok.ensures.finds.answer content (c.in_ok-check_ours.ensures.ours content holds) clean
