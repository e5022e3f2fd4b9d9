use Rattle.file_commands.proofs.audits.audit_in.Goals as goal

pub returns-in-Ok : goal.returns-in-Ok
returns-in-Ok g c = record {
  opened = c.in_ok-connection.connection;
  is_opened = c.in_ok-connection.ensures;
  audits = record { left = c.audit_over.new.connection; audits = λ clean content holds. c.in-Ok.ensures.audits clean content holds };
}
