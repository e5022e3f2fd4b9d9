use Rattle.file_commands.proofs.audits.audit_file.Goals as goal

pub returns-in-Ok : goal.returns-in-Ok
returns-in-Ok g c = record {
  named = _;
  name = c.in_ok-print_name.ensures;
  opened = c.in_ok-connection.connection;
  is_opened = c.in_ok-connection.ensures;
  left = c.audit_next.new.connection;
  audits = λ clean content holds. c.in-Ok.ensures clean content holds;
}
