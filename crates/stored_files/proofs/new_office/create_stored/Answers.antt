use Rattle.stored_files.proofs.Reported.{not_both, same_fault}
use Rattle.stored_files.proofs.new_office.create_stored.Goals as goal

pub returns-in-Ok-clause-no_zone : goal.returns-in-Ok-clause-no_zone
returns-in-Ok-clause-no_zone g c = λ idle none other. absurd (not_both _ _ (c.in-Ok.ensures.no_zone idle none other))

pub returns-clause-no_zone : goal.returns-clause-no_zone
returns-clause-no_zone g c = λ idle none other. same_fault _ _ (c.in-Err.ensures.no_zone idle none other)

pub returns-in-Ok-clause-made : goal.returns-in-Ok-clause-made
returns-in-Ok-clause-made g c = record {
  made = c.in-Ok.field-0.connection;
  reported = c.in-Ok.field-0.zone;
  does = c.in-Ok.ensures.does;
  none = c.in-Ok.ensures.none;
}
