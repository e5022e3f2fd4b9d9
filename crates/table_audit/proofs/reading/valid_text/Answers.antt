use Rattle.table_audit.proofs.SpellNames.{name_is_utf8}
use Rattle.table_audit.proofs.reading.valid_text.Goals as goal

pub returns-in-Err : goal.returns-in-Err
returns-in-Err c = c.in-Err.ensures.cases.0 (name_is_utf8 c.args.text.now c.requires)
