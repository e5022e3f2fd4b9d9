use Rattle.table_audit.specs.Reading.{range_in}
use Rattle.table_audit.proofs.ReadRows.{read_one}
use Rattle.table_audit.proofs.reading.range.Goals as goal

pub returns-then-rows-ne1 : goal.returns-then-rows-ne1
returns-then-rows-ne1 c n = (
  λ h. absurd (c.if-rows-ne1.true (read_one range_in c.args.rows.now n h)),
  λ none. absurd (cc),
)
