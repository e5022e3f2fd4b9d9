use Rattle.std.proofs.Common.{[]}
use Rattle.office_tests.proofs.Nothing.{stands_after_nothing}
use Rattle.office_tests.proofs.runs.run_created.Goals as goal

pub returns-in-Ok : goal.returns-in-Ok
returns-in-Ok c = c.in-Ok.ensures.headline [] (stands_after_nothing c.new.result c.new.ensures.empty) tt
