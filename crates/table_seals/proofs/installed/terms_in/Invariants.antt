use Rattle.std.proofs.Common.{take}
use Rattle.table_seals.specs.Installed.{AreTermsOf}
use Rattle.table_seals.proofs.installed.terms_in.Given as goal

abbrev pub invariant-loop-row : goal.invariant-loop-row
invariant-loop-row l = AreTermsOf (take l.row-index l.installed) l.known
