use Rattle.std.proofs.Common.{refl}
use Rattle.file_commands.proofs.audits.print_seal.Goals as goal

pub returns-clause-prints : goal.returns-clause-prints
returns-clause-prints g c = λ clean content holds. record {
  seal = c.in_ok-seal.seal;
  seals = c.in_ok-seal.ensures.reports clean content holds;
  printed = c.in_ok-write_seal.ensures;
  verdict = refl;
}
