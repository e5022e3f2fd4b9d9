use Rattle.table_seals.proofs.InstalledTerms.{adds_terms}
use Rattle.table_seals.proofs.installed.add.Goals as goal

pub returns : goal.returns
returns c = adds_terms c.args.terms c.args.known.now c.insert.new.self c.in_ok-insert.ensures.updates.0
