use Rattle.sun_chain.proofs.TableRules.{tables_are_lawful as lemma}
use Rattle.sun_chain.proofs.laws.tables_are_lawful.Goals as goal

pub returns : goal.returns
returns c = lemma
