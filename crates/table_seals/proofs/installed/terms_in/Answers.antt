use Rattle.std.proofs.Common.{List, subst, arith}
use Rattle.std.proofs.lemmas.List.{take_all}
use Rattle.sqlite.specs.Order.{Row}
use Rattle.table_seals.specs.Installed.{AreTermsOf}
use Rattle.table_seals.proofs.InstalledTerms.{no_terms, terms_of_next}
use Rattle.table_seals.proofs.installed.terms_in.Goals as goal

pub loop-row-init : goal.loop-row-init
loop-row-init c = no_terms c.new-known.result c.new-known.ensures.empty

pub loop-row-preserved : goal.loop-row-preserved
loop-row-preserved c =
    terms_of_next c.args.installed.now c.loop-row.row-index c.row-item.result c.loop-row.known c.add_row.new.known (omega arith) c.row-item.is
    c.in_ok-add_row.ensures c.loop-row.invariant

pub returns : goal.returns
returns c =
    subst (λ (rows : List Row). AreTermsOf rows c.loop-row.known) (take_all c.loop-row.row-index c.args.installed.now (omega arith)) c.loop-row.invariant
