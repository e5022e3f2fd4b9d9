use Rattle.std.proofs.Common.{true, false, Some, None, refl, sym, ◌∙◌}
use Rattle.office_core.proofs.RefusingLemmas.AtMeters.{exchanged}
use Rattle.office_core.proofs.refusing.exchanges.exchange.Goals as goal

pub returns-in-Some-refusal_of_entry-clause-found : goal.returns-in-Some-refusal_of_entry-clause-found
returns-in-Some-refusal_of_entry-clause-found g c known holds clean slots =
    let first = c.in_ok-row.ensures.reads.reads.keeps.facts known holds in
    let clean_first = c.in_ok-has_meter.ensures.reads.goes.clean clean in
    exchanged slots known c.args.arrival.now c.args.exchange.now c.in-Some.row _ _ _ (Some c.in-Some-refusal_of_entry.why)
    (sym c.in-Some.is ∙ c.in_ok-row.ensures.found known holds clean_first)
    (sym c.if-branch.false ∙ c.in_ok-has_meter.ensures.found known first clean)
    c.is_off_scale_exchange-off_scale.ensures c.is_bad_exchange-off_limits.ensures refl
    (sym c.in-Some-refusal_of_entry.is ∙ c.refusal_of_entry.ensures.found)

pub returns-then-branch-2-clause-found : goal.returns-then-branch-2-clause-found
returns-then-branch-2-clause-found g c known holds clean slots =
    let first = c.in_ok-row.ensures.reads.reads.keeps.facts known holds in
    let second = c.in_ok-has_meter.ensures.reads.keeps.facts known first in
    let clean_second = c.in_ok-are_all.ensures.reads.goes.clean clean in
    let clean_first = c.in_ok-has_meter.ensures.reads.goes.clean clean_second in
    exchanged slots known c.args.arrival.now c.args.exchange.now c.in-Some.row _ _ true None
    (sym c.in-Some.is ∙ c.in_ok-row.ensures.found known holds clean_first)
    (sym c.if-branch.false ∙ c.in_ok-has_meter.ensures.found known first clean_second)
    c.is_off_scale_exchange-off_scale.ensures c.is_bad_exchange-off_limits.ensures
    (sym c.if-branch-2.true ∙ c.in_ok-are_all.ensures.found known second clean)
    (sym c.in_default-refusal_of_entry.is ∙ c.refusal_of_entry.ensures.found)

pub returns-clause-found : goal.returns-clause-found
returns-clause-found g c known holds clean slots =
    let first = c.in_ok-row.ensures.reads.reads.keeps.facts known holds in
    let second = c.in_ok-has_meter.ensures.reads.keeps.facts known first in
    let clean_second = c.in_ok-are_all.ensures.reads.goes.clean clean in
    let clean_first = c.in_ok-has_meter.ensures.reads.goes.clean clean_second in
    exchanged slots known c.args.arrival.now c.args.exchange.now c.in-Some.row _ _ false None
    (sym c.in-Some.is ∙ c.in_ok-row.ensures.found known holds clean_first)
    (sym c.if-branch.false ∙ c.in_ok-has_meter.ensures.found known first clean_second)
    c.is_off_scale_exchange-off_scale.ensures c.is_bad_exchange-off_limits.ensures
    (sym c.if-branch-2.false ∙ c.in_ok-are_all.ensures.found known second clean)
    (sym c.in_default-refusal_of_entry.is ∙ c.refusal_of_entry.ensures.found)
