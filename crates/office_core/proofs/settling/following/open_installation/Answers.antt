use Rattle.std.proofs.Common.{List, None, Some, sym, subst, ◌∙◌}
use Rattle.std.proofs.lemmas.Bool.{cond-true, cond-false}
use Rattle.office_events.specs.declared.facts.Fact.{Fact}
use Rattle.office_core.specs.Settling.Following.{IsAfterFacts}
use Rattle.office_core.proofs.SettlingLemmas.Overlays.{none_open, open_after}
use Rattle.office_core.proofs.settling.following.open_installation.Goals as goal

pub returns-in_default-clause-found : goal.returns-in_default-clause-found
returns-in_default-clause-found g c = λ known h clean reported lawful.
    none_open c.args.draft.now.facts.items known c.args.register.now reported (sym c.in_default.is ∙ c.in_ok-booked.ensures.found known h clean)

pub returns-then-row-clause-found : goal.returns-then-row-clause-found
returns-then-row-clause-found g c = λ known h clean reported lawful.
    sym (cond-true _ None (Some c.with_facts-row.result) c.if-row.true)
    ∙ open_after c.args.draft.now.facts.items known c.args.register.now c.in-Some.booked c.with_facts-row.result reported lawful
    (subst (λ (fs : List Fact). IsAfterFacts c.in-Some.booked fs c.with_facts-row.result) c.deref.ensures.value c.with_facts-row.ensures.following)
    (sym c.in-Some.is ∙ c.in_ok-booked.ensures.found known h clean)

pub returns-clause-found : goal.returns-clause-found
returns-clause-found g c = λ known h clean reported lawful.
    sym (cond-false _ None (Some c.with_facts-row.result) c.if-row.false)
    ∙ open_after c.args.draft.now.facts.items known c.args.register.now c.in-Some.booked c.with_facts-row.result reported lawful
    (subst (λ (fs : List Fact). IsAfterFacts c.in-Some.booked fs c.with_facts-row.result) c.deref.ensures.value c.with_facts-row.ensures.following)
    (sym c.in-Some.is ∙ c.in_ok-booked.ensures.found known h clean)
