use Rattle.std.proofs.Common.{sym, ◌∙◌}
use Rattle.std.proofs.lemmas.Result.{on_ok_weaker}
use Rattle.office_core.proofs.SettlingLemmas.Growing.{reply_to_none, reply_to}
use Rattle.office_core.proofs.settling.outcomes.add_reply.Goals as goal

pub returns-in_default-clause-adds : goal.returns-in_default-clause-adds
returns-in_default-clause-adds g c =
    reply_to_none _ _ c.args.draft.now c.args.at c.args.number _
    (λ known h clean. sym c.in_default.is ∙ c.in_ok-row.ensures.found known h clean)

pub returns-clause-adds : goal.returns-clause-adds
returns-clause-adds g c =
    on_ok_weaker c.add_readings.result
    (λ on. reply_to _ _ _ c.args.draft.now c.add_readings.new.draft c.args.at c.args.number _ c.in-Some.row c.deref.result.now
    (λ known h clean. sym c.in-Some.is ∙ c.in_ok-row.ensures.found known h (c.in_ok-registers.ensures.reads.goes.clean (c.add_readings.ensures.reads.goes.clean clean)))
    (λ known h clean. c.deref.ensures.value ∙ c.in_ok-registers.ensures.found known (c.in_ok-row.ensures.reads.keeps.facts known h) (c.add_readings.ensures.reads.goes.clean clean))
    (λ known h. c.in_ok-registers.ensures.reads.keeps.facts known (c.in_ok-row.ensures.reads.keeps.facts known h))
    on)
    c.add_readings.ensures.adds
