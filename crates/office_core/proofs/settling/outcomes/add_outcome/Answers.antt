use Rattle.std.proofs.lemmas.Result.{on_ok_weaker}
use Rattle.office_core.proofs.SettlingLemmas.Growing.{outcome_unread, outcome_read}
use Rattle.office_core.proofs.settling.outcomes.add_outcome.Goals as goal

pub returns-in-None-clause-adds : goal.returns-in-None-clause-adds
returns-in-None-clause-adds g c =
    outcome_unread _ _ c.args.draft.now c.add.new.self c.args.at c.args.settled.now c.requires c.in-None.is c.in_ok-add.ensures.ok

pub returns-in-Some-clause-adds : goal.returns-in-Some-clause-adds
returns-in-Some-clause-adds g c =
    on_ok_weaker c.add_reply.result
    (λ on. outcome_read _ _ _ _ c.args.draft.now c.add.new.self c.add_reply.new.draft c.args.at c.args.settled.now c.in-Some.reply c.requires c.in-Some.is
    c.in_ok-add.ensures.ok (λ known h. h) (λ clean. c.add_reply.ensures.reads.goes.clean clean) on)
    c.add_reply.ensures.adds
