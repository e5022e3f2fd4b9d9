use Rattle.std.proofs.Common.{[], Ok, Err, max, ap₂, ◌∙◌}
use Rattle.office_store.proofs.FindingLemmas.Found.{answered, passed_on, finds_then}
use Rattle.office_store.proofs.finding.last_moment.polled.Goals as goal

pub ended-requires : goal.ended-requires
ended-requires g c = (c.in_ok-started.ensures.looks []).mode c.requires

pub returns-in_err-ended : goal.returns-in_err-ended
returns-in_err-ended g c =
    passed_on g.S.Store c.args.conn.now c.ended.new.conn c.in_err-ended.field-0.0 c.from_residual-in_err-ended.result _ _ _ _
    (finds_then g.S.Store c.args.conn.now c.started.new.conn c.ended.new.conn c.in_ok-started.started (Err c.in_err-ended.field-0.0) _ _ _ _ c.in_ok-started.ensures c.in_err-ended.ensures)
    (λ facts sound. sound) c.from_residual-in_err-ended.ensures.1

pub returns : goal.returns
returns g c =
    answered g.S.Store c.args.conn.now c.ended.new.conn c.in_ok-ended.ended c.max.result _ _ _ _
    (finds_then g.S.Store c.args.conn.now c.started.new.conn c.ended.new.conn c.in_ok-started.started (Ok c.in_ok-ended.ended) _ _ _ _ c.in_ok-started.ensures c.in_ok-ended.ensures)
    (λ facts h. c.max.ensures ∙ ap₂ max h.0 h.1)
