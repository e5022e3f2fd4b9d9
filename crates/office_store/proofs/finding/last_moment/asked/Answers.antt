use Rattle.std.proofs.Common.{[], Ok, Err, max, ap₂, ◌∙◌}
use Rattle.office_store.proofs.FindingLemmas.Found.{answered, passed_on, finds_then}
use Rattle.office_store.proofs.finding.last_moment.asked.Goals as goal

pub noted-requires : goal.noted-requires
noted-requires g c = (c.in_ok-polled.ensures.looks []).mode c.requires

pub returns-in_err-noted : goal.returns-in_err-noted
returns-in_err-noted g c =
    passed_on g.S.Store c.args.conn.now c.noted.new.conn c.in_err-noted.field-0.0 c.from_residual-in_err-noted.result _ _ _ _
    (finds_then g.S.Store c.args.conn.now c.polled.new.conn c.noted.new.conn c.in_ok-polled.polled (Err c.in_err-noted.field-0.0) _ _ _ _ c.in_ok-polled.ensures c.in_err-noted.ensures)
    (λ facts sound. sound) c.from_residual-in_err-noted.ensures.1

pub returns : goal.returns
returns g c =
    answered g.S.Store c.args.conn.now c.noted.new.conn c.in_ok-noted.noted c.max.result _ _ _ _
    (finds_then g.S.Store c.args.conn.now c.polled.new.conn c.noted.new.conn c.in_ok-polled.polled (Ok c.in_ok-noted.noted) _ _ _ _ c.in_ok-polled.ensures c.in_ok-noted.ensures)
    (λ facts h. c.max.ensures ∙ ap₂ max h.0 h.1)
