use Rattle.std.proofs.Common.{[], Ok, Err, max, ap₂, ◌∙◌}
use Rattle.office_store.proofs.FindingLemmas.Found.{answered, passed_on, finds_then}
use Rattle.office_store.proofs.finding.last_moment.noted.Goals as goal

pub replied-requires : goal.replied-requires
replied-requires g c = (c.in_ok-held.ensures.looks []).mode c.requires

pub returns-in_err-replied : goal.returns-in_err-replied
returns-in_err-replied g c =
    passed_on g.S.Store c.args.conn.now c.replied.new.conn c.in_err-replied.field-0.0 c.from_residual-in_err-replied.result _ _ _ _
    (finds_then g.S.Store c.args.conn.now c.held.new.conn c.replied.new.conn c.in_ok-held.held (Err c.in_err-replied.field-0.0) _ _ _ _ c.in_ok-held.ensures c.in_err-replied.ensures)
    (λ facts sound. sound) c.from_residual-in_err-replied.ensures.1

pub returns : goal.returns
returns g c =
    answered g.S.Store c.args.conn.now c.replied.new.conn c.in_ok-replied.replied c.max.result _ _ _ _
    (finds_then g.S.Store c.args.conn.now c.held.new.conn c.replied.new.conn c.in_ok-held.held (Ok c.in_ok-replied.replied) _ _ _ _ c.in_ok-held.ensures c.in_ok-replied.ensures)
    (λ facts h. c.max.ensures ∙ ap₂ max h.0 h.1)
