use Rattle.std.proofs.Common.{[], Ok, Err, max, ap₂, ◌∙◌}
use Rattle.office_store.proofs.FindingLemmas.Found.{answered, passed_on, finds_then}
use Rattle.office_store.proofs.finding.last_moment.booked.Goals as goal

pub voided-requires : goal.voided-requires
voided-requires g c = (c.in_ok-entered.ensures.looks []).mode c.requires

pub returns-in_err-voided : goal.returns-in_err-voided
returns-in_err-voided g c =
    passed_on g.S.Store c.args.conn.now c.voided.new.conn c.in_err-voided.field-0.0 c.from_residual-in_err-voided.result _ _ _ _
    (finds_then g.S.Store c.args.conn.now c.entered.new.conn c.voided.new.conn c.in_ok-entered.entered (Err c.in_err-voided.field-0.0) _ _ _ _ c.in_ok-entered.ensures c.in_err-voided.ensures)
    (λ facts sound. sound) c.from_residual-in_err-voided.ensures.1

pub returns : goal.returns
returns g c =
    answered g.S.Store c.args.conn.now c.voided.new.conn c.in_ok-voided.voided c.max.result _ _ _ _
    (finds_then g.S.Store c.args.conn.now c.entered.new.conn c.voided.new.conn c.in_ok-entered.entered (Ok c.in_ok-voided.voided) _ _ _ _ c.in_ok-entered.ensures c.in_ok-voided.ensures)
    (λ facts h. c.max.ensures ∙ ap₂ max h.0 h.1)
