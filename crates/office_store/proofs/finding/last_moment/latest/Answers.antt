use Rattle.std.proofs.Common.{[], Ok, Err, max, ap₂, ◌∙◌}
use Rattle.office_store.proofs.FindingLemmas.Found.{answered, passed_on, finds_then}
use Rattle.office_store.proofs.FindingLemmas.LatestFacts.{latest_is}
use Rattle.office_store.proofs.finding.last_moment.latest.Goals as goal

pub asked-requires : goal.asked-requires
asked-requires g c = (c.in_ok-booked.ensures.looks []).mode c.requires

pub returns-in_err-asked : goal.returns-in_err-asked
returns-in_err-asked g c =
    passed_on g.S.Store c.args.conn.now c.asked.new.conn c.in_err-asked.field-0.0 c.from_residual-in_err-asked.result _ _ _ _
    (finds_then g.S.Store c.args.conn.now c.booked.new.conn c.asked.new.conn c.in_ok-booked.booked (Err c.in_err-asked.field-0.0) _ _ _ _ c.in_ok-booked.ensures c.in_err-asked.ensures)
    (λ facts sound. sound) c.from_residual-in_err-asked.ensures.1

pub returns : goal.returns
returns g c =
    answered g.S.Store c.args.conn.now c.asked.new.conn c.in_ok-asked.asked c.max.result _ _ _ _
    (finds_then g.S.Store c.args.conn.now c.booked.new.conn c.asked.new.conn c.in_ok-booked.booked (Ok c.in_ok-asked.asked) _ _ _ _ c.in_ok-booked.ensures c.in_ok-asked.ensures)
    (λ facts h. c.max.ensures ∙ ap₂ max h.0 h.1 ∙ latest_is facts)
