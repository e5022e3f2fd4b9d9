use Rattle.std.proofs.Common.{[], List, Ok, refl, sym, subst}
use Rattle.office_events.specs.declared.facts.Opening.{Opening}
use Rattle.store_tables.specs.Failing.{IsRowFault}
use Rattle.office_store.specs.Metering.Meters.{IsStanding}
use Rattle.office_store.specs.Metering.RegisterMeters.{AreRowsOf}
use Rattle.office_store.specs.Metering.Sound.{HasReadableMeters}
use Rattle.office_store.proofs.FindingLemmas.Found.{answered, fails_then, finds_then, not_asked, unread}
use Rattle.office_store.proofs.MeteringLemmas.RegisterMeters.{row_there, one_more_stands, all_stand}
use Rattle.office_store.proofs.metering.register_meters.standing_all.Goals as goal

pub loop-row-init : goal.loop-row-init
loop-row-init g c = not_asked g.S.Store c.args.conn.now (Ok c.new-found.result) _ HasReadableMeters (λ zone facts openings each. c.new-found.ensures.items) (λ facts. tt)

pub standing-requires : goal.standing-requires
standing-requires g c = (c.loop-row.invariant.looks []).mode c.requires

pub loop-row-preserved : goal.loop-row-preserved
loop-row-preserved g c =
    answered g.S.Store c.args.conn.now c.standing.new.conn c.in_ok-installation.installation c.push_item.new.items _ _ _ HasReadableMeters
    (finds_then g.S.Store c.args.conn.now c.loop-row.conn c.standing.new.conn c.loop-row.found (Ok c.in_ok-installation.installation) _ (IsStanding c.row-item.result) HasReadableMeters _ c.loop-row.invariant c.in_ok-installation.ensures.finds)
    (λ facts h openings each.
    one_more_stands facts openings c.args.rows.now c.loop-row.row-index c.row-item.result c.in_ok-installation.installation c.loop-row.found.items c.push_item.new.items.items each c.loop-row-test.true c.row-item.is h.1 (h.0 openings each) c.in_ok-push_item.ensures.put)

pub returns-in_err-installation : goal.returns-in_err-installation
returns-in_err-installation g c =
    fails_then g.S.Store c.args.conn.now c.loop-row.conn c.standing.new.conn c.loop-row.found c.in_err-installation.field-0.0 c.from_residual.result _ (IsStanding c.row-item.result) _ HasReadableMeters _ (λ facts. HasReadableMeters facts × (openings : List Opening) × AreRowsOf facts openings c.args.rows.now)
    c.loop-row.invariant c.in_err-installation.ensures.finds
    (λ facts h s. let it = row_there facts s.1 c.args.rows.now c.loop-row.row-index c.row-item.result s.2 c.loop-row-test.true c.row-item.is in (s.0, it.0, it.1)) c.from_residual.ensures.1

pub returns-in_err-push_item : goal.returns-in_err-push_item
returns-in_err-push_item g c =
    unread g.S.Store c.args.conn.now c.standing.new.conn c.in_ok-installation.installation c.in_err-push_item.field-0.0 c.from_residual-in_err-push_item.result _ _ _ (λ facts. HasReadableMeters facts × (openings : List Opening) × AreRowsOf facts openings c.args.rows.now)
    (finds_then g.S.Store c.args.conn.now c.loop-row.conn c.standing.new.conn c.loop-row.found (Ok c.in_ok-installation.installation) _ (IsStanding c.row-item.result) HasReadableMeters _ c.loop-row.invariant c.in_ok-installation.ensures.finds)
    (λ facts h. subst (IsRowFault (HasReadableMeters facts × (openings : List Opening) × AreRowsOf facts openings c.args.rows.now)) (sym c.in_err-push_item.ensures.fault) refl) c.from_residual-in_err-push_item.ensures.1

pub returns : goal.returns
returns g c =
    answered g.S.Store c.args.conn.now c.loop-row.conn c.loop-row.found c.loop-row.found _ _ HasReadableMeters (λ facts. HasReadableMeters facts × (openings : List Opening) × AreRowsOf facts openings c.args.rows.now) c.loop-row.invariant
    (λ facts h openings each. all_stand facts openings c.args.rows.now c.loop-row.row-index c.loop-row.found.items each c.loop-row-test.false (h openings each))
