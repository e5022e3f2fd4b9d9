use Rattle.std.proofs.Common.{Some, None, sym, ap, ◌∙◌}
use Rattle.office_books.specs.Facts.{list_of}
use Rattle.point_list.specs.Points.{IsPointList}
use Rattle.store_tables.proofs.ReadLemmas.{less_sound}
use Rattle.office_store.proofs.FindingLemmas.Found.{answered, unread}
use Rattle.office_store.proofs.FindingLemmas.Lists.{no_items, some_items, no_list, this_list, list_fault}
use Rattle.office_store.proofs.finding.point_lists.list.Goals as goal

pub returns-then-is_empty : goal.returns-then-is_empty
returns-then-is_empty g c =
    answered g.S.Store c.args.conn.now c.points.new.conn c.in_ok-points.points None _ _ _ _ c.in_ok-points.ensures
    (λ facts h.
    no_list facts c.in_ok-device.device.now c.in_ok-points.points.items h.1 (no_items c.in_ok-points.points.len c.in_ok-points.points.items c.is_empty.result c.in_ok-points.points.ok.0 c.is_empty.ensures c.if-is_empty.true)
    ∙ ap (list_of facts) c.in_ok-device.ensures.text)

pub returns-in_err-with_plan : goal.returns-in_err-with_plan
returns-in_err-with_plan g c =
    unread g.S.Store c.args.conn.now c.points.new.conn c.in_ok-points.points c.in_err-with_plan.field-0.0 c.from_residual-in_err-with_plan.result _ _ _ _ c.in_ok-points.ensures
    (λ facts h.
    less_sound _ (IsPointList c.in_ok-points.points.items) (λ sound. list_fault facts c.in_ok-device.device.now c.in_ok-points.points.items h.0 h.1 (some_items c.in_ok-points.points.len c.in_ok-points.points.items c.is_empty.result c.in_ok-points.points.ok.0 c.is_empty.ensures c.if-is_empty.false)) c.in_err-with_plan.field-0.0 c.in_err-with_plan.ensures.fault)
    c.from_residual-in_err-with_plan.ensures.1

pub returns : goal.returns
returns g c =
    answered g.S.Store c.args.conn.now c.points.new.conn c.in_ok-points.points _ _ _ _ _ c.in_ok-points.ensures
    (λ facts h.
    this_list c.lists_are_planned_once.ensures facts c.in_ok-device.device.now c.in_ok-points.points.items c.in_ok-with_plan.field-0 h.0 h.1
    (some_items c.in_ok-points.points.len c.in_ok-points.points.items c.is_empty.result c.in_ok-points.points.ok.0 c.is_empty.ensures c.if-is_empty.false)
    c.in_ok-with_plan.ensures.points c.in_ok-with_plan.ensures.planned
    ∙ ap (list_of facts) c.in_ok-device.ensures.text)
