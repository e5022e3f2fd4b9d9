use Rattle.std.proofs.Common.{◌≡◌, ◌∷◌, ◌++◌, [], List, subst, sym, arith}
use Rattle.std.specs.List.{All}
use Rattle.std.proofs.lemmas.List.Elements.{All-append, All-cons, All-nil}
use Rattle.store_tables.specs.declared.devices.rows.Point.{Point}
use Rattle.store_tables.specs.Devices.Rows.{IsSoundPoint}
use Rattle.office_store.proofs.ListPoints.{one_more}
use Rattle.office_store.proofs.points.points_at.Goals as goal

pub loop-index-preserved : goal.loop-index-preserved
loop-index-preserved c =
    let before = c.loop-index.rows.items in
    let p = c.in_ok-point_at.field-0 in
    let pushed : c.push.new.points.items ≡ before ++ (p ∷ []) = c.in_ok-push.ensures in
    let sound = c.in_ok-point_at.ensures.sound (omega arith, omega arith) in
    record {
      listed = λ device.
          one_more device c.args.points.now c.loop-index.index c.index-points-index.result before c.push.new.points.items p c.loop-index-test.true c.index-points-index.is (c.loop-index.invariant.listed device) pushed
          (c.in_ok-point_at.ensures.listed device);
      sound = subst (λ (ps : List Point). All (λ (q : Point). IsSoundPoint q.row) ps) (sym pushed)
          (All-append (λ (q : Point). IsSoundPoint q.row) before (p ∷ []) c.loop-index.invariant.sound (All-cons (λ (q : Point). IsSoundPoint q.row) p [] sound (All-nil (λ (q : Point). IsSoundPoint q.row))));
    }
