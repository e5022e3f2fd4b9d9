-- Proves that each item of a point list fits in one read and lies inside its area. An item is the
-- range of a point and its scale factor. Its area has the registers of all points with its function
-- and area number. No read has registers of two areas.
use Rattle.std.proofs.Common.{◌≡◌, ◌∙◌, ℕ, suc, [], ◌∷◌, ◌<◌, ◌≤◌, Bool, List, length, map, get_or, sym, refl, ap, arith, inl, inr, subst, Some, None, IsSomeAnd}
use Rattle.std.specs.declared.option.Option.{Option}
use Rattle.std.specs.List.{All, Any, Contains, find}
use Rattle.std.proofs.lemmas.Bool.{cases_lt, cases_Bool}
use Rattle.std.proofs.lemmas.List.Elements.{All-map}
use Rattle.std.proofs.lemmas.Option.{same_Some}
use Rattle.std.proofs.lemmas.List.{get_or-map, get_or_default, length-map}
use Rattle.sun_points.specs.PointType.{registers_of}
use Rattle.point_list.specs.Points.{HasLawfulScale, IsGroup, IsPointList, end_of, scale_point}
use Rattle.point_list.specs.declared.point.ListedPoint.{ListedPoint}
use Rattle.point_list.specs.declared.point.PointScale.{PointScale}
use Rattle.point_list.specs.declared.point.PointScale.TheVariants.{Unscaled, Fixed, Named}
use Rattle.read_plan.specs.declared.run.Run.{Run}
use Rattle.read_plan.specs.Items.{item_of, items_of, point_run, runs_of, with_scale, with_scale_of}
use Rattle.read_plan.specs.PlannedReads.{BeginsInside}
use Rattle.read_plan.specs.Plans.{IsInArea, IsReadable, SameArea}

-- If a search in a list of points succeeds, it returns a point of the list.
found-among : (test : ListedPoint → Bool) (points : List ListedPoint) (q : ListedPoint) → find test points ≡ Some q → Contains points q
found-among test [] q e = cc e
found-among test (p ∷ ps) q e = elim (cases_Bool (test p)) [
  | inl t ↦ let same : p ≡ q = same_Some p q (rw t at e) in (0, omega arith, same)
  | inr f ↦ let w = found-among test ps q (rw f at e) in (suc w.0, omega (arith, w.1), w.2)
]

any-run : (P : Run → Type 0) (points : List ListedPoint) (p : ListedPoint) → Contains points p → P (point_run p) → Any P (runs_of points)
any-run P points p w h =
    (w.0, point_run p, omega (arith, w.1, length-map points point_run), get_or-map point_run points w.0 p (point_run p) w.1 ∙ ap point_run w.2, h)

-- The properties of a point's item, the single range of registers that covers both the point and
-- its scale point. One read can contain the item, and the point's first register lies inside it.
pub record ItemFacts (points : List ListedPoint) (p : ListedPoint) (item : Run) : Type 0 where
  pub readable : IsReadable item
  pub inside : item.end ≤ 65536
  pub begun : BeginsInside item p.address
  pub area : IsInArea (runs_of points) item

module _ (points : List ListedPoint) (lawful : IsPointList points) (p : ListedPoint) (among : Contains points p) where
  at-point : (P : ListedPoint → Type 0) → All P points → (q : ListedPoint) → Contains points q → P q
  at-point P all q w = subst P w.2 (all w.0 q w.1)

  alone : ItemFacts points p (point_run p)
  alone =
      let sized = at-point (λ q. (1 ≤ registers_of q.kind) × (registers_of q.kind ≤ 125)) lawful.sized p among in
      let low = sized.0 in
      let high = sized.1 in
      let self : SameArea (point_run p) (point_run p) = record { function = refl; area = refl } in
      record {
        readable = (omega (arith, low), omega (arith, high));
        inside = at-point (λ q. end_of q ≤ 65536) lawful.inside p among;
        begun = (omega arith, omega (arith, low));
        area = record {
          after_first = any-run (λ q. SameArea q (point_run p) × q.first ≤ p.address) points p among (self, omega arith);
          before_last = any-run (λ q. SameArea q (point_run p) × end_of p ≤ q.end) points p among (self, omega arith);
        };
      }

  grouped : (q : ListedPoint) → Contains points q → IsGroup p q → ItemFacts points p (with_scale (point_run p) (Some q))
  grouped q among-q group =
      let sized = at-point (λ r. (1 ≤ registers_of r.kind) × (registers_of r.kind ≤ 125)) lawful.sized p among in
      let low = sized.0 in
      let inside-p = at-point (λ r. end_of r ≤ 65536) lawful.inside p among in
      let inside-q = at-point (λ r. end_of r ≤ 65536) lawful.inside q among-q in
      let narrow = group.narrow in
      let item = with_scale (point_run p) (Some q) in
      let self : SameArea (point_run p) item = record { function = refl; area = refl } in
      let other : SameArea (point_run q) item = record { function = sym group.function; area = sym group.area } in
      record {
        readable = (omega (arith, low), narrow);
        inside = omega (arith, inside-p, inside-q);
        begun = (omega arith, omega (arith, low));
        area = record {
          after_first = elim (cases_lt q.address p.address) [
            | inl l ↦ any-run (λ r. SameArea r item × r.first ≤ item.first) points q among-q (other, omega (arith, l))
            | inr ge ↦ any-run (λ r. SameArea r item × r.first ≤ item.first) points p among (self, omega (arith, ge))
          ];
          before_last = elim (cases_lt (end_of p) (end_of q)) [
            | inl l ↦ any-run (λ r. SameArea r item × item.end ≤ r.end) points q among-q (other, omega (arith, l))
            | inr ge ↦ any-run (λ r. SameArea r item × item.end ≤ r.end) points p among (self, omega (arith, ge))
          ];
        };
      }

  by-found : (name : List ℕ) (o : Option ListedPoint) → scale_point points name ≡ o → IsSomeAnd o (IsGroup p) → ItemFacts points p (with_scale (point_run p) o)
  by-found name None e h = absurd h
  by-found name (Some q) e h = grouped q (found-among _ points q e) h

  by-scale : (scale : PointScale) → HasLawfulScale points p scale → ItemFacts points p (with_scale_of points (point_run p) scale)
  by-scale Unscaled h = alone
  by-scale (Fixed exponent) h = alone
  by-scale (Named name) h = by-found name (scale_point points name) refl h.1

  pub item-facts : ItemFacts points p (item_of points p)
  item-facts = by-scale p.scale (at-point (λ q. HasLawfulScale points q q.scale) lawful.scaled p among)

module _ (points : List ListedPoint) (lawful : IsPointList points) where
  each-item : (P : Run → Type 0) → ((p : ListedPoint) → ItemFacts points p (item_of points p) → P (item_of points p)) → All P (items_of points)
  each-item P f = All-map P (item_of points) points (λ k d within. f (get_or points k d) (item-facts points lawful (get_or points k d) (k, within, get_or_default points k (get_or points k d) d within)))

  pub items-readable : All IsReadable (items_of points)
  items-readable = each-item IsReadable (λ p h. h.readable)

  pub items-inside : All (λ item. item.end ≤ 65536) (items_of points)
  items-inside = each-item (λ item. item.end ≤ 65536) (λ p h. h.inside)

  pub items-in-areas : All (IsInArea (runs_of points)) (items_of points)
  items-in-areas = each-item (IsInArea (runs_of points)) (λ p h. h.area)

  pub items-low : All (λ item. item.first < 65536) (items_of points)
  items-low = each-item (λ item. item.first < 65536) (λ p h. let a = h.readable.0 in let b = h.inside in omega (arith, a, b))

  pub starts-each : length (map (λ (p : ListedPoint). p.address) points) ≡ length (items_of points)
  starts-each = length-map points (λ (p : ListedPoint). p.address) ∙ sym (length-map points (item_of points))

  pub items-begun : (k : ℕ) (d : Run) → k < length (items_of points) → BeginsInside (get_or (items_of points) k d) (get_or (map (λ (p : ListedPoint). p.address) points) k 0)
  items-begun k d within = at-first points refl
    where
      at-first : (ps : List ListedPoint) → ps ≡ points → BeginsInside (get_or (items_of points) k d) (get_or (map (λ (p : ListedPoint). p.address) points) k 0)
      at-first [] e =
          let none : length (items_of points) ≡ 0 = length-map points (item_of points) ∙ ap length (sym e) in
          absurd (omega (arith, within, none))
      at-first (q ∷ qs) e =
          let size = length-map points (item_of points) in
          let inside : k < length points = omega (arith, within, size) in
          let p = get_or points k q in
          let facts = item-facts points lawful p (k, inside, get_or_default points k p q inside) in
          rw (get_or-map (item_of points) points k q d inside, get_or-map (λ (r : ListedPoint). r.address) points k q 0 inside) facts.begun
