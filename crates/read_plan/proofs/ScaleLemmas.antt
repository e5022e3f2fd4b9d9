-- Lemmas: a loop visits a point list from its last point to its first, and stores the register
-- ranges of scale points (scale factors) by name. The resulting map has the first scale point of
-- each name.
use Rattle.std.proofs.Common.{◌≡◌, ◌∙◌, ℕ, Bool, true, false, List, [], ◌∷◌, ◌++◌, Bor, ap, cond, map, refl, reverse, subst, sym, Some, None}
use Rattle.std.specs.Prelude.{◌&&◌}
use Rattle.std.specs.declared.option.Option.{Option}
use Rattle.std.specs.BTreeMap.{BTreeMap, UpdatesBy}
use Rattle.std.specs.Cmp.Lexicographic.{slice_cmp}
use Rattle.std.specs.Option.{option_map}
use Rattle.std.specs.Ordering.{nat_cmp}
use Rattle.std.specs.Str.{bytes_eq}
use Rattle.std.proofs.lemmas.Bool.{false≢true}
use Rattle.std.proofs.lemmas.List.{map-append, reverse-append}
use Rattle.std.proofs.lemmas.Option.{none-some, same_Some}
use Rattle.std.proofs.lemmas.Map.Text.{btree_map_updates_str}
use Rattle.point_list.specs.Points.{is_sunssf, scale_point}
use Rattle.point_list.specs.declared.point.ListedPoint.{ListedPoint}
use Rattle.read_plan.specs.declared.run.Run.{Run}
use Rattle.point_list.specs.declared.point.PointScale.TheVariants.{Named}
use Rattle.read_plan.specs.Items.{AreScaleRuns, item_of, joined, point_run, run_named, with_scale, with_scale_of}

-- The points that the loop over a point list has visited, in the order of the list.
abbrev pub points-read : List (Bor ListedPoint) → List ListedPoint
points-read yielded = reverse (map (λ p. p.now) yielded)

points-read-more : (yielded : List (Bor ListedPoint)) (p : Bor ListedPoint) → points-read (yielded ++ p ∷ []) ≡ p.now ∷ points-read yielded
points-read-more yielded p =
    ap reverse (map-append (λ (q : Bor ListedPoint). q.now) yielded (p ∷ [])) ∙ reverse-append (map (λ (q : Bor ListedPoint). q.now) yielded) (p.now ∷ [])

chosen : (scale named : Bool) (p : ListedPoint) (o : Option ListedPoint) → scale ≡ true → cond named (Some (point_run p)) (option_map point_run o) ≡ option_map point_run (cond (scale && named) (Some p) o)
chosen true true p o e = refl
chosen true false p o e = refl
chosen false named p o e = absurd (false≢true e)

-- True if the second map is the first map with the given range stored under the name.
abbrev pub Puts : BTreeMap (Bor (List ℕ)) Run → BTreeMap (Bor (List ℕ)) Run → List ℕ → Run → Type 0
Puts before after name run = UpdatesBy (λ x y. slice_cmp nat_cmp x.now y.now) (λ k. slice_cmp nat_cmp name k.now) before after (Some run)

scale-first : (points : List ListedPoint) (before after : BTreeMap (Bor (List ℕ)) Run) (p : ListedPoint) → is_sunssf p.kind ≡ true
    → AreScaleRuns points before → Puts before after p.name (point_run p) → AreScaleRuns (p ∷ points) after
scale-first points before after p scale runs puts name =
    btree_map_updates_str p.name before after (Some (point_run p)) puts name
    ∙ ap (cond (bytes_eq p.name name) (Some (point_run p))) (runs name)
    ∙ chosen (is_sunssf p.kind) (bytes_eq p.name name) p (scale_point points name) scale

-- A loop visits the point list from its last point to its first, and stores scale points (scale
-- factor registers) in a map. After each of them, the map has the first scale point of each name
-- among the visited points.
pub scale-read : (yielded : List (Bor ListedPoint)) (p : Bor ListedPoint) (before after : BTreeMap (Bor (List ℕ)) Run) (name : List ℕ) (run : Run) → is_sunssf p.now.kind ≡ true
    → name ≡ p.now.name → run ≡ point_run p.now
    → AreScaleRuns (points-read yielded) before → Puts before after name run → AreScaleRuns (points-read (yielded ++ p ∷ [])) after
scale-read yielded p before after name run scale same-name same-run runs puts =
    let here : Puts before after p.now.name (point_run p.now) = subst (λ r. Puts before after p.now.name r) same-run (subst (λ n. Puts before after n run) same-name puts) in
    subst (λ points. AreScaleRuns points after) (sym (points-read-more yielded p)) (scale-first (points-read yielded) before after p.now scale runs here)

found-run : (run scale : Run) (o : Option ListedPoint) → option_map point_run o ≡ Some scale → with_scale run o ≡ joined run scale
found-run run scale None e = absurd (none-some scale e)
found-run run scale (Some q) e = ap (joined run) (same_Some (point_run q) scale e)

missing-run : (run : Run) (o : Option ListedPoint) → option_map point_run o ≡ None → with_scale run o ≡ run
missing-run run None e = refl
missing-run run (Some q) e = absurd (none-some (point_run q) (sym e))

module _ (points : List ListedPoint) (runs : BTreeMap (Bor (List ℕ)) Run) (right : AreScaleRuns points runs) (p : ListedPoint) (name : List ℕ) (named : p.scale ≡ Named name) where
  -- Suppose that the map of scale factors has the name that a point's scale gives. Then the point's
  -- item is the smallest range that contains the point and this scale factor.
  pub item-found : (scale : Run) → run_named runs name ≡ Some scale → item_of points p ≡ joined (point_run p) scale
  item-found scale e = ap (with_scale_of points (point_run p)) named ∙ found-run (point_run p) scale (scale_point points name) (sym (right name) ∙ e)

  -- An item is the smallest register range with a point and its scale point. If the map of scale
  -- factors lacks the name of a point's scale, the item is only the point's own range.
  pub item-missing : run_named runs name ≡ None → item_of points p ≡ point_run p
  item-missing e = ap (with_scale_of points (point_run p)) named ∙ missing-run (point_run p) (scale_point points name) (sym (right name) ∙ e)
