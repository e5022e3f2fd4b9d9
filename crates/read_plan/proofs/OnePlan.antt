-- Proves that at most one plan for a point list follows the planning rule. By this rule, each read
-- begins at the first uncovered register and covers as much as possible.
use Rattle.std.proofs.Common.{◌≡◌, ◌∙◌, ℕ, ◌+◌, ◌≤◌, List, [], ◌∷◌, refl, ap, subst, arith}
use Rattle.std.proofs.Math.Bridge.{le_prop}
use Rattle.mb_wire.specs.declared.span.ReadFunction.{ReadFunction}
use Rattle.mb_wire.specs.declared.span.ReadSpan.{ReadSpan}
use Rattle.point_list.specs.declared.point.ListedPoint.{ListedPoint}
use Rattle.read_plan.specs.declared.planned_reads.PlannedRead.{PlannedRead}
use Rattle.read_plan.specs.declared.run.Run.{Run}
use Rattle.read_plan.specs.Items.{items_of}
use Rattle.read_plan.specs.PlannedReads.{read_run, read_runs}
use Rattle.read_plan.specs.Plans.{FollowsRule}
use Rattle.read_plan.specs.PlannedLists.{Planned}
use Rattle.read_plan.specs.PlannedLists.{ListsArePlannedOnce}
use Rattle.read_plan.proofs.OneRule.{rule_is_one}

one_bound : (m n : ℕ) (p q : m ≤ n) → p ≡ q
one_bound m n p q = le_prop p q

abbrev span_of : (f : ReadFunction) (a c : ℕ) → 1 ≤ c → c ≤ 125 → a + c ≤ 65536 → ReadSpan
span_of f a c s w i = record { function = f; address = a; count = c; some = s; few = w; inside = i }

-- True if the range of registers has this function, this address and this register count.
abbrev IsSpan : (x : ReadSpan) (f : ReadFunction) (a c : ℕ) → Type 0
IsSpan x f a c = (s : 1 ≤ c) (w : c ≤ 125) (i : a + c ≤ 65536) → x ≡ span_of f a c s w i

own_numbers : (x : ReadSpan) → IsSpan x x.function x.address x.count
own_numbers x s w i =
    ap (λ (p : 1 ≤ x.count). span_of x.function x.address x.count p x.few x.inside) (one_bound 1 x.count x.some s)
    ∙ ap (λ (p : x.count ≤ 125). span_of x.function x.address x.count s p x.inside) (one_bound x.count 125 x.few w)
    ∙ ap (λ (p : x.address + x.count ≤ 65536). span_of x.function x.address x.count s w p) (one_bound (x.address + x.count) 65536 x.inside i)

one_span : (x y : ReadSpan) → x.function ≡ y.function → x.address ≡ y.address → x.count ≡ y.count → x ≡ y
one_span x y f a c =
    subst (λ (n : ℕ). IsSpan x y.function y.address n) c
    (subst (λ (n : ℕ). IsSpan x y.function n x.count) a
    (subst (λ (g : ReadFunction). IsSpan x g x.address x.count) f (own_numbers x)))
    y.some y.few y.inside

one_read : (x y : PlannedRead) → read_run x ≡ read_run y → x ≡ y
one_read x y e =
    let first : x.span.address ≡ y.span.address = ap (λ (r : Run). r.first) e in
    let end : x.span.address + x.span.count ≡ y.span.address + y.span.count = ap (λ (r : Run). r.end) e in
    let span : x.span ≡ y.span =
    one_span x.span y.span (ap (λ (r : Run). r.function) e) first (omega (arith, first, end)) in
    ap (λ (s : ReadSpan). let r : PlannedRead = record { area = x.area; span = s } in r) span
    ∙ ap (λ (n : ℕ). let r : PlannedRead = record { area = n; span = y.span } in r) (ap (λ (r : Run). r.area) e)

abbrev first_of_list : Run → List Run → Run
first_of_list d [] = d
first_of_list d (x ∷ xs) = x

abbrev rest_of_list : List Run → List Run
rest_of_list [] = []
rest_of_list (x ∷ xs) = xs

one_list : (xs ys : List PlannedRead) → read_runs xs ≡ read_runs ys → xs ≡ ys
one_list [] [] e = refl
one_list [] (y ∷ ys) e = absurd (cc)
one_list (x ∷ xs) [] e = absurd (cc)
one_list (x ∷ xs) (y ∷ ys) e =
    let head : read_run x ≡ read_run y = ap (first_of_list (read_run x)) e in
    let tail : read_runs xs ≡ read_runs ys = ap rest_of_list e in
    ap (λ (r : PlannedRead). r ∷ xs) (one_read x y head) ∙ ap (λ (rs : List PlannedRead). y ∷ rs) (one_list xs ys tail)

pub planned_once : ListsArePlannedOnce
planned_once a b ha hb same =
    let rule : FollowsRule (items_of b.points) (read_runs a.reads) =
    subst (λ (points : List ListedPoint). FollowsRule (items_of points) (read_runs a.reads)) same ha.rule in
    let reads : a.reads ≡ b.reads = one_list a.reads b.reads (rule_is_one (items_of b.points) (read_runs a.reads) (read_runs b.reads) rule hb.rule) in
    ap (λ (points : List ListedPoint). let p : Planned = record { points = points; reads = a.reads } in p) same
    ∙ ap (λ (rs : List PlannedRead). let p : Planned = record { points = b.points; reads = rs } in p) reads
