-- Lemmas for the loops that print a read plan, one line for each read and one for each point: each
-- step of a loop prints the next line.
use Rattle.std.proofs.Common.{◌≡◌, ◌+◌, ◌<◌, ℕ, zero, suc, List, [], ◌∷◌, ◌++◌, length, take, get_or, sym, ◌∙◌, ap, append_assoc, append-nil, map, arith}
use Rattle.std.specs.List.{flat_map}
use Rattle.std.proofs.Math.Seq.{take-suc}
use Rattle.std.proofs.lemmas.Grind.{flat_map-append}
use Rattle.std.proofs.lemmas.List.{map-append, get_or-map}
use Rattle.std.proofs.lemmas.List.Elements.{All-append, All-cons, All-nil}
use Rattle.point_list.specs.declared.point.ListedPoint.{ListedPoint}
use Rattle.read_plan.specs.declared.planned_reads.PlannedRead.{PlannedRead}
use Rattle.read_plan.specs.declared.run.Run.{Run}
use Rattle.sunspec_text.specs.Lists.PlanText.{IsPlaced, PlacedPoint, PointsPrint, point_line, read_line, read_lines}

plus_one : (i : ℕ) → i + 1 ≡ suc i
plus_one i = omega arith

next_from : (n : ℕ) (reads : List PlannedRead) (i : ℕ) (d : PlannedRead) → i < length reads
    → read_lines n (take i reads) ++ read_line (n + i) (get_or reads i d) ≡ read_lines n (take (suc i) reads)
next_from n [] i d inside = absurd (omega arith)
next_from n (read ∷ reads) zero d inside =
    let same : n + 0 ≡ n = omega arith in
    ap (λ k. read_line k read) same ∙ sym (append-nil (read_line n read))
next_from n (read ∷ reads) (suc i) d inside =
    let same : n + suc i ≡ (n + 1) + i = omega arith in
    append_assoc (read_line n read) (read_lines (n + 1) (take i reads)) (read_line (n + suc i) (get_or reads i d))
    ∙ ap (λ more. read_line n read ++ more) (ap (λ k. read_lines (n + 1) (take i reads) ++ read_line k (get_or reads i d)) same ∙ next_from (n + 1) reads i d (omega arith))

pub reads_next : (reads : List PlannedRead) (i : ℕ) (d : PlannedRead) → i < length reads
    → read_lines 1 (take i reads) ++ read_line (i + 1) (get_or reads i d) ≡ read_lines 1 (take (i + 1) reads)
reads_next reads i d inside =
    let same : i + 1 ≡ 1 + i = omega arith in
    ap (λ k. read_lines 1 (take i reads) ++ read_line k (get_or reads i d)) same ∙ next_from 1 reads i d inside
    ∙ ap (λ k. read_lines 1 (take k reads)) (sym (plus_one i))

pub item_at : (points : List ListedPoint) (f : ListedPoint → Run) (runs : List Run) (i : ℕ) (p : ListedPoint) → i < length points → runs ≡ map f points → p ≡ get_or points i p
    → get_or runs i (f p) ≡ f p
item_at points f runs i p inside are is = ap (λ xs. get_or xs i (f p)) are ∙ get_or-map f points i p (f p) inside ∙ ap f (sym is)

pub start_at : (points : List ListedPoint) (starts : List ℕ) (i : ℕ) (p : ListedPoint) → i < length points → starts ≡ map (λ point. point.address) points → p ≡ get_or points i p
    → get_or starts i 0 ≡ p.address
start_at points starts i p inside are is =
    ap (λ xs. get_or xs i 0) are ∙ get_or-map (λ (point : ListedPoint). point.address) points i p 0 inside ∙ ap (λ (point : ListedPoint). point.address) (sym is)

-- If the line of point `i` is printed after the lines of the points before `i`, then the lines of
-- the first `i + 1` points were printed.
pub points_next : (list points : List ListedPoint) (reads : List PlannedRead) (printed : List ℕ) (i : ℕ) (p : PlacedPoint) → i < length points
    → p.point ≡ get_or points i p.point → PointsPrint list (take i points) reads printed → IsPlaced list reads p
    → PointsPrint list (take (i + 1) points) reads (printed ++ point_line p)
points_next list points reads printed i p inside is before placed = record {
  placed = before.placed ++ (p ∷ []);
  points_of =
      map-append (λ (q : PlacedPoint). q.point) before.placed (p ∷ [])
      ∙ ap (λ (front : List ListedPoint). front ++ (p.point ∷ [])) before.points_of
      ∙ ap (λ (point : ListedPoint). take i points ++ (point ∷ [])) is
      ∙ sym (take-suc points i p.point inside)
      ∙ ap (λ k. take k points) (sym (plus_one i));
  each = All-append (IsPlaced list reads) before.placed (p ∷ []) before.each (All-cons (IsPlaced list reads) p [] placed (All-nil (IsPlaced list reads)));
  lines =
      ap (λ (front : List ℕ). front ++ point_line p) before.lines
      ∙ ap (λ (more : List ℕ). flat_map point_line before.placed ++ more) (sym (append-nil (point_line p)))
      ∙ sym (flat_map-append point_line before.placed (p ∷ []));
}
