-- Proves that the planning rule gives the fewest reads of all valid plans. By the rule, each read
-- begins at the first uncovered register and covers as much as possible.
use Rattle.std.proofs.Common.{◌≡◌, ◌∙◌, ℕ, ◌<◌, ◌≤◌, List, length, get_or, take, sym, ap, arith, inl, inr, subst}
use Rattle.std.specs.List.{All, Any, Contains}
use Rattle.std.proofs.lemmas.List.{get_or-take, get_or_default, length-take-le}
use Rattle.mb_wire.specs.declared.span.ReadFunction.TheVariants.{HoldingRegisters}
use Rattle.read_plan.specs.declared.run.Run.{Run}
use Rattle.mb_wire.specs.Spans.{code_of}
use Rattle.read_plan.specs.Plans.{ComesBefore, FollowsRule, Holds, IsContained, IsLawful, IsReadable, LiesWithinReach, SameArea}
use Rattle.read_plan.proofs.Pigeons.{pigeonhole}

abbrev pub anything : Run
anything = record { function = HoldingRegisters; area = 0; first = 0; end = 0 }

pub same_area-sym : (a b : Run) → SameArea a b → SameArea b a
same_area-sym a b s = record { function = sym s.function; area = sym s.area }

pub same_area-trans : (a b c : Run) → SameArea a b → SameArea b c → SameArea a c
same_area-trans a b c s t = record { function = s.function ∙ t.function; area = s.area ∙ t.area }

-- If an element of a list has a property, then each prefix of the list that includes this element
-- has an element with the property.
pub any-take : {X : Type 0} (P : X → Type 0) (xs : List X) (k j : ℕ) (d : X) → j < k → k ≤ length xs → P (get_or xs j d) → Any P (take k xs)
any-take {X} P xs k j d below within p =
    let inside : j < length xs = omega (arith, below, within) in (
      j,
      get_or xs j d,
      omega (arith, below, length-take-le k xs within),
      get_or-take k xs j (get_or xs j d) below ∙ get_or_default xs j (get_or xs j d) d inside,
      p,
    )

-- Of two register ranges with the same function and area number, the range that comes first (by
-- function, area number and first register) begins at the lower register. No read has registers of
-- two areas.
pub first-before : (a b : Run) → ComesBefore a b → SameArea a b → a.first < b.first
first-before a b (inl f) s = let e = ap code_of s.function in absurd (omega (arith, e, f))
first-before a b (inr (inl h)) s = let e = s.area in absurd (omega (arith, e, h.1))
first-before a b (inr (inr h)) s = h.1

-- If all elements of a list have a property, then each value in the list has the property.
pub all-at : {X : Type 0} (P : X → Type 0) (xs : List X) → All P xs → (x : X) → Contains xs x → P x
all-at {X} P xs all x w = subst P w.2 (all w.0 x w.1)

pub contains-any : {X : Type 0} (P : X → Type 0) (xs : List X) → (w : Any P xs) → Contains xs w.1
contains-any P xs w = (w.0, w.2, w.3)

-- True if the read `y` contains an item (a point and its scale point) that begins at the first
-- register of read `k`. No read before `k` contains this item.
pub record HoldsBeginning (items reads : List Run) (k : ℕ) (y : Run) : Type 0 where
  pub item : Run
  pub among : Contains items item
  pub same_area : SameArea (get_or reads k anything) item
  pub at_first : item.first ≡ (get_or reads k anything).first
  pub unheld : IsContained (take k reads) item → ⊥
  pub holds : Holds y item
  pub readable : IsReadable y

pub beginnings-apart : (items reads : List Run) → FollowsRule items reads → (j k : ℕ) (y : Run) → j < k → k < length reads
    → HoldsBeginning items reads j y → HoldsBeginning items reads k y → ⊥
beginnings-apart items reads rule j k y below within a b =
    let r = get_or reads j anything in
    let s = get_or reads k anything in
    let y_to_b = b.holds.same_area in
    let r_to_b : SameArea r b.item = same_area-trans r a.item b.item a.same_area (same_area-trans a.item y b.item (same_area-sym y a.item a.holds.same_area) y_to_b) in
    let r_to_s : SameArea r s = same_area-trans r b.item s r_to_b (same_area-sym s b.item b.same_area) in
    let lower : r.first < s.first = first-before r s (rule.ordered j k anything below within) r_to_s in
    let reach : LiesWithinReach r b.item = record {
      same_area = r_to_b;
      from_first = omega (arith, lower, b.at_first);
      in_reach = omega (arith, b.holds.to_end, b.readable.1, a.holds.from_first, a.at_first);
    } in
    let ends = rule.ends j anything (omega (arith, below, within)) in
    let contained : Holds r b.item = record {
      same_area = r_to_b;
      from_first = reach.from_first;
      to_end = all-at (λ i. LiesWithinReach r i → i.end ≤ r.end) items ends.last b.item b.among reach;
    } in
    b.unheld (any-take (λ read. Holds read b.item) reads k j anything below (omega (arith, within)) contained)

pub fewest : (points items reads other : List Run) → FollowsRule items reads → IsLawful points items other → length reads ≤ length other
fewest points items reads other rule lawful =
    pigeonhole (length reads) (HoldsBeginning items reads) other
    (λ k within.
    let at = (rule.begins k anything within).at_item in
    let contained : IsContained other at.1 = all-at (IsContained other) items lawful.contained at.1 (at.0, at.2, at.3) in (
      contained.0,
      contained.1,
      contained.2,
      contained.3,
      record {
        item = at.1;
        among = (at.0, at.2, at.3);
        same_area = at.4.0;
        at_first = at.4.1;
        unheld = at.4.2;
        holds = contained.4;
        readable = all-at IsReadable other lawful.readable contained.1 (contained.0, contained.2, contained.3);
      },
    ))
    (beginnings-apart items reads rule)
