-- Relations between the answer of a query and the rows of the table that the query reads.
use Rattle.std.specs.Prelude.{⊤, ◌≡◌, ◌≤◌, ℕ, Bool, true, List, [], ◌∷◌, filter, Option, Some, None}
use Rattle.std.specs.List.{AllByRecursion}
use Rattle.std.specs.List.Sorted.{IsPermutation}
use Rattle.sqlite.specs.Tree.{IsAscending}

-- True if a result lists the rows that pass a WHERE test, and the order relation `Later` relates
-- each row to every row after it in the result.
pub record AreFound {X : Type 0} (passes : X → Bool) (Later : X → X → Type 0)
    (rows found : List X) : Type 0 where
  pub all : IsPermutation (filter passes rows) found
  pub order : IsAscending Later found

module _ {X A : Type 0} (passes : X → Bool) (IsSeen : X → A → Type 0) where
  -- True if a query for one row returns the value of some row that passes the WHERE test, or None
  -- if no row passes.
  abbrev pub IsFound : List X → Option A → Type 0
  IsFound rows None = filter passes rows ≡ []
  IsFound rows (Some a) =
      (x : X) × IsSeen x a × (others : List X) × IsPermutation (filter passes rows) (x ∷ others)

  -- States that a query returns the value of the row with the greatest key among the rows that pass
  -- the WHERE test. If no row passes, the query returns None.
  abbrev pub IsLast : (key : X → ℕ) → List X → Option A → Type 0
  IsLast key rows None = filter passes rows ≡ []
  IsLast key rows (Some a) =
      (x : X) × IsSeen x a × (others : List X) × IsPermutation (filter passes rows) (x ∷ others)
      × AllByRecursion (λ y. key y ≤ key x) others

-- The order of a query without ORDER BY: rows may come in any order.
abbrev pub AnyOrder : {X : Type 0} → X → X → Type 0
AnyOrder x y = ⊤

-- The order of ORDER BY .. DESC: no row has a greater key than the rows before it.
abbrev pub LastFirst : {X : Type 0} → (key : X → ℕ) → X → X → Type 0
LastFirst key x y = key y ≤ key x

-- The order of ORDER BY: no row has a smaller key than the rows before it.
abbrev pub FirstFirst : {X : Type 0} → (key : X → ℕ) → X → X → Type 0
FirstFirst key x y = key x ≤ key y

-- The test of a query without WHERE: every row passes.
abbrev pub every : {X : Type 0} → X → Bool
every x = true
