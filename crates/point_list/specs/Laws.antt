-- The statements of the theorems about point lists and the CSV texts that encode them.
use Rattle.std.specs.Prelude.{ℕ, ◌≡◌, List, []}
use Rattle.point_list.specs.declared.point.ListedPoint.{ListedPoint}
use Rattle.point_list.specs.Lists.{SpellsList, list_faults, rows_read}
use Rattle.point_list.specs.Points.{IsPointList}

-- The statement that a CSV text without faulty rows encodes a point list.
abbrev pub FaultlessTextsSpell : Type 0
FaultlessTextsSpell = (text : List ℕ) → list_faults (rows_read text) ≡ []
    → (points : List ListedPoint) × SpellsList text points

-- The statement that no CSV text encodes two different point lists.
abbrev pub SpelledListIsOne : Type 0
SpelledListIsOne = (text : List ℕ) (points others : List ListedPoint) → SpellsList text points
    → SpellsList text others → points ≡ others

-- The statement that each point list that a CSV text encodes is valid: distinct names, and valid
-- sizes, addresses and scales.
abbrev pub SpelledListsAreLawful : Type 0
SpelledListsAreLawful = (text : List ℕ) (points : List ListedPoint) → SpellsList text points
    → IsPointList points
