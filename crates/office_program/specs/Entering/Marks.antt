-- The mark ` !` at the end of an input line. The mark confirms an entry by hand whose energy is
-- above the meter's power limit.
use Rattle.std.specs.Prelude.{ℕ, ◌-◌, nat_eq, Bool, List, length, take, codes, if◌then◌else◌}
use Rattle.std.specs.List.{ends_with}

-- True if the line ends with the mark ` !`. The mark confirms the line's entry by hand, whatever
-- energy the entry records.
abbrev pub is_marked : (text : List ℕ) → Bool
is_marked text = ends_with nat_eq text (codes " !")

-- The input line without its mark ` !` (a confirmation), or the complete line if it has no mark.
abbrev pub unmarked : (text : List ℕ) → List ℕ
unmarked text = if is_marked text then take (length text - 2) text else text
