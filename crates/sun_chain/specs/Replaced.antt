-- Defines a list in which another list replaces a number of consecutive items.
use Rattle.std.specs.Prelude.{ℕ, ◌++◌, List, take, drop}

-- The list `items` in which the list `others` replaces `count` items from index `start`.
abbrev pub replaced : {A : Type 0} → (start count : ℕ) → (others items : List A) → List A
replaced start count others items = take start items ++ (others ++ drop count (drop start items))
