-- The keys of lookups in a store in memory: a name, or a name and a number.
use Rattle.std.specs.Prelude.{ℕ, ◌==◌, ◌&&◌, Bool, List}
use Rattle.std.specs.Cmp.Lexicographic.{slice_cmp}
use Rattle.std.specs.Ordering.{nat_cmp, on, then_cmp}
use Rattle.std.specs.declared.cmp.Ordering.{Ordering}
use Rattle.office_books.specs.Facts.{same}
use Rattle.memory_books.specs.declared.tables.keys.Key.{Key}

-- The order of lookup keys: by the bytes of their names, then by their numbers.
abbrev pub key_cmp : Key → Key → Ordering
key_cmp = then_cmp (on (λ k. k.name) (slice_cmp nat_cmp)) (on (λ k. k.number) nat_cmp)

-- The key of a lookup by name only. Its number, which other lookups use beside the name, is 0.
abbrev pub named : List ℕ → Key
named name = record { name = name; number = 0 }

-- The key of a lookup by a name and a number.
abbrev pub numbered : List ℕ → ℕ → Key
numbered name number = record { name = name; number = number }

-- True if the names and the numbers of two keys are equal.
abbrev pub is_same_key : Key → Key → Bool
is_same_key a b = same a.name b.name && (a.number == b.number)
