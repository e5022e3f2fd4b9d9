-- A cache of the results of one kind of lookup, by name.
use Rattle.std.specs.Prelude.{◌≡◌, ◌⊎◌, ℕ, false, List, Option, Some, None}
use Rattle.std.specs.BTreeMap.{get}
use Rattle.std.specs.Cmp.Lexicographic.{slice_cmp}
use Rattle.std.specs.Ordering.{nat_cmp, on}
use Rattle.std.specs.declared.cmp.Ordering.{Ordering}
use Rattle.office_books.specs.Facts.{same}
use Rattle.memory_books.specs.declared.kept.keys.Key.{Key}
use Rattle.memory_books.specs.declared.kept.answers.Answers.{Answers}

-- Compares two keys of a cache. Keys are names, and are ordered by their bytes.
abbrev pub key_cmp : Key → Key → Ordering
key_cmp = on (λ k. k.name) (slice_cmp nat_cmp)

-- The cached lookup result for a name, or `None` if no result is cached for the name.
abbrev pub answer_to : {T : Type 0} → Answers T → List ℕ → Option T
answer_to answers name = get key_cmp answers.rows (record { name = name })

-- True if each cached lookup result has the given property, which may depend on the result's name.
abbrev pub EachIs : {T : Type 0} → (List ℕ → T → Type 0) → Answers T → Type 0
EachIs {T} so answers = (name : List ℕ) (x : T) → answer_to answers name ≡ Some x → so name x

-- True if the cache of lookup results is unchanged, or changed only by adding the given result for
-- `name`.
abbrev pub MayAnswer : {T : Type 0} → (name : List ℕ) → T → (before after : Answers T) → Type 0
MayAnswer name x before after = (other : List ℕ)
    → (answer_to after other ≡ answer_to before other)
    ⊎ ((other ≡ name) × (answer_to after other ≡ Some x))

-- True if the cache of lookup results has no result for `name` any more, and all other results are
-- unchanged.
pub record Forgets {T : Type 0} (name : List ℕ) (before after : Answers T) : Type 0 where
  pub gone : answer_to after name ≡ None
  pub others : (other : List ℕ) → same name other ≡ false
      → answer_to after other ≡ answer_to before other
