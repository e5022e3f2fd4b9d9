-- Defines which names in a folder are those of the files of periods (months or years) before the
-- current period.
use Rattle.std.specs.Prelude.{◌≡◌, ◌⊎◌, ℕ, ◌<◌, true, List, [], ◌∷◌, ◌++◌, map}
use Rattle.std.specs.Borrow.{Bor}
use Rattle.std.specs.Cmp.Lexicographic.{slice_cmp}
use Rattle.std.specs.Ordering.{nat_cmp}
use Rattle.std.specs.declared.cmp.Ordering.{Ordering}
use Rattle.std.specs.List.Sorted.{IsPermutation, IsSorted}
use Rattle.std.specs.declared.alloc.Global.{Global}
use Rattle.std.specs.declared.vec.Vec.{Vec}
use Rattle.energy_report.specs.declared.form.Period.{Period}
use Rattle.run_schedule.specs.Periods.Led.{number_in}
use Rattle.run_schedule.specs.Periods.Names.{IsNamed}

-- The texts in a list of byte vectors.
abbrev pub texts_in : List (Vec ℕ Global) → List (List ℕ)
texts_in texts = map (λ text. text.items) texts

-- The order of two texts by their bytes.
abbrev pub bytes_cmp : (text other : Vec ℕ Global) → Ordering
bytes_cmp text other = slice_cmp nat_cmp text.items other.items

-- States that the file name `name` has the calendar period `text` (such as `2026-10`), which is
-- before the period `current`.
pub record IsEarlier (file : List ℕ) (length : Period) (current name text : List ℕ) : Type 0 where
  pub named : IsNamed file length name text
  pub before : number_in text < number_in current

-- States that `texts` are the calendar periods (such as `2026-10`) before `current` in the given
-- file names, in the order of the names.
abbrev pub AreEarlier : (file : List ℕ) → Period → (current : List ℕ) → (names : List (List ℕ))
    → (texts : List (List ℕ)) → Type 0
AreEarlier file length current [] texts = texts ≡ []
AreEarlier file length current (name ∷ names) texts =
    (((text : List ℕ) → ¬ IsEarlier file length current name text)
    × AreEarlier file length current names texts)
    ⊎ ((text : List ℕ) × (rest : List (List ℕ)) × (texts ≡ text ∷ rest)
    × IsEarlier file length current name text × AreEarlier file length current names rest)

-- States that, if the file name `name` has a calendar period (such as `2026-10`) before `current`,
-- this period was appended to a list of periods.
abbrev pub AddsEarlier : (file : List ℕ) → Period → (current name : List ℕ)
    → (old new : List (List ℕ)) → Type 0
AddsEarlier file length current name old new =
    (((text : List ℕ) → ¬ IsEarlier file length current name text) × (new ≡ old))
    ⊎ ((text : List ℕ) × IsEarlier file length current name text × (new ≡ old ++ text ∷ []))

-- States that `texts` are the calendar periods (such as `2026-10`) before `current` in the given
-- file names, sorted by their bytes: the oldest first.
pub record ListsEarlier (file : List ℕ) (length : Period) (current : List ℕ)
    (names : List (List ℕ)) (texts : List (Vec ℕ Global)) : Type 0 where
  pub found : List (Vec ℕ Global)
  pub are_earlier : AreEarlier file length current names (texts_in found)
  pub reordered : IsPermutation found texts
  pub sorted : IsSorted bytes_cmp texts
