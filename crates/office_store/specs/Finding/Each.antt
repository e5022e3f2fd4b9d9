-- Defines when a relation holds between the elements of two lists at each index, such as a table's
-- rows and the values read from them.
use Rattle.std.specs.Prelude.{List, [], ◌∷◌}

-- True if two lists have the same length, and the relation `Is` holds between their elements at
-- each index.
abbrev pub AreEach : {X A : Type 0} → (Is : X → A → Type 0) → List X → List A → Type 0
AreEach Is [] [] = Unit {0}
AreEach Is [] (v ∷ vs) = ⊥
AreEach Is (x ∷ xs) [] = ⊥
AreEach Is (x ∷ xs) (v ∷ vs) = Is x v × AreEach Is xs vs
