-- Lemma: if the polling round in one slot (an index in the list of rounds) is replaced, then only
-- the round in this slot changes.
use Rattle.std.proofs.Common.{◌≡◌, ℕ, ◌<◌, ◌≤◌, zero, suc, List, [], ◌∷◌, length, set, get_or, Some, None, refl, ap, arith}
use Rattle.std.specs.Prelude.{slice_get}
use Rattle.office_program.specs.declared.device_rounds.round.Round.{Round}
use Rattle.office_program.specs.Driver.Turns.{at_place}

-- If the polling round in slot `place` (the index in the list of rounds) is replaced, then only the
-- round in this slot changes.
pub set_at_place : (rounds : List Round) (place : ℕ) (change : Round → Round) (d : Round) → place < length rounds
    → set rounds place (change (get_or rounds place d)) ≡ at_place place change rounds
set_at_place [] place change d h = absurd (omega arith)
set_at_place (round ∷ rounds) zero change d h = refl
set_at_place (round ∷ rounds) (suc place) change d h =
    let less : place < length rounds = omega (arith, h) in ap (λ xs. round ∷ xs) (set_at_place rounds place change d less)

-- If no polling round has the index `place`, then a change of the round with this index leaves the
-- list of polling rounds unchanged.
pub at_no_place : (rounds : List Round) (place : ℕ) (change : Round → Round) → length rounds ≤ place → at_place place change rounds ≡ rounds
at_no_place [] place change h = refl
at_no_place (round ∷ rounds) zero change h = absurd (omega (arith, h))
at_no_place (round ∷ rounds) (suc place) change h =
    let less : length rounds ≤ place = omega (arith, h) in ap (λ xs. round ∷ xs) (at_no_place rounds place change less)

pub found : (rounds : List Round) (place : ℕ) (d : Round) → place < length rounds → slice_get rounds place ≡ Some (get_or rounds place d)
found [] place d h = absurd (omega arith)
found (round ∷ rounds) zero d h = refl
found (round ∷ rounds) (suc place) d h = let less : place < length rounds = omega (arith, h) in found rounds place d less

pub not_found : (rounds : List Round) (place : ℕ) → length rounds ≤ place → slice_get rounds place ≡ None
not_found [] place h = refl
not_found (round ∷ rounds) zero h = absurd (omega (arith, h))
not_found (round ∷ rounds) (suc place) h = let less : length rounds ≤ place = omega (arith, h) in not_found rounds place less
