-- Checks the definition of a plan of Modbus reads by examples: two plans, and reads with the least
-- and the greatest number of registers.
use native.Mathlib.Omega.{arith}
use Rattle.std.proofs.Common.{◌≡◌, ℕ, zero, suc, ◌<◌, ◌≤◌, List, [], ◌∷◌, get_or, take, refl, ap, inl, inr}
use Rattle.std.specs.List.{All, AllPairs}
use Rattle.mb_wire.specs.declared.span.ReadFunction.TheVariants.{HoldingRegisters}
use Rattle.read_plan.specs.declared.run.Run.{Run}
use Rattle.read_plan.specs.Plans.{SameArea, Holds, IsContained, IsReadable, LiesWithinReach, ComesBefore, BeginsAtFirstUnheld, EndsAtLastInReach, FollowsRule}

-- An example range of holding registers from `first` to before `end`, in area 0. Points of
-- different areas are never in one Modbus read.
abbrev run : (first end : ℕ) → Run
run first end = record { function = HoldingRegisters; area = 0; first = first; end = end }

alike : (a b c d : ℕ) → SameArea (run a b) (run c d)
alike a b c d = record { function = refl; area = refl }

-- Examples: a read of 125 registers is valid, and reads of 126 or 0 registers are invalid.

most_registers : IsReadable (run 0 125)
most_registers = (omega arith, omega arith)

too_many_registers : IsReadable (run 0 126) → ⊥
too_many_registers readable = omega (arith, readable.1)

no_registers : IsReadable (run 7 7) → ⊥
no_registers readable = omega (arith, readable.0)

just_in_reach : LiesWithinReach (run 0 2) (run 124 125)
just_in_reach = record { same_area = alike 0 2 124 125; from_first = omega arith; in_reach = omega arith }

just_beyond_reach : LiesWithinReach (run 0 2) (run 124 126) → ⊥
just_beyond_reach reach = omega (arith, reach.in_reach)

-- The plan for the register ranges [0, 2), [124, 125) and [125, 126): one read of 125 registers,
-- and one read of the last register.

abbrev three : List Run
three = run 0 2 ∷ run 124 125 ∷ run 125 126 ∷ []

abbrev three_reads : List Run
three_reads = run 0 125 ∷ run 125 126 ∷ []

three_ordered : AllPairs ComesBefore three_reads
three_ordered zero zero d less below = absurd (omega (arith, less))
three_ordered zero (suc zero) d less below = inr (inr (alike 0 125 125 126, omega arith))
three_ordered zero (suc (suc j)) d less below = absurd (omega (arith, below))
three_ordered (suc k) j d less below = absurd (omega (arith, less, below))

last_not_held : (k : ℕ) (read : Run) → k < 1 → get_or (run 0 125 ∷ []) k read ≡ read → Holds read (run 125 126) → ⊥
last_not_held zero read below is holds = omega (arith, holds.to_end, ap (λ (r : Run). r.end) is)
last_not_held (suc k) read below is holds = omega (arith, below)

three_held_before : All (λ item. SameArea (run 125 126) item → item.first < 125 → IsContained (run 0 125 ∷ []) item) three
three_held_before zero d below same less =
    (0, run 0 125, omega arith, refl, record { same_area = alike 0 125 0 2; from_first = omega arith; to_end = omega arith })
three_held_before (suc zero) d below same less =
    (0, run 0 125, omega arith, refl, record { same_area = alike 0 125 124 125; from_first = omega arith; to_end = omega arith })
three_held_before (suc (suc zero)) d below same less = absurd (omega (arith, less))
three_held_before (suc (suc (suc k))) d below same less = absurd (omega (arith, below))

three_begins : (k : ℕ) (d : Run) → k < 2 → BeginsAtFirstUnheld three (take k three_reads) (get_or three_reads k d)
three_begins zero d below =
    record {
      at_item = (0, run 0 2, omega arith, refl, (alike 0 125 0 2, refl, λ w. omega (arith, w.2)));
      first = λ k e lt same less. absurd (omega (arith, less));
    }
three_begins (suc zero) d below =
    record {
      at_item = (2, run 125 126, omega arith, refl, (alike 125 126 125 126, refl, λ w. last_not_held w.0 w.1 w.2 w.3 w.4));
      first = three_held_before;
    }
three_begins (suc (suc k)) d below = absurd (omega (arith, below))

three_last : All (λ item. LiesWithinReach (run 0 125) item → item.end ≤ 125) three
three_last zero d below reach = omega arith
three_last (suc zero) d below reach = omega arith
three_last (suc (suc zero)) d below reach = absurd (omega (arith, reach.in_reach))
three_last (suc (suc (suc k))) d below reach = absurd (omega (arith, below))

three_last_of_last : All (λ item. LiesWithinReach (run 125 126) item → item.end ≤ 126) three
three_last_of_last zero d below reach = omega arith
three_last_of_last (suc zero) d below reach = omega arith
three_last_of_last (suc (suc zero)) d below reach = omega arith
three_last_of_last (suc (suc (suc k))) d below reach = absurd (omega (arith, below))

three_ends : All (EndsAtLastInReach three) three_reads
three_ends zero d below =
    record {
      at_item = (1, run 124 125, omega arith, refl, (record { same_area = alike 0 125 124 125; from_first = omega arith; in_reach = omega arith }, refl));
      last = three_last;
    }
three_ends (suc zero) d below =
    record {
      at_item = (2, run 125 126, omega arith, refl, (record { same_area = alike 125 126 125 126; from_first = omega arith; in_reach = omega arith }, refl));
      last = three_last_of_last;
    }
three_ends (suc (suc k)) d below = absurd (omega (arith, below))

three_contained : All (IsContained three_reads) three
three_contained zero d below =
    (0, run 0 125, omega arith, refl, record { same_area = alike 0 125 0 2; from_first = omega arith; to_end = omega arith })
three_contained (suc zero) d below =
    (0, run 0 125, omega arith, refl, record { same_area = alike 0 125 124 125; from_first = omega arith; to_end = omega arith })
three_contained (suc (suc zero)) d below =
    (1, run 125 126, omega arith, refl, record { same_area = alike 125 126 125 126; from_first = omega arith; to_end = omega arith })
three_contained (suc (suc (suc k))) d below = absurd (omega (arith, below))

three_items_two_reads : FollowsRule three three_reads
three_items_two_reads = record { ordered = three_ordered; begins = three_begins; ends = three_ends; contained = three_contained }

-- The plan for the register ranges [0, 2) and [124, 126): two reads of two registers.

abbrev two : List Run
two = run 0 2 ∷ run 124 126 ∷ []

two_ordered : AllPairs ComesBefore two
two_ordered zero zero d less below = absurd (omega (arith, less))
two_ordered zero (suc zero) d less below = inr (inr (alike 0 2 124 126, omega arith))
two_ordered zero (suc (suc j)) d less below = absurd (omega (arith, below))
two_ordered (suc k) j d less below = absurd (omega (arith, less, below))

second_not_held : (k : ℕ) (read : Run) → k < 1 → get_or (run 0 2 ∷ []) k read ≡ read → Holds read (run 124 126) → ⊥
second_not_held zero read below is holds = omega (arith, holds.to_end, ap (λ (r : Run). r.end) is)
second_not_held (suc k) read below is holds = omega (arith, below)

two_held_before : All (λ item. SameArea (run 124 126) item → item.first < 124 → IsContained (run 0 2 ∷ []) item) two
two_held_before zero d below same less =
    (0, run 0 2, omega arith, refl, record { same_area = alike 0 2 0 2; from_first = omega arith; to_end = omega arith })
two_held_before (suc zero) d below same less = absurd (omega (arith, less))
two_held_before (suc (suc k)) d below same less = absurd (omega (arith, below))

two_begins : (k : ℕ) (d : Run) → k < 2 → BeginsAtFirstUnheld two (take k two) (get_or two k d)
two_begins zero d below =
    record {
      at_item = (0, run 0 2, omega arith, refl, (alike 0 2 0 2, refl, λ w. omega (arith, w.2)));
      first = λ k e lt same less. absurd (omega (arith, less));
    }
two_begins (suc zero) d below =
    record {
      at_item = (1, run 124 126, omega arith, refl, (alike 124 126 124 126, refl, λ w. second_not_held w.0 w.1 w.2 w.3 w.4));
      first = two_held_before;
    }
two_begins (suc (suc k)) d below = absurd (omega (arith, below))

two_last : All (λ item. LiesWithinReach (run 0 2) item → item.end ≤ 2) two
two_last zero d below reach = omega arith
two_last (suc zero) d below reach = absurd (omega (arith, reach.in_reach))
two_last (suc (suc k)) d below reach = absurd (omega (arith, below))

two_last_of_last : All (λ item. LiesWithinReach (run 124 126) item → item.end ≤ 126) two
two_last_of_last zero d below reach = omega arith
two_last_of_last (suc zero) d below reach = omega arith
two_last_of_last (suc (suc k)) d below reach = absurd (omega (arith, below))

two_ends : All (EndsAtLastInReach two) two
two_ends zero d below =
    record {
      at_item = (0, run 0 2, omega arith, refl, (record { same_area = alike 0 2 0 2; from_first = omega arith; in_reach = omega arith }, refl));
      last = two_last;
    }
two_ends (suc zero) d below =
    record {
      at_item = (1, run 124 126, omega arith, refl, (record { same_area = alike 124 126 124 126; from_first = omega arith; in_reach = omega arith }, refl));
      last = two_last_of_last;
    }
two_ends (suc (suc k)) d below = absurd (omega (arith, below))

two_contained : All (IsContained two) two
two_contained zero d below =
    (0, run 0 2, omega arith, refl, record { same_area = alike 0 2 0 2; from_first = omega arith; to_end = omega arith })
two_contained (suc zero) d below =
    (1, run 124 126, omega arith, refl, record { same_area = alike 124 126 124 126; from_first = omega arith; to_end = omega arith })
two_contained (suc (suc k)) d below = absurd (omega (arith, below))

two_items_two_reads : FollowsRule two two
two_items_two_reads = record { ordered = two_ordered; begins = two_begins; ends = two_ends; contained = two_contained }
