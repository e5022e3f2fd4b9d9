-- Lemmas: a search through all slots of HTTP connections, one by one, finds the idle connection
-- with the earliest deadline.
use Rattle.std.proofs.Common.{◌≡◌, ◌⊎◌, inl, inr, ℕ, ◌+◌, ◌<◌, ◌≤◌, zero, suc, nat_lt, Bool, true, false, cond, List, [], ◌∷◌, length, Option, Some, None, refl, sym, ap, ◌∙◌, subst, arith}
use Rattle.std.proofs.lemmas.Bool.{ltb-true, ltb-false}
use Rattle.std.specs.Option.{option_map}
use Rattle.std.specs.Prelude.{slice_get}
use borrow.Author.Count.{below_more}
use Rattle.run_schedule.specs.HttpClients.Places.{IsOldest, IsSilentAt, older}
use Rattle.run_schedule.specs.declared.http_clients.place.Place.{Place}
use Rattle.run_schedule.specs.declared.http_clients.place.Place.TheVariants.{Free, Silent, Asked}

abbrev pub OldestBelow : List Place → ℕ → Option (ℕ × ℕ) → Type 0
OldestBelow places i None = (k : ℕ) → k < i → (until : ℕ) → IsSilentAt places k until → ⊥
OldestBelow places i (Some best) =
    IsSilentAt places best.0 best.1 × ((k : ℕ) → k < i → (until : ℕ) → IsSilentAt places k until → best.1 ≤ until)

none_here : (places : List Place) (i : ℕ) (place : Place) → slice_get places i ≡ Some place
    → ((until : ℕ) → place ≡ Silent until → ⊥) → (until : ℕ) → IsSilentAt places i until → ⊥
none_here places i place is other until silent = other until (cc)

same_here : (places : List Place) (i u until : ℕ) → slice_get places i ≡ Some (Silent u) → IsSilentAt places i until → u ≡ until
same_here places i u until is silent = cc

on_none : (places : List Place) (i : ℕ) (place : Place) → slice_get places i ≡ Some place → ((until : ℕ) → place ≡ Silent until → ⊥)
    → OldestBelow places i None → OldestBelow places (i + 1) None
on_none places i place is other below =
    below_more (λ (k : ℕ). (until : ℕ) → IsSilentAt places k until → ⊥) i below (none_here places i place is other)

on_some : (places : List Place) (i : ℕ) (place : Place) (best : ℕ × ℕ) → slice_get places i ≡ Some place → ((until : ℕ) → place ≡ Silent until → ⊥)
    → OldestBelow places i (Some best) → OldestBelow places (i + 1) (Some best)
on_some places i place best is other below = (
  below.0,
  below_more (λ (k : ℕ). (until : ℕ) → IsSilentAt places k until → best.1 ≤ until) i below.1
      (λ until silent. absurd (none_here places i place is other until silent)),
)

on_first : (places : List Place) (i u : ℕ) → slice_get places i ≡ Some (Silent u) → OldestBelow places i None
    → OldestBelow places (i + 1) (Some (i, u))
on_first places i u is below = (
  is,
  below_more (λ (k : ℕ). (until : ℕ) → IsSilentAt places k until → u ≤ until) i (λ k h until silent. absurd (below k h until silent))
      (λ until silent. let same : u ≡ until = same_here places i u until is silent in omega (arith, same)),
)

on_less : (places : List Place) (i u : ℕ) (best : ℕ × ℕ) → slice_get places i ≡ Some (Silent u) → u < best.1
    → OldestBelow places i (Some best) → OldestBelow places (i + 1) (Some (i, u))
on_less places i u best is less below = (
  is,
  below_more (λ (k : ℕ). (until : ℕ) → IsSilentAt places k until → u ≤ until) i
      (λ k h until silent. let least : best.1 ≤ until = below.1 k h until silent in omega (arith, least, less))
      (λ until silent. let same : u ≡ until = same_here places i u until is silent in omega (arith, same)),
)

on_more : (places : List Place) (i u : ℕ) (best : ℕ × ℕ) → slice_get places i ≡ Some (Silent u) → best.1 ≤ u
    → OldestBelow places i (Some best) → OldestBelow places (i + 1) (Some best)
on_more places i u best is more below = (
  below.0,
  below_more (λ (k : ℕ). (until : ℕ) → IsSilentAt places k until → best.1 ≤ until) i below.1
      (λ until silent. let same : u ≡ until = same_here places i u until is silent in omega (arith, same, more)),
)

on_silent : (places : List Place) (i u : ℕ) (best : ℕ × ℕ) (less : Bool) → nat_lt u best.1 ≡ less → slice_get places i ≡ Some (Silent u)
    → OldestBelow places i (Some best) → OldestBelow places (i + 1) (cond less (Some (i, u)) (Some best))
on_silent places i u best true test is below = on_less places i u best is (ltb-true u best.1 test) below
on_silent places i u best false test is below = on_more places i u best is (ltb-false u best.1 test) below

pub one_more : (places : List Place) (i : ℕ) (best : Option (ℕ × ℕ)) (place : Place) → slice_get places i ≡ Some place
    → OldestBelow places i best → OldestBelow places (i + 1) (older best i place)
one_more places i None Free is below = on_none places i Free is (λ until same. cc) below
one_more places i None (Asked u) is below = on_none places i (Asked u) is (λ until same. cc) below
one_more places i None (Silent u) is below = on_first places i u is below
one_more places i (Some best) Free is below = on_some places i Free best is (λ until same. cc) below
one_more places i (Some best) (Asked u) is below = on_some places i (Asked u) best is (λ until same. cc) below
one_more places i (Some best) (Silent u) is below = on_silent places i u best (nat_lt u best.1) refl is below

there : (places : List Place) (i : ℕ) (place : Place) → slice_get places i ≡ Some place → i < length places
there [] i place is = absurd (cc)
there (one ∷ places) zero place is = omega arith
there (one ∷ places) (suc i) place is = let less : i < length places = there places i place is in omega (arith, less)

pub of_all : (places : List Place) (i : ℕ) (best : Option (ℕ × ℕ)) → length places ≤ i → OldestBelow places i best
    → IsOldest places (option_map (λ best. best.0) best)
of_all places i None all below = λ place until silent.
    let less : place < length places = there places place (Silent until) silent in below place (omega (arith, less, all)) until silent
of_all places i (Some best) all below = (
  best.1,
  below.0,
  λ other later silent.
      let less : other < length places = there places other (Silent later) silent in below.1 other (omega (arith, less, all)) later silent,
)
