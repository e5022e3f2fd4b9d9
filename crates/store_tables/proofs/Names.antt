-- Proofs that comparing two lists of table names, name by name, decides whether the lists are
-- equal.
use Rattle.std.proofs.Common.{◌≡◌, inl, inr, ◌<◌, ◌+◌, ℕ, suc, List, [], ◌∷◌, ◌++◌, map, take, length, get_or, slice_get, option_map, Option, Some, true, false, not, Bor, bytes_eq, sym, ap, ◌∙◌, arith}
use Rattle.std.proofs.lemmas.Bool.{cases_Bool}
use Rattle.std.proofs.lemmas.Option.{slice_get-get_or, slice_get-map, get_or_from_slice_get}
use Rattle.std.proofs.lemmas.List.{length-map}
use Rattle.std.proofs.lemmas.Slice.Eq.{bytes_eq-Decides}
use Rattle.std.proofs.Math.Seq.{take-suc}
use Rattle.sqlite.specs.Table.{Table}

one : {X : Type 0} {x y : X} → ◌≡◌ {A = Option X} (Some x) (Some y) → x ≡ y
one e = cc

same : (x y : List ℕ) → bytes_eq x y ≡ true → x ≡ y
same x y e = (bytes_eq-Decides x y).0 e

other : (x y : List ℕ) → bytes_eq x y ≡ false → x ≡ y → ⊥
other x y e is = absurd (let f : false ≡ true = sym e ∙ (bytes_eq-Decides x y).1 is in cc)

taken : {X : Type 0} (xs : List X) (i : ℕ) (x : X) → slice_get xs i ≡ Some x → i < length xs → take (i + 1) xs ≡ take i xs ++ x ∷ []
taken xs i x is low = let e : suc i ≡ i + 1 = omega arith in ap (λ n. take n xs) (sym e) ∙ (take-suc xs i x low ∙ ap (λ y. take i xs ++ y ∷ []) (get_or_from_slice_get xs i x x is))

module _ (tables : List Table) (names : List (Bor (List ℕ))) where
  abbrev ours : List (List ℕ)
  ours = map (λ (t : Table). t.name) tables

  abbrev wanted : List (List ℕ)
  wanted = map (λ (name : Bor (List ℕ)). name.now) names

  name_at : (i : ℕ) (t : Table) (x : List ℕ) → i < length tables → t ≡ get_or tables i t → x ≡ t.name → slice_get ours i ≡ Some x
  name_at i t x low is e = slice_get-map (λ (t : Table). t.name) tables i ∙ (ap (option_map (λ (t : Table). t.name)) (slice_get-get_or tables i t low) ∙ ap Some (sym (e ∙ ap (λ (t : Table). t.name) is)))

  text_at : (i : ℕ) (d : Bor (List ℕ)) (y : List ℕ) → i < length names → y ≡ (get_or names i d).now → slice_get wanted i ≡ Some y
  text_at i d y low e = slice_get-map (λ (name : Bor (List ℕ)). name.now) names i ∙ (ap (option_map (λ (name : Bor (List ℕ)). name.now)) (slice_get-get_or names i d low) ∙ ap Some (sym e))

  module _ (i : ℕ) (t : Table) (d : Bor (List ℕ)) (x y : List ℕ) (low : i < length tables) (many : length tables ≡ length names) (is : t ≡ get_or tables i t) (x_is : x ≡ t.name) (y_is : y ≡ (get_or names i d).now) where
    pub apart : true ≡ not (bytes_eq x y) → ours ≡ wanted → ⊥
    apart differ all =
        let equal : x ≡ y = one (sym (name_at i t x low is x_is) ∙ (ap (λ xs. slice_get xs i) all ∙ text_at i d y (omega (arith, many)) y_is)) in
        elim (cases_Bool (bytes_eq x y)) [
          | inl equals ↦ absurd (let e : true ≡ not true = differ ∙ ap not equals in cc)
          | inr differs ↦ other x y differs equal
        ]

    pub agree : false ≡ not (bytes_eq x y) → take i ours ≡ take i wanted → take (i + 1) ours ≡ take (i + 1) wanted
    agree differ so_far =
        let equal : bytes_eq x y ≡ true = elim (cases_Bool (bytes_eq x y)) [ inl equals ↦ equals | inr differs ↦ absurd (let e : false ≡ not false = differ ∙ ap not differs in cc) ] in
        taken ours i x (name_at i t x low is x_is) (omega (arith, length-map tables (λ (t : Table). t.name))) ∙ (ap (λ xs. xs ++ x ∷ []) so_far ∙ (ap (λ z. take i wanted ++ z ∷ []) (same x y equal)
        ∙ sym (taken wanted i y (text_at i d y (omega (arith, many)) y_is) (omega (arith, many, length-map names (λ (name : Bor (List ℕ)). name.now))))))
