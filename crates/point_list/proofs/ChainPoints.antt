-- Lemmas: each point of a SunSpec model comes from a row of the model's table, and rows with
-- distinct names give points with distinct names.
use Rattle.std.proofs.Common.{◌≡◌, ◌≢◌, ◌+◌, ◌≤◌, ◌∙◌, ℕ, zero, suc, Bool, true, false, List, [], ◌∷◌, Some, None, Option, filter_map, refl, arith}
use Rattle.std.specs.Prelude.{◌&&◌, nat_le, not}
use Rattle.std.specs.List.{All, AllPairs, list_all}
use Rattle.std.specs.Str.{bytes_eq}
use Rattle.std.proofs.lemmas.List.Elements.{All-cons}
use Rattle.std.proofs.lemmas.Slice.Eq.{bytes_eq-Decides}
use Rattle.sun_points.specs.PointType.{registers_of}
use Rattle.sun_points.specs.Point.{Value}
use Rattle.sun_chain.specs.Image.{Words}
use Rattle.sun_chain.specs.Points.{point_in, value_in}
use Rattle.sun_chain.specs.Points.{Named as ModelPoint}
use Rattle.sun_chain.specs.Tables.{Row}
use Rattle.sun_chain.specs.declared.model.Model.{Model}
use Rattle.point_list.proofs.ChainTables.{have_other_names}

-- True if the point comes from a row of a SunSpec model table that passes a test, and has all of
-- its registers in the model.
pub record FromRow (test : Row → Bool) (model : Model) (point : ModelPoint) : Type 0 where
  pub row : Row
  pub passes : test row ≡ true
  pub name : point.name ≡ row.name
  pub address : point.address ≡ model.address + row.offset
  pub kind : point.ty ≡ row.ty
  pub inside : row.offset + registers_of row.ty ≤ 2 + model.length

inside-model : (word : Words) (model : Model) (row : Row) (value : Value) → value_in word model row ≡ Some value → row.offset + registers_of row.ty ≤ 2 + model.length
inside-model word model row value h = by (nat_le (row.offset + registers_of row.ty) (2 + model.length)) refl
  where
    by : (b : Bool) → nat_le (row.offset + registers_of row.ty) (2 + model.length) ≡ b → row.offset + registers_of row.ty ≤ 2 + model.length
    by true e = grind (arith, e)
    by false e = absurd (cc (rw e at h))

row-first : (a b : Bool) → (a && b) ≡ true → (a ≡ true) × (b ≡ true)
row-first true b h = (refl, h)
row-first false b h = absurd (cc h)

-- Each point that is listed from rows of a SunSpec model table comes from one of these rows.
pub from-rows : (test : Row → Bool) (word : Words) (model : Model) (rows : List Row) → list_all test rows ≡ true → All (FromRow test model) (filter_map (point_in word model) rows)
from-rows test word model [] h = λ k d below. absurd (omega (arith, below))
from-rows test word model (row ∷ rows) h = by (value_in word model row) refl (from-rows test word model rows (row-first (test row) (list_all test rows) h).1)
  where
    by : (o : Option Value) → value_in word model row ≡ o → All (FromRow test model) (filter_map (point_in word model) rows) → All (FromRow test model) (filter_map (point_in word model) (row ∷ rows))
    by None e rest = rw e rest
    by (Some value) e rest =
        rw e (All-cons (FromRow test model) _ (filter_map (point_in word model) rows)
        (record { row = row; passes = (row-first (test row) (list_all test rows) h).0; name = refl; address = refl; kind = refl; inside = inside-model word model row value e }) rest)

pub pairs-cons : {X : Type 0} (R : X → X → Type 0) (p : X) (ps : List X) → All (R p) ps → AllPairs R ps → AllPairs R (p ∷ ps)
pairs-cons R p ps first rest zero zero d before below = absurd (omega (arith, before))
pairs-cons R p ps first rest zero (suc j) d before below = first j d (omega (arith, below))
pairs-cons R p ps first rest (suc i) zero d before below = absurd (omega (arith, before))
pairs-cons R p ps first rest (suc i) (suc j) d before below = rest i j d (omega (arith, before)) (omega (arith, below))

not-same : (a b : List ℕ) → not (bytes_eq a b) ≡ true → a ≢ b
not-same a b h same = let e = (bytes_eq-Decides a b).1 same in absurd (cc (rw e at h))

-- Rows of a SunSpec model table with distinct names give points with distinct names.
pub other-names : (word : Words) (model : Model) (rows : List Row) → have_other_names rows ≡ true → AllPairs (λ a b. a.name ≢ b.name) (filter_map (point_in word model) rows)
other-names word model [] h = λ i j d before below. absurd (omega (arith, below))
other-names word model (row ∷ rows) h = by (value_in word model row) refl (other-names word model rows parts.1) (from-rows (λ other. not (bytes_eq row.name other.name)) word model rows parts.0)
  where
    parts : (list_all (λ other. not (bytes_eq row.name other.name)) rows ≡ true) × (have_other_names rows ≡ true)
    parts = row-first _ _ h

    by : (o : Option Value) → value_in word model row ≡ o → AllPairs (λ a b. a.name ≢ b.name) (filter_map (point_in word model) rows)
        → All (FromRow (λ other. not (bytes_eq row.name other.name)) model) (filter_map (point_in word model) rows)
        → AllPairs (λ a b. a.name ≢ b.name) (filter_map (point_in word model) (row ∷ rows))
    by None e rest from = rw e rest
    by (Some value) e rest from =
        rw e (pairs-cons (λ a b. a.name ≢ b.name) _ (filter_map (point_in word model) rows)
        (λ k d below. let f = from k d below in λ same. not-same row.name f.row.name f.passes (same ∙ f.name)) rest)
