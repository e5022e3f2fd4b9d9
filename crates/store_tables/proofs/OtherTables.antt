-- Proofs that a write to one table leaves the other tables unchanged.
use Rattle.std.proofs.Common.{◌≡◌, ◌≢◌, ◌⊎◌, inl, inr, ℕ, ℤ, List, [], map, flat_map, length, ◌==◌, Bool, true, false, cond, Ok, Err, Result, refl, sym, ap, subst, ◌∙◌, IsPermutation}
use Rattle.std.specs.List.{filter_map}
use Rattle.std.proofs.lemmas.List.Sorted.{IsPermutation-refl}
use Rattle.sqlite.specs.declared.types.Value.{Value}
use Rattle.sqlite.specs.declared.types.Value.TheVariants.{Null, Int}
use Rattle.sqlite.specs.Order.{Row}
use Rattle.sqlite.specs.Ops.{unary}
use Rattle.sqlite.specs.Kind.TheVariants.{Integer}
use Rattle.sqlite.specs.Cast.{cast}
use Rattle.sqlite.specs.Table.{Table}
use Rattle.sqlite.specs.Schema.{Schema}
use Rattle.sqlite.specs.Tree.{rowid}
use Rattle.sqlite.specs.Effect.{Database, IsDatabase}
use Rattle.sqlite_schema.specs.declared.schema.Keys.TheVariants.{Enforced}
use Rattle.sqlite_schema.specs.declared.schema.Reference.{Reference}
use Rattle.sqlite_schema.specs.Rules.{parent_key}
use Rattle.sqlite_rules.specs.Action.{works, work_by, pairs, deed_for}
use Rattle.store_tables.specs.Schema.{books_schema}
use Rattle.store_tables.specs.Content.{HasTree, AreApart, Edits, id_of, is_numbered, reported, with_rows}
use Rattle.store_tables.specs.Steps.{TurnsIn}
use Rattle.store_tables.proofs.Frames.{framed, framed_apart, with_here, with_others}
use Rattle.store_tables.proofs.Laid.{IsLaid, laid_from, laid_reported}

either : (b : Bool) (x : Value) → cond b x x ≡ x
either true x = refl
either false x = refl

pub cast_int : (n : ℤ) → cast Integer (Int n) ≡ Int n
unfolding unary
cast_int n = either _ (Int n)

pub cast_null : cast Integer Null ≡ Null
unfolding unary
cast_null = either _ Null

-- Casting a rowid to INTEGER leaves the rowid unchanged.
pub rowid_stays : (r : Row) → rowid r ≡ Int (id_of r) → cast Integer (rowid r) ≡ rowid r
rowid_stays r keyed = ap (cast Integer) keyed ∙ (cast_int (id_of r) ∙ sym keyed)

pub went : {B E R : Type 0} {b : B} {Stops : E → Type 0} → ((stop : E) × Stops stop × (Ok b ≡ Err stop)) ⊎ R → R
went (inl stopped) = absurd (let e = stopped.2 in cc)
went (inr on) = on

pub same_value : {B E : Type 0} {a b : B} → ◌≡◌ {A = Result B E} (Ok a) (Ok b) → a ≡ b
same_value e = cc

-- No foreign key of the store changes rows when a parent row is updated or deleted.
acts_not : (k : ℕ) (deletes : Bool) (olds news : List Row)
    → flat_map (λ (child : Table). filter_map (λ (ref : Reference). work_by 0 k (pairs olds news) child ref (deed_for Enforced deletes ref) (parent_key books_schema.tables ref)) child.references) books_schema.tables ≡ []
acts_not k true olds news = refl
acts_not k false olds news = refl

pub nothing_acts : (k : ℕ) (olds news : List Row) → works books_schema Enforced 0 k olds news ≡ []
nothing_acts k olds news = acts_not k (length news == 0) olds news

-- True if the databases `old` and `new` differ only in the rows of the table with the number `k`.
pub record Rewrites (form : Schema) (k : ℕ) (old new : Database) : Type 0 where
  pub schema : new.schema ≡ form
  pub sound : IsDatabase new
  pub apart : AreApart (old.trees k) → AreApart (new.trees k)
  pub others : (t : ℕ) → HasTree form.tables t → t ≢ k → new.trees t ≡ old.trees t

pub turns : {X : Type 0} (form : Schema) (k : ℕ) (columns : X → Row) (edit : List X → List X) (old new : Database) → HasTree form.tables k → Rewrites form k old new
    → (AreApart (old.trees k) → (xs : List X) → IsLaid (is_numbered k) columns (old.trees k) xs → IsLaid (is_numbered k) columns (new.trees k) (edit xs)) → TurnsIn form (Edits k columns edit) old new
turns form k columns edit old new there rewrites lays content has =
    let here = map (reported (is_numbered k)) (new.trees k) in
    let apart = has.apart k there in (
      with_rows k here content,
      record {
        rows = λ xs of. subst (IsPermutation (map columns (edit xs))) (sym (with_here k here content))
            (laid_reported (is_numbered k) columns (new.trees k) (edit xs) (lays apart xs (laid_from (is_numbered k) columns (old.trees k) (content k) xs apart.keyed (has.rows k there) of)));
        others = with_others k here content;
      },
      record {
        schema = rewrites.schema;
        rows = framed form k old.trees new.trees here content rewrites.others (IsPermutation-refl here) has.rows;
        apart = framed_apart form k old.trees new.trees rewrites.others (rewrites.apart apart) has.apart;
        sound = rewrites.sound;
      },
    )
