-- Proves that a search of the program's model tables has the same result as a search of the tables
-- that the contracts define.
use Rattle.std.proofs.Common.{◌≡◌, ◌∙◌, ℕ, Bool, true, false, Some, None, Option, List, [], ◌∷◌, map, refl, sym, ap, option_map}
use Rattle.std.specs.Prelude.{◌==◌, find}
use Rattle.std.specs.Option.{option_and_then}
use Rattle.std.specs.Str.{bytes_eq}
use Rattle.sun_chain.specs.declared.tables.Entry.{Entry}
use Rattle.sun_chain.specs.Tables.{Row, name_at_in, row_of, scale_name_in, scale_offset_in}

pub find-map : {X Y : Type 0} (p : Y → Bool) (f : X → Y) (xs : List X) → find p (map f xs) ≡ option_map f (find (λ x. p (f x)) xs)
find-map p f [] = refl
find-map p f (x ∷ xs) = by (p (f x)) refl (find-map p f xs)
  where
    by : (b : Bool) → p (f x) ≡ b → find p (map f xs) ≡ option_map f (find (λ x. p (f x)) xs) → find p (map f (x ∷ xs)) ≡ option_map f (find (λ x. p (f x)) (x ∷ xs))
    by true e rest = rw e refl
    by false e rest = rw e rest

-- If `found` is the first entry with a name in the program's table, the contracts' table has the
-- same scale offset for that name.
pub offset-found : (entries : List Entry) (name : List ℕ) (found : Option Entry) → found ≡ find (λ entry. bytes_eq entry.name.now name) entries
    → scale_offset_in (map row_of entries) name ≡ option_and_then (λ entry. entry.scale) found
offset-found entries name None is = rw (find-map (λ (r : Row). bytes_eq r.name name) row_of entries, ← is) refl
offset-found entries name (Some entry) is = rw (find-map (λ (r : Row). bytes_eq r.name name) row_of entries, ← is) refl

pub name-found : (entries : List Entry) (offset : ℕ) (found : Option Entry) → found ≡ find (λ entry. entry.offset == offset) entries
    → name_at_in (map row_of entries) offset ≡ option_map (λ entry. entry.name.now) found
name-found entries offset None is = rw (find-map (λ (r : Row). r.offset == offset) row_of entries, ← is) refl
name-found entries offset (Some entry) is = rw (find-map (λ (r : Row). r.offset == offset) row_of entries, ← is) refl

pub scale-found : (entries : List Entry) (rows : List Row) (name : List ℕ) (found : Option Entry) → map row_of entries ≡ rows
    → found ≡ find (λ entry. bytes_eq entry.name.now name) entries → option_and_then (name_at_in (map row_of entries)) (option_and_then (λ entry. entry.scale) found) ≡ scale_name_in rows name
scale-found entries rows name found are is =
    ap (option_and_then (name_at_in (map row_of entries))) (sym (offset-found entries name found is)) ∙ ap (λ (some : List Row). scale_name_in some name) are
