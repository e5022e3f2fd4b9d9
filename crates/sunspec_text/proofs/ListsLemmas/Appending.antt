-- Lemmas about a writer that receives several texts, one after another: it received the
-- concatenation of the texts.
use Rattle.std.proofs.Common.{◌≡◌, ◌+◌, ◌<◌, ℕ, Option, Some, None, List, [], ◌++◌, length, take, get_or, sym, ◌∙◌, ap, append_assoc, append-nil, arith}
use Rattle.std.specs.List.{flat_map}
use Rattle.std.specs.Prelude.{Ok, Err, OnOk}
use Rattle.std.specs.declared.result.Result.{Result}
use Rattle.std.specs.Io.KnownBytes.{Appends}
use Rattle.std.proofs.lemmas.Grind.{common_steps}

pub appends_both : (a b c : Option (List ℕ)) (x y z : List ℕ) → Appends a b x → Appends b c y → x ++ y ≡ z → Appends a c z
appends_both None b c x y z first second joined = tt
appends_both (Some xs) None c x y z first second joined = absurd first
appends_both (Some xs) (Some ys) None x y z first second joined = absurd second
appends_both (Some xs) (Some ys) (Some zs) x y z first second joined =
    second ∙ ap (λ (front : List ℕ). front ++ y) first ∙ append_assoc xs x y ∙ ap (λ (more : List ℕ). xs ++ more) joined

pub appends_nothing : (old : Option (List ℕ)) → Appends old old []
appends_nothing None = tt
appends_nothing (Some xs) = sym (append-nil xs)

one_more : {X : Type 0} (f : X → List ℕ) (xs : List X) (i : ℕ) (d : X) → i < length xs → flat_map f (take i xs) ++ f (get_or xs i d) ≡ flat_map f (take (i + 1) xs)
one_more f xs i d inside = grind (arith, common_steps)

-- A writer that received the texts of the first `i` items, and then of item `i`, has received the
-- texts of the first `i + 1` items.
pub appends_next : {X : Type 0} (f : X → List ℕ) (xs : List X) (i : ℕ) (d : X) (a b c : Option (List ℕ)) → i < length xs
    → Appends a b (flat_map f (take i xs)) → Appends b c (f (get_or xs i d)) → Appends a c (flat_map f (take (i + 1) xs))
appends_next f xs i d a b c inside first second = appends_both a b c _ _ _ first second (one_more f xs i d inside)

-- If a writer received the text `x` and then a successful call wrote the text `y`, then the writer
-- received `x ++ y`.
pub appends_before : {E : Type 0} (written : Result (Unit {0}) E) (a b c : Option (List ℕ)) (x y z : List ℕ) → Appends a b x → OnOk written (Appends b c y) → x ++ y ≡ z
    → OnOk written (Appends a c z)
appends_before (Ok done) a b c x y z first second joined = appends_both a b c x y z first second joined
appends_before (Err e) a b c x y z first second joined = tt

pub appends_this : (old new : Option (List ℕ)) (x y : List ℕ) → x ≡ y → Appends old new x → Appends old new y
appends_this old new x y same written = rw same at written
