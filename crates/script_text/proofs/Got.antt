-- Lemmas: if texts are written one after another and the last write may fail, the writer received a
-- beginning of their concatenation.
use Rattle.std.proofs.Common.{◌≡◌, ◌<◌, ℕ, zero, suc, Option, Some, None, List, [], ◌∷◌, ◌++◌, length, take, drop, get_or, refl, sym, ◌∙◌, ap, append_assoc, arith}
use Rattle.std.specs.List.{flat_map}
use Rattle.std.specs.Prelude.{Ok, Err, IsErr, OnOk}
use Rattle.std.specs.declared.result.Result.{Result}
use Rattle.std.specs.Io.KnownBytes.{Appends}
use Rattle.sun_points.specs.Writing.{GotPart, GotText}

pub appends_both : (a b c : Option (List ℕ)) (x y z : List ℕ) → Appends a b x → Appends b c y → x ++ y ≡ z → Appends a c z
appends_both None b c x y z first second joined = tt
appends_both (Some xs) None c x y z first second joined = absurd first
appends_both (Some xs) (Some ys) None x y z first second joined = absurd second
appends_both (Some xs) (Some ys) (Some zs) x y z first second joined =
    second ∙ ap (λ (front : List ℕ). front ++ y) first ∙ append_assoc xs x y ∙ ap (λ (more : List ℕ). xs ++ more) joined

pub part_after : (a b c : Option (List ℕ)) (x y z : List ℕ) → Appends a b x → GotPart y b c → x ++ y ≡ z → GotPart z a c
part_after a b c x y z first second joined = (
  x ++ second.0,
  second.1,
  sym joined ∙ ap (λ (more : List ℕ). x ++ more) second.2 ∙ sym (append_assoc x second.0 second.1),
  appends_both a b c x second.0 (x ++ second.0) first second.3 refl,
)

-- If a writer received a first text completely and then a second text completely or in part, it
-- received their concatenation completely or in part.
pub got_both : {X E : Type 0} (result : Result X E) (a b c : Option (List ℕ)) (x y z : List ℕ) → Appends a b x → GotText result y b c → x ++ y ≡ z
    → GotText result z a c
got_both (Ok done) a b c x y z first second joined = appends_both a b c x y z first second joined
got_both (Err error) a b c x y z first second joined = part_after a b c x y z first second joined

-- If the write of the first of two texts failed, the writer received a beginning of the two texts'
-- concatenation.
pub got_first : {X E : Type 0} (result : Result X E) (a b : Option (List ℕ)) (x y z : List ℕ) → IsErr result → GotPart x a b → x ++ y ≡ z → GotText result z a b
got_first (Ok done) a b x y z failed first joined = cc failed
got_first (Err error) a b x y z failed first joined =
    (first.0, first.1 ++ y, sym joined ∙ ap (λ (front : List ℕ). front ++ y) first.2 ∙ append_assoc first.0 first.1 y, first.3)

all_of : {X : Type 0} (f : X → List ℕ) (xs : List X) (i : ℕ) (d : X) → i < length xs
    → flat_map f (take i xs) ++ (f (get_or xs i d) ++ flat_map f (drop (suc i) xs)) ≡ flat_map f xs
all_of f [] i d inside = absurd (omega arith)
all_of f (x ∷ xs) zero d inside = refl
all_of f (x ∷ xs) (suc i) d inside =
    append_assoc (f x) (flat_map f (take i xs)) (f (get_or xs i d) ++ flat_map f (drop (suc i) xs))
    ∙ ap (λ (more : List ℕ). f x ++ more) (all_of f xs i d (omega arith))

-- If items are written in order and the write of item `i` failed, the writer received a beginning
-- of the text of all items.
pub got_some : {X Y E : Type 0} (f : X → List ℕ) (xs : List X) (i : ℕ) (x : X) (result : Result Y E) (a b c : Option (List ℕ)) → i < length xs
    → x ≡ get_or xs i x → IsErr result → Appends a b (flat_map f (take i xs)) → GotPart (f x) b c → GotText result (flat_map f xs) a c
got_some f xs i x result a b c inside is failed first second =
    let rest = flat_map f (drop (suc i) xs) in
    let next : f x ++ rest ≡ f (get_or xs i x) ++ rest = ap (λ (item : _). f item ++ rest) is in
    got_first result a c (flat_map f (take i xs) ++ f x) rest (flat_map f xs) failed (part_after a b c (flat_map f (take i xs)) (f x) _ first second refl)
    (append_assoc (flat_map f (take i xs)) (f x) rest ∙ ap (λ (more : List ℕ). flat_map f (take i xs) ++ more) next ∙ all_of f xs i x inside)

same_inside : {X : Type 0} (xs : List X) (i : ℕ) (d e : X) → i < length xs → get_or xs i d ≡ get_or xs i e
same_inside [] i d e inside = absurd (omega arith)
same_inside (x ∷ xs) zero d e inside = refl
same_inside (x ∷ xs) (suc i) d e inside = same_inside xs i d e (omega arith)

pub got_at : {X Y E : Type 0} (f : X → List ℕ) (xs : List X) (i : ℕ) (d : X) (result : Result Y E) (a b c : Option (List ℕ)) → i < length xs
    → IsErr result → Appends a b (flat_map f (take i xs)) → GotPart (f (get_or xs i d)) b c → GotText result (flat_map f xs) a c
got_at f xs i d result a b c inside failed first second =
    got_some f xs i (get_or xs i d) result a b c inside (same_inside xs i d (get_or xs i d) inside) failed first second

-- If a writer received the text `x`, completely or in part, and `y` equals `x`, then the writer
-- received `y`, completely or in part.
pub got_this : {X E : Type 0} (result : Result X E) (a b : Option (List ℕ)) (x y : List ℕ) → x ≡ y → GotText result x a b → GotText result y a b
got_this result a b x y same got = rw same at got

pub appends_this : (old new : Option (List ℕ)) (x y : List ℕ) → x ≡ y → Appends old new x → Appends old new y
appends_this old new x y same written = rw same at written

-- If a writer received the text `x` and then a successful call wrote `y`, the writer received `x ++
-- y`.
pub appends_before : {E : Type 0} (written : Result (Unit {0}) E) (a b c : Option (List ℕ)) (x y z : List ℕ) → Appends a b x → OnOk written (Appends b c y) → x ++ y ≡ z
    → OnOk written (Appends a c z)
appends_before (Ok done) a b c x y z first second joined = appends_both a b c x y z first second joined
appends_before (Err e) a b c x y z first second joined = tt
