-- Lemmas: a loop over the headers of a request finds the values of all headers with a given name.
use Rattle.std.proofs.Common.{◌≡◌, ◌∙◌, ℕ, ◌+◌, ◌<◌, Bool, true, false, List, [], ◌∷◌, ◌++◌, length, get_or, take, map, refl, sym, ap, subst, arith}
use Rattle.std.specs.Prelude.{if◌then◌else◌, IsTrue, ◌↔◌}
use Rattle.std.specs.Str.{bytes_eq}
use Rattle.std.proofs.lemmas.Grind.{common_steps}
use Rattle.std.proofs.lemmas.Slice.Eq.{bytes_eq-Decides}
use Rattle.std.proofs.lemmas.Bool.{cond-true, cond-false}
use Rattle.std.proofs.lemmas.List.{append-nil, map_more}
use Rattle.httparse.specs.Spans.{header_bytes, span_bytes}
use Rattle.httparse.specs.declared.spans.HeaderSpan.{HeaderSpan}
use Rattle.office_http.specs.Messages.Head.Headers.{same_name, values_of}

pub same_test : (r : Bool) (xs ys : List ℕ) → (IsTrue r ↔ (xs ≡ ys)) → r ≡ bytes_eq xs ys
same_test r xs ys h = let d = bytes_eq-Decides xs ys in grind (arith, common_steps, h, d)

pub values_of-append : (name : List ℕ) (xs ys : List (List ℕ × List ℕ)) → values_of name (xs ++ ys) ≡ values_of name xs ++ values_of name ys
values_of-append name [] ys = refl
values_of-append name (x ∷ xs) ys =
    elim (same_name x.0 name) as (λ b. (if b then x.1 ∷ values_of name (xs ++ ys) else values_of name (xs ++ ys)) ≡ (if b then x.1 ∷ values_of name xs else values_of name xs) ++ values_of name ys) [
      | true ↦ ap (λ vs. x.1 ∷ vs) (values_of-append name xs ys)
      | false ↦ values_of-append name xs ys
    ]

pub one_more : (name : List ℕ) (xs : List (List ℕ × List ℕ)) (x : List ℕ × List ℕ) → same_name x.0 name ≡ true → values_of name (xs ++ x ∷ []) ≡ values_of name xs ++ x.1 ∷ []
one_more name xs x e = values_of-append name xs (x ∷ []) ∙ ap (λ vs. values_of name xs ++ vs) (cond-true _ _ _ e)

pub none_more : (name : List ℕ) (xs : List (List ℕ × List ℕ)) (x : List ℕ × List ℕ) → same_name x.0 name ≡ false → values_of name (xs ++ x ∷ []) ≡ values_of name xs
none_more name xs x e = values_of-append name xs (x ∷ []) ∙ ap (λ vs. values_of name xs ++ vs) (cond-false _ _ _ e) ∙ append-nil (values_of name xs)

-- If the next header of a request has the requested name, then the header's value is appended to
-- the values found so far.
pub more_given : (name bytes : List ℕ) (headers : List HeaderSpan) (i : ℕ) (d : HeaderSpan) (named value : List ℕ) → i < length headers
    → named ≡ span_bytes bytes (get_or headers i d).name → same_name named name ≡ true → value ≡ span_bytes bytes (get_or headers i d).value
    → values_of name (map (header_bytes bytes) (take (i + 1) headers)) ≡ values_of name (map (header_bytes bytes) (take i headers)) ++ value ∷ []
more_given name bytes headers i d named value lt is same of =
    let here = get_or headers i d in
    let same_here : same_name (span_bytes bytes here.name) name ≡ true = subst (λ n. same_name n name ≡ true) is same in
    ap (values_of name) (map_more (header_bytes bytes) headers i d lt)
    ∙ one_more name (map (header_bytes bytes) (take i headers)) (header_bytes bytes here) same_here
    ∙ ap (λ v. values_of name (map (header_bytes bytes) (take i headers)) ++ v ∷ []) (sym of)

pub none_given : (name bytes : List ℕ) (headers : List HeaderSpan) (i : ℕ) (d : HeaderSpan) (named : List ℕ) → i < length headers
    → named ≡ span_bytes bytes (get_or headers i d).name → same_name named name ≡ false
    → values_of name (map (header_bytes bytes) (take (i + 1) headers)) ≡ values_of name (map (header_bytes bytes) (take i headers))
none_given name bytes headers i d named lt is other =
    let here = get_or headers i d in
    let other_here : same_name (span_bytes bytes here.name) name ≡ false = subst (λ n. same_name n name ≡ false) is other in
    ap (values_of name) (map_more (header_bytes bytes) headers i d lt)
    ∙ none_more name (map (header_bytes bytes) (take i headers)) (header_bytes bytes here) other_here
