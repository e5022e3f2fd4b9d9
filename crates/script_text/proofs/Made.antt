-- Lemmas on the function `made`, which parses the words of a script line: its result has the values
-- that these words spell.
use Rattle.std.proofs.Common.{◌≡◌, ℕ, List, [], ◌∷◌, Some, None, Option, refl, sym, ap, ◌∙◌, subst}
use Rattle.std.specs.Prelude.{option_map}
use Rattle.script_text.specs.LineWords.Fields.{Kind, Value, Field, Of, Spell, first_value, missing, spelled, ◌>>=◌}
use Rattle.script_text.specs.LineReader.{Values, made}
use Rattle.script_text.proofs.Chosen.{same}

-- The fields of a script line: at each index, the field has the kind in `kinds` and the value in
-- `values`.
abbrev pub fields : (kinds : List Kind) → Values kinds → List Field
fields [] values = []
fields (kind ∷ kinds) values = Of kind values.0 ∷ fields kinds values.1

-- If two parsing steps in sequence return a result, then the first step returned a value, and the
-- second step returned the result for this value.
pub bound : {X Y : Type 0} (o : Option X) (f : X → Option Y) (y : Y) → (o >>= f) ≡ Some y → (x : X) × (o ≡ Some x) × (f x ≡ Some y)
bound None f y h = cc h
bound (Some x) f y h = (x, refl, h)

paired : {X : Type 0} (o : Option X) (words : List (List ℕ)) (v : X × List (List ℕ)) → option_map (λ x. (x, words)) o ≡ Some v
    → (o ≡ Some v.0) × (words ≡ v.1)
paired None words v h = cc h
paired (Some x) words v h =
    let p = same (x, words) v h in
    (ap (λ (q : _ × List (List ℕ)). Some q.0) p, ap (λ (q : _ × List (List ℕ)). q.1) p)

-- If the parser returned a value for the first word of a script line, the word spells this value,
-- or is missing and optional.
pub first_spelled : (kind : Kind) (words : List (List ℕ)) (first : Value kind × List (List ℕ)) (more : List Field)
    → first_value kind words ≡ Some first → Spell first.1 more → Spell words (Of kind first.0 ∷ more)
first_spelled kind [] first more h rest =
    let p = paired (missing kind) [] first h in
    (p.0, subst (λ (words : List (List ℕ)). Spell words more) (sym p.1) rest)
first_spelled kind (word ∷ words) first more h rest =
    let p = paired (spelled kind word) words first h in
    (p.0, subst (λ (words : List (List ℕ)). Spell words more) (sym p.1) rest)

first_read : (kind : Kind) (value : Value kind) (words : List (List ℕ)) (more : List Field) → Spell words (Of kind value ∷ more)
    → (rest : List (List ℕ)) × (first_value kind words ≡ Some (value, rest)) × Spell rest more
first_read kind value [] more h = ([], ap (option_map (λ v. (v, []))) h.0, h.1)
first_read kind value (word ∷ words) more h = (words, ap (option_map (λ v. (v, words))) h.0, h.1)

-- If the parser `made` returns a result, then the words of the script line spell the values to
-- which `made` applied the function `make`.
pub made_spelled : {X : Type 0} (kinds : List Kind) (make : Values kinds → X) (words : List (List ℕ)) (x : X) → made kinds make words ≡ Some x
    → (values : Values kinds) × Spell words (fields kinds values) × (make values ≡ x)
made_spelled [] make [] x h = (tt, tt, same (make tt) x h)
made_spelled [] make (word ∷ words) x h = cc h
made_spelled (kind ∷ kinds) make words x h =
    let first = bound (first_value kind words) _ x h in
    let rest = made_spelled kinds (λ values. make (first.0.0, values)) first.0.1 x first.2 in
    ((first.0.0, rest.0), first_spelled kind words first.0 (fields kinds rest.0) first.1 rest.1, rest.2)

-- If the words of a script line spell values of the given kinds, then the parser `made` returns
-- `make` applied to these values.
pub spelled_made : {X : Type 0} (kinds : List Kind) (make : Values kinds → X) (values : Values kinds) (words : List (List ℕ))
    → Spell words (fields kinds values) → made kinds make words ≡ Some (make values)
spelled_made [] make values [] h = refl
spelled_made [] make values (word ∷ words) h = absurd h
spelled_made (kind ∷ kinds) make values words h =
    let first = first_read kind values.0 words (fields kinds values.1) h in
    rw first.1 (spelled_made kinds (λ rest. make (values.0, rest)) values.1 first.0 first.2)

-- If the parser `made` returns `x` for the function `make`, then it returns `f x` for the
-- composition of `f` and `make`.
pub made_again : {X Y : Type 0} (kinds : List Kind) (make : Values kinds → X) (f : X → Y) (words : List (List ℕ)) (x : X)
    → made kinds make words ≡ Some x → made kinds (λ values. f (make values)) words ≡ Some (f x)
made_again kinds make f words x h =
    let values = made_spelled kinds make words x h in
    spelled_made kinds (λ values. f (make values)) values.0 words values.1 ∙ ap (λ y. Some (f y)) values.2
