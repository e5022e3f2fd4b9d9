-- Proofs that the parser recognizes exactly those lists of words that form an input line with the
-- file name of a point list.
use Rattle.std.proofs.Common.{◌≡◌, inl, inr, ℕ, ◌==◌, List, [], ◌∷◌, Option, Some, None, refl, sym, ap, ◌∙◌, subst}
use Rattle.std.specs.Prelude.{codes, option_map}
use Rattle.std.specs.Str.{bytes_eq}
use Rattle.std.proofs.lemmas.Bool.{eqb-true}
use Rattle.script_text.specs.LineWords.Fields.{AnyName, Field, Number, Spell, Word, first_value, end_of_words}
use Rattle.script_text.proofs.Chosen.{chosen, is_text, same}
use Rattle.script_text.proofs.Made.{bound, first_spelled}
use Rattle.office_program.specs.Entering.FileLines.{FileLine, IsFileLine, IsNoFileLine, file_in, file_said, file_word, list_word}

-- If the words form an input line whose last word is the name of a file, such as the file of a
-- point list, then the parser returns this line.
pub said_of : (words : List (List ℕ)) (line : FileLine) → IsFileLine words line → file_said words ≡ Some line
said_of [] line h = let none : (let o : Option ℕ = None in o) ≡ Some line.number = h.0 in cc none
said_of (a ∷ []) line h = absurd h.1.0
said_of (a ∷ b ∷ []) line h = let none : (let o : Option (Option (List ℕ)) = None in o) ≡ Some line.device = h.1.1.0 in cc none
said_of (a ∷ b ∷ c ∷ []) line h = absurd h.1.1.1.0
said_of (a ∷ b ∷ c ∷ d ∷ []) line h = rw (h.0, h.1.0, h.1.1.0, h.1.1.1.0) refl
said_of (a ∷ b ∷ c ∷ d ∷ e ∷ words) line h = absurd h.1.1.1.1

list_spelled : (words rest : List (List ℕ)) (more : List Field) → list_word words ≡ Some rest → Spell rest more → Spell words (Word (codes "list") ∷ more)
list_spelled [] rest more h spelled = cc h
list_spelled (word ∷ words) rest more h spelled =
    elim (chosen (bytes_eq word (codes "list")) (Some words) None rest h) [
      | inl here ↦
          (is_text word (codes "list") here.0, subst (λ (left : List (List ℕ)). Spell left more) (sym (same words rest here.1)) spelled)
      | inr none ↦ cc none
    ]

file_named : (word name : List ℕ) → file_in word ≡ Some name → word ≡ 64 ∷ name
file_named [] name h = cc h
file_named (byte ∷ bytes) name h =
    elim (chosen (byte == 64) (Some bytes) None name h) [
      | inl here ↦ ap (λ (b : ℕ). b ∷ bytes) (eqb-true byte 64 here.0) ∙ ap (λ (rest : List ℕ). 64 ∷ rest) (same bytes name here.1)
      | inr none ↦ cc none
    ]

paired : {X : Type 0} (o : Option X) (words : List (List ℕ)) (v : X × List (List ℕ)) → option_map (λ x. (x, words)) o ≡ Some v
    → (o ≡ Some v.0) × (words ≡ v.1)
paired None words v h = cc h
paired (Some x) words v h =
    let p = same (x, words) v h in
    (ap (λ (q : _ × List (List ℕ)). Some q.0) p, ap (λ (q : _ × List (List ℕ)). q.1) p)

file_spelled : (words : List (List ℕ)) (first : List ℕ × List (List ℕ)) (more : List Field) → file_word words ≡ Some first
    → Spell first.1 more → Spell words (Word (64 ∷ first.0) ∷ more)
file_spelled [] first more h spelled = cc h
file_spelled (word ∷ words) first more h spelled =
    let p = paired (file_in word) words first h in
    (file_named word first.0 p.0, subst (λ (left : List (List ℕ)). Spell left more) (sym p.1) spelled)

none_left : (words : List (List ℕ)) (none : Unit {0}) → end_of_words words ≡ Some none → Spell words []
none_left [] none h = tt
none_left (word ∷ words) none h = cc h

-- If the parser returns an input line that names a file, then the words form this line.
pub spelled_of : (words : List (List ℕ)) (line : FileLine) → file_said words ≡ Some line → IsFileLine words line
spelled_of words line h =
    let number = bound (first_value Number words) _ line h in
    let list = bound (list_word number.0.1) _ line number.2 in
    let device = bound (first_value AnyName list.0) _ line list.2 in
    let name = bound (file_word device.0.1) _ line device.2 in
    let none = bound (end_of_words name.0.1) _ line name.2 in
    let made : FileLine = record { number = number.0.0; device = device.0.0; name = name.0.0 } in
    let is : IsFileLine words made =
    first_spelled Number words number.0 _ number.1
    (list_spelled number.0.1 list.0 _ list.1
    (first_spelled AnyName list.0 device.0 _ device.1
    (file_spelled device.0.1 name.0 [] name.1 (none_left name.0.1 none.0 none.1)))) in
    subst (IsFileLine words) (same made line none.2) is

-- If the parser returns `None`, the words form no input line that names a file.
pub none_of : (words : List (List ℕ)) → (let o : Option FileLine = None in o) ≡ file_said words → IsNoFileLine words
none_of words h = λ line is. let both : (let o : Option FileLine = None in o) ≡ Some line = h ∙ said_of words line is in cc both

-- Words form at most one input line that names a file: any two lines that they form are equal.
pub one_line : (words : List (List ℕ)) (a b : FileLine) → IsFileLine words a → IsFileLine words b → a ≡ b
one_line words a b first second = same a b (sym (said_of words a first) ∙ said_of words b second)
