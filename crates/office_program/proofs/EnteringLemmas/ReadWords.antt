-- Proofs that the parser recognizes exactly those lists of words that form an input line with
-- `@read`, the placeholder that a present reading of the counter replaces.
use Rattle.std.proofs.Common.{◌≡◌, ◌⊎◌, inl, inr, ℕ, Bool, true, false, List, [], ◌∷◌, Option, Some, None, refl, sym, ap, ◌∙◌, subst}
use Rattle.std.specs.Prelude.{codes, if◌then◌else◌, option_map}
use Rattle.std.specs.Str.{bytes_eq}
use Rattle.script_text.specs.LineWords.Fields.{AnyName, Field, Kind, Number, Of, Range, Spell, Value, Word, first_value, missing, end_of_words, spelled}
use Rattle.script_text.proofs.Chosen.{chosen, is_text, same}
use Rattle.script_text.proofs.Made.{bound, first_spelled}
use Rattle.office_program.specs.declared.entering.read_line.ReadLine.{ReadLine}
use Rattle.office_program.specs.declared.entering.read_line.ReadLine.TheVariants as read
use Rattle.script_text.specs.LineWords.Words.{words_of}
use Rattle.office_program.specs.Entering.Marks.{is_marked, unmarked}
use Rattle.office_program.specs.Entering.ReadLines.{IsNoRead, IsNoReadLine, IsRead, IsReadLine, exchange_said, install_said, line_said, may_end, read_said, read_word, verb_said}

-- Lemmas: if words form an input line with `@read` (which the program later replaces by the
-- counter's reading), then the parser returns this line.

-- If words spell a field and further fields, then the parser reads the value of the field from the
-- first word. If no word is left, it reads the default value of an optional field.
first_read : (kind : Kind) (value : Value kind) (words : List (List ℕ)) (more : List Field) → Spell words (Of kind value ∷ more)
    → (rest : List (List ℕ)) × (first_value kind words ≡ Some (value, rest)) × Spell rest more
first_read kind value [] more h = ([], ap (option_map (λ v. (v, []))) h.0, h.1)
first_read kind value (word ∷ words) more h = (words, ap (option_map (λ v. (v, words))) h.0, h.1)

word_read : (text : List ℕ) (words : List (List ℕ)) (more : List Field) → Spell words (Word text ∷ more)
    → (rest : List (List ℕ)) × (words ≡ text ∷ rest) × Spell rest more
word_read text [] more h = absurd h.0
word_read text (word ∷ words) more h = (words, ap (λ (w : List ℕ). w ∷ words) h.0, h.1)

ends_read : (words : List (List ℕ)) → Spell words [] → end_of_words words ≡ Some tt
ends_read [] h = refl
ends_read (word ∷ words) h = absurd h

pub said_of : (words : List (List ℕ)) (line : ReadLine) → IsReadLine words line → read_said words ≡ Some line
said_of words (read.Install number register meter ceiling range) h =
    let a = first_read Number number words _ h in
    let b = word_read (codes "install") a.0 _ a.2 in
    let c = first_read AnyName register b.0 _ b.2 in
    let d = first_read AnyName meter c.0 _ c.2 in
    let e = word_read (codes "@read") d.0 _ d.2 in
    let f = first_read Number ceiling e.0 _ e.2 in
    let g = first_read Range range f.0 _ f.2 in
    rw (a.1, b.1, c.1, d.1, e.1, f.1, g.1, ends_read g.0 g.2) refl
said_of words (read.Exchange number register last rolls meter ceiling range) h =
    let a = first_read Number number words _ h in
    let b = word_read (codes "exchange") a.0 _ a.2 in
    let c = first_read AnyName register b.0 _ b.2 in
    let d = first_read Number last c.0 _ c.2 in
    let e = first_read Number rolls d.0 _ d.2 in
    let f = first_read AnyName meter e.0 _ e.2 in
    let g = word_read (codes "@read") f.0 _ f.2 in
    let i = first_read Number ceiling g.0 _ g.2 in
    let j = first_read Range range i.0 _ i.2 in
    rw (a.1, b.1, c.1, d.1, e.1, f.1, g.1, i.1, j.1, ends_read j.0 j.2) refl

-- Lemmas: if the parser returns an input line with `@read` (the reading's placeholder), then the
-- words form this line.

read_spelled : (words rest : List (List ℕ)) (more : List Field) → read_word words ≡ Some rest → Spell rest more → Spell words (Word (codes "@read") ∷ more)
read_spelled [] rest more h spelled = cc h
read_spelled (word ∷ words) rest more h spelled =
    elim (chosen (bytes_eq word (codes "@read")) (Some words) None rest h) [
      | inl here ↦
          (is_text word (codes "@read") here.0, subst (λ (left : List (List ℕ)). Spell left more) (sym (same words rest here.1)) spelled)
      | inr none ↦ cc none
    ]

none_left : (words : List (List ℕ)) (none : Unit {0}) → end_of_words words ≡ Some none → Spell words []
none_left [] none h = tt
none_left (word ∷ words) none h = cc h

install_spelled : (number : ℕ) (words all : List (List ℕ)) (line : ReadLine) → first_value Number all ≡ Some (number, codes "install" ∷ words)
    → install_said number words ≡ Some line → IsReadLine all line
install_spelled number words all line first h =
    let a = bound (first_value AnyName words) _ line h in
    let b = bound (first_value AnyName a.0.1) _ line a.2 in
    let c = bound (read_word b.0.1) _ line b.2 in
    let d = bound (first_value Number c.0) _ line c.2 in
    let e = bound (first_value Range d.0.1) _ line d.2 in
    let f = bound (end_of_words e.0.1) _ line e.2 in
    let made : ReadLine = read.Install number a.0.0 b.0.0 d.0.0 e.0.0 in
    let is : IsReadLine all made =
    first_spelled Number all (number, codes "install" ∷ words) _ first (
      refl,
      first_spelled AnyName words a.0 _ a.1
          (first_spelled AnyName a.0.1 b.0 _ b.1
          (read_spelled b.0.1 c.0 _ c.1
          (first_spelled Number c.0 d.0 _ d.1
          (first_spelled Range d.0.1 e.0 [] e.1 (none_left e.0.1 f.0 f.1))))),
    ) in
    subst (IsReadLine all) (same made line f.2) is

exchange_spelled : (number : ℕ) (words all : List (List ℕ)) (line : ReadLine) → first_value Number all ≡ Some (number, codes "exchange" ∷ words)
    → exchange_said number words ≡ Some line → IsReadLine all line
exchange_spelled number words all line first h =
    let a = bound (first_value AnyName words) _ line h in
    let b = bound (first_value Number a.0.1) _ line a.2 in
    let c = bound (first_value Number b.0.1) _ line b.2 in
    let d = bound (first_value AnyName c.0.1) _ line c.2 in
    let e = bound (read_word d.0.1) _ line d.2 in
    let f = bound (first_value Number e.0) _ line e.2 in
    let g = bound (first_value Range f.0.1) _ line f.2 in
    let i = bound (end_of_words g.0.1) _ line g.2 in
    let made : ReadLine = read.Exchange number a.0.0 b.0.0 c.0.0 d.0.0 f.0.0 g.0.0 in
    let is : IsReadLine all made =
    first_spelled Number all (number, codes "exchange" ∷ words) _ first (
      refl,
      first_spelled AnyName words a.0 _ a.1
          (first_spelled Number a.0.1 b.0 _ b.1
          (first_spelled Number b.0.1 c.0 _ c.1
          (first_spelled AnyName c.0.1 d.0 _ d.1
          (read_spelled d.0.1 e.0 _ e.1
          (first_spelled Number e.0 f.0 _ f.1
          (first_spelled Range f.0.1 g.0 [] g.1 (none_left g.0.1 i.0 i.1))))))),
    ) in
    subst (IsReadLine all) (same made line i.2) is

verb_spelled : (number : ℕ) (verb : List ℕ) (words all : List (List ℕ)) (line : ReadLine) → first_value Number all ≡ Some (number, verb ∷ words)
    → line_said number verb words ≡ Some line → IsReadLine all line
verb_spelled number verb words all line first h =
    elim (chosen (bytes_eq verb (codes "install")) (install_said number words) _ line h) [
      | inl here ↦
          install_spelled number words all line
          (first ∙ ap (λ (v : List ℕ). Some (number, v ∷ words)) (is_text verb (codes "install") here.0)) here.1
      | inr other ↦
          elim (chosen (bytes_eq verb (codes "exchange")) (exchange_said number words) None line other) [
            | inl here ↦
                exchange_spelled number words all line
                (first ∙ ap (λ (v : List ℕ). Some (number, v ∷ words)) (is_text verb (codes "exchange") here.0)) here.1
            | inr none ↦ absurd (cc none)
          ]
    ]

after_spelled : (number : ℕ) (words all : List (List ℕ)) (line : ReadLine) → first_value Number all ≡ Some (number, words)
    → verb_said number words ≡ Some line → IsReadLine all line
after_spelled number [] all line first h = absurd (cc h)
after_spelled number (verb ∷ words) all line first h = verb_spelled number verb words all line first h

pub spelled_of : (words : List (List ℕ)) (line : ReadLine) → read_said words ≡ Some line → IsReadLine words line
spelled_of words line h =
    let number = bound (first_value Number words) _ line h in
    after_spelled number.0.0 number.0.1 words line number.1 number.2

-- If the parser returns `None`, the words form no input line with `@read` (the placeholder for a
-- counter's reading).
pub none_of : (words : List (List ℕ)) → (let o : Option ReadLine = None in o) ≡ read_said words → IsNoReadLine words
none_of words h = λ line is. let both : (let o : Option ReadLine = None in o) ≡ Some line = h ∙ said_of words line is in cc both

-- Words form at most one input line with `@read`, the placeholder that a reading of the counter
-- replaces: any two lines that they form are equal.
pub one_line : (words : List (List ℕ)) (a b : ReadLine) → IsReadLine words a → IsReadLine words b → a ≡ b
one_line words a b first second = same a b (sym (said_of words a first) ∙ said_of words b second)

-- Lemmas on the text of an input line with `@read` (the reading's placeholder), with or without the
-- mark ` !` (a confirmation).

pub read_so : (text : List ℕ) (line : ReadLine) → Some line ≡ read_said (words_of (unmarked text)) → may_end (is_marked text) line ≡ true → IsRead text line
read_so text line said may = record { is = spelled_of (words_of (unmarked text)) line (sym said); may = may }

pub may_not : (text : List ℕ) (line : ReadLine) → Some line ≡ read_said (words_of (unmarked text)) → may_end (is_marked text) line ≡ false → IsNoRead text
may_not text line said may = λ other is.
    let same_line : line ≡ other = one_line (words_of (unmarked text)) line other (spelled_of (words_of (unmarked text)) line (sym said)) is.is in
    let never : false ≡ true = sym may ∙ ap (may_end (is_marked text)) same_line ∙ is.may in
    cc never

pub no_read : (text : List ℕ) → (let o : Option ReadLine = None in o) ≡ read_said (words_of (unmarked text)) → IsNoRead text
no_read text said = λ line is. none_of (words_of (unmarked text)) said line is.is
