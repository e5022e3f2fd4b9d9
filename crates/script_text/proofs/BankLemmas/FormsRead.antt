-- Proofs that the parser returns a setup line of a simulated device if and only if the given words
-- spell this setup line.
use Rattle.std.proofs.Common.{◌≡◌, inl, inr, ℕ, ◌≤◌, true, List, [], ◌∷◌, Some, None, Option, refl, sym, ◌∙◌, subst, arith}
use Rattle.std.specs.Prelude.{codes, nat_le}
use Rattle.std.specs.Str.{bytes_eq}
use Rattle.std.proofs.lemmas.Grind.{common_steps}
use Rattle.mb_device.specs.declared.kinds.Kind.{Kind}
use Rattle.mb_device.specs.declared.kinds.Kind.TheVariants as kind
use Rattle.script_text.specs.LineWords.Fields.{Field, Number, Of, Spell, Word, first_value, end_of_words}
use Rattle.script_text.specs.Bank.Forms.{IsBankLine, IsPart, bank_form, kind_word, trick_form}
use Rattle.script_text.specs.Bank.BankLine.{area_said, bank_said, cut_said, frame_said, kind_of, kinds, plain_of, set_said, three_said, trick_said, tricks, two_said}
use Rattle.script_text.specs.Bank.Seen.{ReadsBank}
use Rattle.script_text.specs.declared.bank.bank.BankLine.{BankLine}
use Rattle.script_text.specs.declared.bank.bank.BankLine.TheVariants as line
use Rattle.script_text.specs.declared.bank.bank.GivenArea.{GivenArea}
use Rattle.script_text.specs.declared.bank.bank.GivenCell.{GivenCell}
use Rattle.mb_device.specs.declared.trick.Trick.{Trick}
use Rattle.mb_device.specs.declared.trick.Trick.TheVariants as trick
use Rattle.script_text.proofs.Chosen.{chosen, is_text, meant, same}
use Rattle.script_text.proofs.Made.{bound, first_spelled}

nothing_spelled : (words : List (List ℕ)) (none : Unit {0}) → end_of_words words ≡ Some none → Spell words []
nothing_spelled [] none h = tt
nothing_spelled (word ∷ words) none h = cc h

-- The next lemmas prove for each kind of setup line of a simulated device: if the parser returns
-- the line, then the words spell the line's fields.

abbrev numbers_form : ℕ × ℕ → List Field
numbers_form two = Of Number two.0 ∷ Of Number two.1 ∷ []

two_form : (words : List (List ℕ)) (two : ℕ × ℕ) → two_said words ≡ Some two → Spell words (numbers_form two)
two_form words two h =
    let a = bound (first_value Number words) _ two h in
    let b = bound (first_value Number a.0.1) _ two a.2 in
    let none = bound (end_of_words b.0.1) _ two b.2 in
    subst (λ (two : ℕ × ℕ). Spell words (numbers_form two)) (same _ two none.2)
    (first_spelled Number words a.0 (Of Number b.0.0 ∷ []) a.1 (first_spelled Number a.0.1 b.0 [] b.1 (nothing_spelled b.0.1 none.0 none.1)))

kind_is : (word : List ℕ) (k : Kind) → kind_of word ≡ Some k → word ≡ kind_word k
kind_is word k h = meant (λ k w. w ≡ kind_word k) kinds word k (refl, (refl, (refl, (refl, tt)))) h

abbrev three_form : Kind × ℕ × ℕ → List Field
three_form v = Word (kind_word v.0) ∷ Of Number v.1 ∷ Of Number v.2 ∷ []

three_spelled : (words : List (List ℕ)) (v : Kind × ℕ × ℕ) → three_said words ≡ Some v → Spell words (three_form v)
three_spelled [] v h = cc h
three_spelled (word ∷ words) v h =
    let k = bound (kind_of word) _ v h in
    let two = bound (two_said words) _ v k.2 in
    subst (λ (v : Kind × ℕ × ℕ). Spell (word ∷ words) (three_form v)) (same _ v two.2) (kind_is word k.0 k.1, two_form words two.0 two.1)

-- True if the words of a setup line spell the injected fault `t`, and a fault that cuts a response
-- keeps at most 259 bytes.
abbrev IsTrick : List (List ℕ) → Trick → Type 0
IsTrick words t = Spell words (trick_form t) × IsPart t

abbrev IsWord : Trick → List ℕ → Type 0
IsWord t word = IsTrick (word ∷ []) t

plain_is : (word : List ℕ) (t : Trick) → plain_of word ≡ Some t → IsWord t word
plain_is word t h = meant IsWord tricks word t (((refl, tt), tt), (((refl, tt), tt), (((refl, tt), tt), (((refl, tt), tt), (((refl, tt), tt), (((refl, tt), tt), tt)))))) h

few : (n : ℕ) → nat_le n 259 ≡ true → n ≤ 259
few n h = grind (arith, common_steps)

as_few : (n : ℕ) → n ≤ 259 → nat_le n 259 ≡ true
as_few n h = grind (arith, common_steps)

cut_form : (words : List (List ℕ)) (t : Trick) → cut_said words ≡ Some t → IsTrick (codes "cut" ∷ words) t
cut_form words t h =
    let count = bound (first_value Number words) _ t h in
    let none = bound (end_of_words count.0.1) _ t count.2 in
    elim (chosen (nat_le count.0.0 259) (Some (trick.Cut count.0.0)) None t none.2) [
      | inl here ↦
          subst (λ (t : Trick). IsTrick (codes "cut" ∷ words) t) (same (trick.Cut count.0.0) t here.1)
          ((refl, first_spelled Number words count.0 [] count.1 (nothing_spelled count.0.1 none.0 none.1)), few count.0.0 here.0)
      | inr gone ↦ cc gone
    ]

alone : (word : List ℕ) (words : List (List ℕ)) (none : Unit {0}) (t : Trick) → end_of_words words ≡ Some none → IsWord t word → IsTrick (word ∷ words) t
alone word [] none t h is = is
alone word (more ∷ words) none t h is = cc h

trick_is : (words : List (List ℕ)) (t : Trick) → trick_said words ≡ Some t → IsTrick words t
trick_is [] t h = cc h
trick_is (word ∷ words) t h =
    elim (chosen (bytes_eq word (codes "cut")) (cut_said words) _ t h) [
      | inl here ↦ subst (λ (w : List ℕ). IsTrick (w ∷ words) t) (sym (is_text word _ here.0)) (cut_form words t here.1)
      | inr there ↦
          let plain = bound (plain_of word) _ t there in
          let none = bound (end_of_words words) _ t plain.2 in
          alone word words none.0 t none.1 (subst (λ (t : Trick). IsWord t word) (same plain.0 t none.2) (plain_is word plain.0 plain.1))
    ]

area_form : (words : List (List ℕ)) (said : BankLine) → area_said words ≡ Some said → IsBankLine (codes "area" ∷ words) said
area_form words said h =
    let v = bound (three_said words) _ said h in
    subst (λ (l : BankLine). IsBankLine (codes "area" ∷ words) l) (same _ said v.2) (record { form = (refl, three_spelled words v.0 v.1); can = tt })

set_form : (words : List (List ℕ)) (said : BankLine) → set_said words ≡ Some said → IsBankLine (codes "set" ∷ words) said
set_form words said h =
    let v = bound (three_said words) _ said h in
    subst (λ (l : BankLine). IsBankLine (codes "set" ∷ words) l) (same _ said v.2) (record { form = (refl, three_spelled words v.0 v.1); can = tt })

frame_form : (words : List (List ℕ)) (said : BankLine) → frame_said words ≡ Some said → IsBankLine (codes "trick" ∷ words) said
frame_form words said h =
    let frame = bound (first_value Number words) _ said h in
    let t = bound (trick_said frame.0.1) _ said frame.2 in
    let is = trick_is frame.0.1 t.0 t.1 in
    subst (λ (l : BankLine). IsBankLine (codes "trick" ∷ words) l) (same (line.Trick frame.0.0 t.0) said t.2)
    (record { form = (refl, first_spelled Number words frame.0 (trick_form t.0) frame.1 is.0); can = is.1 })

turned : (word text : List ℕ) (words : List (List ℕ)) (said : BankLine) → bytes_eq word text ≡ true → IsBankLine (text ∷ words) said → IsBankLine (word ∷ words) said
turned word text words said h is = subst (λ (w : List ℕ). IsBankLine (w ∷ words) said) (sym (is_text word text h)) is

pub read_form : (words : List (List ℕ)) (said : BankLine) → bank_said words ≡ Some said → IsBankLine words said
read_form [] said h = cc h
read_form (word ∷ words) said h =
    elim (chosen (bytes_eq word (codes "area")) (area_said words) _ said h) [
      | inl here ↦ turned word (codes "area") words said here.0 (area_form words said here.1)
      | inr there ↦
          elim (chosen (bytes_eq word (codes "set")) (set_said words) _ said there) [
            | inl here ↦ turned word (codes "set") words said here.0 (set_form words said here.1)
            | inr more ↦
                elim (chosen (bytes_eq word (codes "trick")) (frame_said words) None said more) [
                  | inl here ↦ turned word (codes "trick") words said here.0 (frame_form words said here.1)
                  | inr none ↦ cc none
                ]
          ]
    ]

-- The next lemmas prove for each kind of setup line of a simulated device: if the given words spell
-- the line's fields, then the parser returns the line.

kind_known : (k : Kind) → kind_of (kind_word k) ≡ Some k
kind_known kind.Coil = refl
kind_known kind.Discrete = refl
kind_known kind.Holding = refl
kind_known kind.Input = refl

three_read : (words : List (List ℕ)) (v : Kind × ℕ × ℕ) → Spell words (three_form v) → three_said words ≡ Some v
three_read [] v h = absurd h.0
three_read (w0 ∷ []) v h = cc h.1.0
three_read (w0 ∷ w1 ∷ []) v h = cc h.1.1.0
three_read (w0 ∷ w1 ∷ w2 ∷ []) v h = rw (h.0, kind_known v.0, h.1.0, h.1.1.0) refl
three_read (w0 ∷ w1 ∷ w2 ∷ more ∷ rest) v h = absurd h.1.1.1

trick_read : (words : List (List ℕ)) (t : Trick) → Spell words (trick_form t) → IsPart t → trick_said words ≡ Some t
trick_read [] trick.Drop h can = absurd h.0
trick_read (w0 ∷ []) trick.Drop h can = rw h.0 refl
trick_read (w0 ∷ more ∷ rest) trick.Drop h can = absurd h.1
trick_read [] trick.Twice h can = absurd h.0
trick_read (w0 ∷ []) trick.Twice h can = rw h.0 refl
trick_read (w0 ∷ more ∷ rest) trick.Twice h can = absurd h.1
trick_read [] trick.Later h can = absurd h.0
trick_read (w0 ∷ []) trick.Later h can = rw h.0 refl
trick_read (w0 ∷ more ∷ rest) trick.Later h can = absurd h.1
trick_read [] trick.Id h can = absurd h.0
trick_read (w0 ∷ []) trick.Id h can = rw h.0 refl
trick_read (w0 ∷ more ∷ rest) trick.Id h can = absurd h.1
trick_read [] trick.Unit h can = absurd h.0
trick_read (w0 ∷ []) trick.Unit h can = rw h.0 refl
trick_read (w0 ∷ more ∷ rest) trick.Unit h can = absurd h.1
trick_read [] trick.Garble h can = absurd h.0
trick_read (w0 ∷ []) trick.Garble h can = rw h.0 refl
trick_read (w0 ∷ more ∷ rest) trick.Garble h can = absurd h.1
trick_read [] (trick.Cut count) h can = absurd h.0
trick_read (w0 ∷ []) (trick.Cut count) h can = cc h.1.0
trick_read (w0 ∷ w1 ∷ []) (trick.Cut count) h can = rw (h.0, h.1.0, as_few count can) refl
trick_read (w0 ∷ w1 ∷ more ∷ rest) (trick.Cut count) h can = absurd h.1.1

area_read : (words : List (List ℕ)) (a : GivenArea) → Spell words (bank_form (line.Area a)) → bank_said words ≡ Some (line.Area a)
area_read [] a h = absurd h.0
area_read (word ∷ words) a h = rw (h.0, three_read words (a.kind, a.start, a.count) h.1) refl

set_read : (words : List (List ℕ)) (c : GivenCell) → Spell words (bank_form (line.Set c)) → bank_said words ≡ Some (line.Set c)
set_read [] c h = absurd h.0
set_read (word ∷ words) c h = rw (h.0, three_read words (c.kind, c.address, c.value) h.1) refl

frame_read : (words : List (List ℕ)) (frame : ℕ) (t : Trick) → Spell words (bank_form (line.Trick frame t)) → IsPart t
    → bank_said words ≡ Some (line.Trick frame t)
frame_read [] frame t h can = absurd h.0
frame_read (word ∷ []) frame t h can = cc h.1.0
frame_read (word ∷ number ∷ words) frame t h can = rw (h.0, h.1.0, trick_read words t h.1.1 can) refl

pub form_read : (words : List (List ℕ)) (said : BankLine) → IsBankLine words said → bank_said words ≡ Some said
form_read words (line.Area a) h = area_read words a h.form
form_read words (line.Set c) h = set_read words c h.form
form_read words (line.Trick frame t) h = frame_read words frame t h.form h.can

-- If the parser returns a setup line of a simulated device, then the words spell this setup line
-- and no other.

pub only_line : (words : List (List ℕ)) (said : BankLine) → bank_said words ≡ Some said → (other : BankLine) → IsBankLine words other → other ≡ said
only_line words said h other is = same other said (sym (form_read words other is) ∙ h)

pub reads_bank : (words : List (List ℕ)) (read : Option BankLine) → read ≡ bank_said words → ReadsBank words read
reads_bank words None h = λ said is. cc (h ∙ form_read words said is)
reads_bank words (Some said) h = (read_form words said (sym h), only_line words said (sym h))
