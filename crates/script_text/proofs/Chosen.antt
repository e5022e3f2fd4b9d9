-- Lemmas on `if` expressions that return an optional value, and on the search for a word in a table
-- of words and their meanings.
use Rattle.std.proofs.Common.{◌≡◌, ◌⊎◌, inl, inr, ℕ, Bool, true, false, List, [], ◌∷◌, Some, Option, refl, subst}
use Rattle.std.specs.Prelude.{if◌then◌else◌, map, option_map}
use Rattle.std.specs.Borrow.{Bor}
use Rattle.std.specs.Str.{bytes_eq}
use Rattle.std.proofs.lemmas.Slice.Eq.{bytes_eq-Decides}
use Rattle.script_text.specs.LineWords.Meanings.{entry_of, found_in, meaning_in}

pub same : {Y : Type 0} (x y : Y) → Some x ≡ Some y → x ≡ y
same x y h = cc h

pub chosen : {Y : Type 0} (b : Bool) (x y : Option Y) (z : Y) → (if b then x else y) ≡ Some z → ((b ≡ true) × (x ≡ Some z)) ⊎ (y ≡ Some z)
chosen true x y z h = inl (refl, h)
chosen false x y z h = inr h

pub is_text : (word text : List ℕ) → bytes_eq word text ≡ true → word ≡ text
is_text word text h = (bytes_eq-Decides word text).0 h

-- If the first entry of a table has the searched word (`b`), the search returns the meaning in this
-- entry. Otherwise the search returns the meaning in the later entries.
first_meaning : {T : Type 0} (b : Bool) (entry : Bor (List ℕ) × T) (later : Option (Bor (List ℕ) × T)) (meaning : Option T)
    → option_map (λ (e : Bor (List ℕ) × T). e.1) later ≡ meaning
    → option_map (λ (e : Bor (List ℕ) × T). e.1) (if b then Some entry else later) ≡ (if b then Some entry.1 else meaning)
first_meaning true entry later meaning h = refl
first_meaning false entry later meaning h = h

pub found_meaning : {T : Type 0} (table : List (Bor (List ℕ) × T)) (word : List ℕ)
    → found_in table word ≡ meaning_in (map entry_of table) word
found_meaning [] word = refl
found_meaning (entry ∷ table) word = first_meaning (bytes_eq entry.0.now word) entry _ (meaning_in (map entry_of table) word) (found_meaning table word)

-- States that `P` is true for every entry of a table of words: for the entry's meaning and its
-- word.
abbrev pub Each : {T : Type 0} → (T → List ℕ → Type 0) → List (List ℕ × T) → Type 0
Each P [] = Unit {0}
Each P (entry ∷ table) = P entry.1 entry.0 × Each P table

-- If `P` is true for each entry of a table of words, then `P` is true for every word that a search
-- finds.
pub meant : {T : Type 0} (P : T → List ℕ → Type 0) (table : List (List ℕ × T)) (word : List ℕ) (v : T) → Each P table → meaning_in table word ≡ Some v → P v word
meant P [] word v each h = cc h
meant P (entry ∷ table) word v each h =
    elim (chosen (bytes_eq entry.0 word) (Some entry.1) (meaning_in table word) v h) [
      | inl here ↦ subst (λ (x : _). P x word) (same entry.1 v here.1) (subst (λ (w : List ℕ). P entry.1 w) (is_text entry.0 word here.0) each.0)
      | inr there ↦ meant P table word v each.1 there
    ]
