-- Lemmas on when a file name consists of a given stem, a hyphen, a text and a given extension, such
-- as `office-2026-11.db`.
use Rattle.std.proofs.Common.{◌≡◌, ◌≢◌, List, ℕ, ◌++◌, Some, None, sym, ◌∙◌, ap, append_assoc}
use Rattle.std.specs.Prelude.{Option, codes, false, true}
use Rattle.std.specs.Borrow.{Bor}
use Rattle.std.specs.Option.{MatchOption}
use Rattle.std.proofs.lemmas.List.{append_cancel_left, append_cancel_right}
use Rattle.energy_report.specs.declared.form.Period.{Period}
use Rattle.run_schedule.specs.Periods.Names.{IsPeriodIn, spells, stem_of, suffix_of}

grouped : (stem text suffix : List ℕ) → stem ++ codes "-" ++ text ++ suffix ≡ stem ++ (codes "-" ++ (text ++ suffix))
grouped stem text suffix = append_assoc (stem ++ codes "-") text suffix ∙ append_assoc stem (codes "-") (text ++ suffix)

pub no_stem : (name stem suffix : List ℕ) → ((rest : List ℕ) → name ≢ stem ++ rest) → (text : List ℕ) → stem ++ codes "-" ++ text ++ suffix ≢ name
no_stem name stem suffix none text is = none (codes "-" ++ (text ++ suffix)) (sym is ∙ grouped stem text suffix)

behind_stem : (name stem suffix rest text : List ℕ) → name ≡ stem ++ rest → stem ++ codes "-" ++ text ++ suffix ≡ name
    → rest ≡ codes "-" ++ (text ++ suffix)
behind_stem name stem suffix rest text front is =
    append_cancel_left stem rest (codes "-" ++ (text ++ suffix)) (sym front ∙ sym is ∙ grouped stem text suffix)

pub no_hyphen : (name stem suffix rest : List ℕ) → name ≡ stem ++ rest → ((more : List ℕ) → rest ≢ codes "-" ++ more)
    → (text : List ℕ) → stem ++ codes "-" ++ text ++ suffix ≢ name
no_hyphen name stem suffix rest front none text is = none (text ++ suffix) (behind_stem name stem suffix rest text front is)

behind_hyphen : (name stem suffix rest more text : List ℕ) → name ≡ stem ++ rest → rest ≡ codes "-" ++ more
    → stem ++ codes "-" ++ text ++ suffix ≡ name → more ≡ text ++ suffix
behind_hyphen name stem suffix rest more text front hyphen is =
    append_cancel_left (codes "-") more (text ++ suffix) (sym hyphen ∙ behind_stem name stem suffix rest text front is)

pub ends_so : (name stem suffix rest more : List ℕ) (r : Option (Bor (List ℕ))) → name ≡ stem ++ rest → rest ≡ codes "-" ++ more
    → MatchOption r ((front : List ℕ) → more ≢ front ++ suffix) (λ front. more ≡ front.now ++ suffix)
    → MatchOption r ((text : List ℕ) → stem ++ codes "-" ++ text ++ suffix ≢ name) (λ text. stem ++ codes "-" ++ text.now ++ suffix ≡ name)
ends_so name stem suffix rest more None front hyphen none = λ text is. none text (behind_hyphen name stem suffix rest more text front hyphen is)
ends_so name stem suffix rest more (Some text) front hyphen is =
    grouped stem text.now suffix ∙ sym (front ∙ ap (λ l. stem ++ l) (hyphen ∙ ap (λ l. codes "-" ++ l) is))

-- Lemmas on when a file name contains no period, such as `2026-11` in `office-2026-11.db`.

pub no_name : (file name : List ℕ) (period : Period) → ((text : List ℕ) → stem_of file ++ codes "-" ++ text ++ suffix_of file ≢ name)
    → IsPeriodIn file period name None
no_name file name period none = λ text called. none text called.named

-- If the text in a file name does not have the form of a period, such as `2026-11`, then the name
-- has no period.
pub other_text : (file name text : List ℕ) (period : Period) → stem_of file ++ codes "-" ++ text ++ suffix_of file ≡ name → spells period text ≡ false
    → IsPeriodIn file period name None
other_text file name text period is unspelled = λ other called.
    let both : stem_of file ++ codes "-" ++ other ++ suffix_of file ≡ stem_of file ++ codes "-" ++ text ++ suffix_of file = called.named ∙ sym is in
    let fronts : stem_of file ++ codes "-" ++ other ≡ stem_of file ++ codes "-" ++ text = append_cancel_right _ _ (suffix_of file) both in
    let same : other ≡ text = append_cancel_left (stem_of file ++ codes "-") other text fronts in
    let spelled : spells period text ≡ true = ap (λ t. spells period t) (sym same) ∙ called.spelled in
    let no_way : false ≡ true = sym unspelled ∙ spelled in
    absurd (cc no_way)
