-- Lemmas that each meter of an accounting register (an energy counter) is opened only after the
-- register's earlier meters were closed.
use Rattle.std.proofs.Common.{◌≡◌, ℕ, ◌≤◌, Bool, true, false, cond, List, [], ◌∷◌, refl, sym, ap, subst, ◌∙◌, inl, inr, Option, Some, None, arith}
use Rattle.std.specs.List.{filter, find, cons_option}
use Rattle.std.specs.Option.{option_map, option_and_then}
use Rattle.std.proofs.lemmas.Bool.{cases_Bool, cond-true, cond-false}
use Rattle.std.proofs.lemmas.Option.{same_Some}
use Rattle.meter_journal.specs.Journal as journal
use Rattle.meter_journal.specs.Fitting as journals
use Rattle.meter_journal.specs.Books.{last_in}
use Rattle.meter_journal.specs.Changes.{VoidsGoNoFurther}
use Rattle.meter_journal.proofs.Chains.{last_moment}
use Rattle.office_events.specs.declared.facts.Opening.{Opening}
use Rattle.office_events.specs.declared.facts.Fact.{Fact}
use Rattle.office_events.specs.declared.facts.Fact.TheVariants as fact
use Rattle.office_books.specs.Facts.{same, openings_in, opening_of, installed_at, latest_in}
use Rattle.office_books.specs.Meters.{held_line, installed, journal_of, is_ended, installation_of, if_open, open_at}
use Rattle.office_books.specs.Lawful.{OpeningFits, LineFits, AreLawful}
use Rattle.office_books.proofs.Lookups.{same_text, same_itself}
use Rattle.office_books.proofs.Journals.{by_name, none_and_some, line_if, by_opening, nothing_before, IsInstalled, installed_fits, well}

-- The timestamp of a meter's last entry that was not voided (cancelled). Without such entries, the
-- timestamp of the meter's installation.
abbrev pub last_at : List Fact → Opening → ℕ
last_at facts o = (last_in (installed o) (journal_of facts o.meter)).at

-- If a meter is installed, then it is still installed after a record is added.
still_installed : (f : Fact) (facts : List Fact) (o : Opening) → AreLawful (f ∷ facts) → IsInstalled facts o → IsInstalled (f ∷ facts) o
still_installed (fact.Device d) facts o h there = there
still_installed (fact.List l) facts o h there = there
still_installed (fact.Register r) facts o h there = there
still_installed (fact.Opening p) facts o h there =
    by_name p.meter o.meter
    (λ e name. none_and_some (opening_of facts o.meter) o (subst (λ (t : List ℕ). opening_of facts t ≡ None) name h.0.0.new) there)
    (λ e. cond-false _ _ _ e ∙ there)
still_installed (fact.Entry b) facts o h there = there
still_installed (fact.Hold b) facts o h there = there
still_installed (fact.Void v) facts o h there = there
still_installed (fact.Poll p) facts o h there = there
still_installed (fact.Outcome e) facts o h there = there
still_installed (fact.Reply r) facts o h there = there

-- Suppose that a property holds for a meter's journal (history), and for the journal with one more
-- line. Then the property holds after the line is recorded, whichever meter the line belongs to.
by_line : (P : journal.Journal → Type 0) (facts : List Fact) (o : Opening) (meter : List ℕ) (line : journal.Line) → LineFits facts meter line
    → IsInstalled facts o
    → (journals.Fits (installed o) (journal_of facts o.meter) line → P (line ∷ journal_of facts o.meter))
    → P (journal_of facts o.meter)
    → P (cons_option (line_if meter o.meter line) (journal_of facts o.meter))
by_line P facts o meter line fits there here elsewhere =
    by_name meter o.meter
    (λ e name.
    let found : opening_of facts o.meter ≡ Some fits.opening = subst (λ (t : List ℕ). opening_of facts t ≡ Some fits.opening) name fits.there in
    let is : fits.opening ≡ o = same_Some fits.opening o (sym found ∙ there) in
    subst (λ b. P (cons_option (cond b (Some line) None) (journal_of facts o.meter))) (sym e)
    (here (subst (λ (x : Opening). journals.Fits (installed x) (journal_of facts x.meter) line) is fits.fits)))
    (λ e. subst (λ b. P (cons_option (cond b (Some line) None) (journal_of facts o.meter))) (sym e) elsewhere)

-- If the records follow the rules for adding records (`AreLawful`), then the timestamp of a meter's
-- last entry is at most the latest timestamp of the records.
pub last_is_recorded : VoidsGoNoFurther → (facts : List Fact) (o : Opening) → AreLawful facts → IsInstalled facts o → last_at facts o ≤ latest_in facts
last_is_recorded law [] o h there = absurd (cc)
last_is_recorded law (fact.Device d ∷ facts) o h there = omega (arith, last_is_recorded law facts o h.1 there)
last_is_recorded law (fact.List l ∷ facts) o h there = omega (arith, last_is_recorded law facts o h.1 there)
last_is_recorded law (fact.Register r ∷ facts) o h there = omega (arith, last_is_recorded law facts o h.1 there)
last_is_recorded law (fact.Opening p ∷ facts) o h there =
    by_opening facts p o there
    (λ is.
    let none : journal_of facts o.meter ≡ [] =
    nothing_before facts o.meter h.1 (subst (λ (x : Opening). opening_of facts x.meter ≡ None) is h.0.0.new) in
    let at : last_at facts o ≡ o.at = ap (λ lines. (last_in (installed o) lines).at) none in
    omega (arith, at, ap (λ (x : Opening). x.at) is))
    (λ before. omega (arith, last_is_recorded law facts o h.1 before))
last_is_recorded law (fact.Entry b ∷ facts) o h there =
    let before = last_is_recorded law facts o h.1 there in
    by_line (λ lines. (last_in (installed o) lines).at ≤ latest_in (fact.Entry b ∷ facts)) facts o b.meter (journal.Entered b.kind b.entry) h.0.0 there
    (λ fits. omega (arith, last_moment (installed o) b.entry (journal.entries_of (installed o).opening (journal_of facts o.meter))))
    (omega (arith, before))
last_is_recorded law (fact.Hold b ∷ facts) o h there =
    let before = last_is_recorded law facts o h.1 there in
    by_line (λ lines. (last_in (installed o) lines).at ≤ latest_in (fact.Hold b ∷ facts)) facts o b.meter (held_line b) h.0.0.line there
    (λ fits. omega (arith, before)) (omega (arith, before))
last_is_recorded law (fact.Void v ∷ facts) o h there =
    let before = last_is_recorded law facts o h.1 there in
    by_line (λ lines. (last_in (installed o) lines).at ≤ latest_in (fact.Void v ∷ facts)) facts o v.meter (journal.Voided v.place) h.0.0 there
    (λ fits. omega (arith, before, law (installed o) (journal_of facts o.meter) v.place (well facts o h.1 there) (fits, installed_fits facts o h.1 there)))
    (omega (arith, before))
last_is_recorded law (fact.Poll p ∷ facts) o h there = omega (arith, last_is_recorded law facts o h.1 there)
last_is_recorded law (fact.Outcome e ∷ facts) o h there = omega (arith, last_is_recorded law facts o h.1 there)
last_is_recorded law (fact.Reply r ∷ facts) o h there = omega (arith, last_is_recorded law facts o h.1 there)

-- True if the meter was closed, and the timestamp of its last entry is at most `at`.
pub record IsOver (facts : List Fact) (at : ℕ) (o : Opening) : Type 0 where
  pub there : IsInstalled facts o
  pub ended : is_ended facts o ≡ true
  pub last : last_at facts o ≤ at

-- True if the journal (history) of a meter has a closing, and the timestamp of the journal's last
-- entry is at most `at`.
record IsDone (o : Opening) (at : ℕ) (lines : journal.Journal) : Type 0 where
  ended : journal.is_ended lines ≡ true
  last : (last_in (installed o) lines).at ≤ at

not_done : {P : Type 0} (o : Opening) (at : ℕ) (lines : journal.Journal) → IsDone o at lines → journal.is_ended lines ≡ false → P
not_done o at lines h n = absurd (let e : true ≡ false = sym h.ended ∙ n in cc)

still_done : VoidsGoNoFurther → (f : Fact) (facts : List Fact) (at : ℕ) (o : Opening) → AreLawful (f ∷ facts) → IsInstalled facts o
    → IsDone o at (journal_of facts o.meter) → IsDone o at (journal_of (f ∷ facts) o.meter)
still_done law (fact.Device d) facts at o h there done = done
still_done law (fact.List l) facts at o h there done = done
still_done law (fact.Register r) facts at o h there done = done
still_done law (fact.Opening p) facts at o h there done = done
still_done law (fact.Entry b) facts at o h there done =
    by_line (IsDone o at) facts o b.meter (journal.Entered b.kind b.entry) h.0.0 there
    (λ fits. not_done o at (journal_of facts o.meter) done fits.0) done
still_done law (fact.Hold b) facts at o h there done =
    by_line (IsDone o at) facts o b.meter (held_line b) h.0.0.line there
    (λ fits. not_done o at (journal_of facts o.meter) done fits.0) done
still_done law (fact.Void v) facts at o h there done =
    by_line (IsDone o at) facts o v.meter (journal.Voided v.place) h.0.0 there
    (λ fits.
    let less = law (installed o) (journal_of facts o.meter) v.place (well facts o h.1 there) (fits, installed_fits facts o h.1 there) in
    record { ended = done.ended; last = omega (arith, less, done.last) })
    done
still_done law (fact.Poll p) facts at o h there done = done
still_done law (fact.Outcome e) facts at o h there done = done
still_done law (fact.Reply r) facts at o h there done = done

still_over : VoidsGoNoFurther → (f : Fact) (facts : List Fact) (at : ℕ) (o : Opening) → AreLawful (f ∷ facts) → IsOver facts at o → IsOver (f ∷ facts) at o
still_over law f facts at o h over =
    let done = still_done law f facts at o h over.there (record { ended = over.ended; last = over.last }) in
    record { there = still_installed f facts o h over.there; ended = done.ended; last = done.last }

abbrev pub AllOver : List Fact → (at : ℕ) → List Opening → Type 0
AllOver facts at [] = Unit {0}
AllOver facts at (o ∷ os) = IsOver facts at o × AllOver facts at os

-- True if each meter of a list was opened after all earlier meters of the list were closed. The
-- list begins with the latest meter.
abbrev pub InTurn : List Fact → List Opening → Type 0
InTurn facts [] = Unit {0}
InTurn facts (o ∷ os) = IsInstalled facts o × AllOver facts o.at os × InTurn facts os

all_still_over : VoidsGoNoFurther → (f : Fact) (facts : List Fact) (at : ℕ) (os : List Opening) → AreLawful (f ∷ facts) → AllOver facts at os → AllOver (f ∷ facts) at os
all_still_over law f facts at [] h over = tt
all_still_over law f facts at (o ∷ os) h over = (still_over law f facts at o h over.0, all_still_over law f facts at os h over.1)

still_in_turn : VoidsGoNoFurther → (f : Fact) (facts : List Fact) (os : List Opening) → AreLawful (f ∷ facts) → InTurn facts os → InTurn (f ∷ facts) os
still_in_turn law f facts [] h turn = tt
still_in_turn law f facts (o ∷ os) h turn =
    (still_installed f facts o h turn.0, all_still_over law f facts o.at os h turn.1, still_in_turn law f facts os h turn.2)

-- If all meters of a list were closed at or before some time, then also at or before each time that
-- is not earlier than the latest record.
over_by_now : VoidsGoNoFurther → (facts : List Fact) (at now : ℕ) (os : List Opening) → AreLawful facts → latest_in facts ≤ now
    → AllOver facts at os → AllOver facts now os
over_by_now law facts at now [] h latest over = tt
over_by_now law facts at now (o ∷ os) h latest over = (
  record { there = over.0.there; ended = over.0.ended; last = omega (arith, latest, last_is_recorded law facts o h over.0.there) },
  over_by_now law facts at now os h latest over.1,
)

-- The openings (installation records) of all meters that were installed at an accounting register
-- (an energy counter). The latest opening comes first.
abbrev pub openings_at : List Fact → (register : List ℕ) → List Opening
openings_at facts register = filter (λ o. same o.register register) (openings_in facts)

first_found : {X : Type 0} (p : X → Bool) (xs : List X) (y : X) (ys : List X) → filter p xs ≡ y ∷ ys → find p xs ≡ Some y
first_found p [] y ys h = absurd (cc)
first_found {X} p (x ∷ xs) y ys h =
    elim (cases_Bool (p x)) [
      | inl e ↦ cond-true _ _ _ e ∙ ap Some (let kept : x ∷ filter p xs ≡ y ∷ ys = sym (cond-true _ _ _ e) ∙ h in cc)
      | inr e ↦ cond-false _ _ _ e ∙ first_found p xs y ys (sym (cond-false _ _ _ e) ∙ h)
    ]

ended_where_free : (facts : List Fact) (o : Opening) → if_open (installation_of facts o) ≡ None → is_ended facts o ≡ true
ended_where_free facts o h =
    elim (cases_Bool (is_ended facts o)) [
      | inl e ↦ e
      | inr e ↦ absurd (let s : Some (installation_of facts o) ≡ None = sym (cond-false _ _ _ e) ∙ h in cc)
    ]

-- If an accounting register (an energy counter) has no open meter, then all meters that were
-- installed at the register are closed.
all_over : VoidsGoNoFurther → (facts : List Fact) (register : List ℕ) (now : ℕ) (os : List Opening) → AreLawful facts → latest_in facts ≤ now
    → open_at facts register ≡ None → openings_at facts register ≡ os → InTurn facts os → AllOver facts now os
all_over law facts register now [] h latest free is turn = tt
all_over law facts register now (o ∷ os) h latest free is turn =
    let first : installed_at facts register ≡ Some o = first_found (λ (x : Opening). same x.register register) (openings_in facts) o os is in
    let shut : if_open (installation_of facts o) ≡ None =
    sym (ap (λ (x : Option Opening). option_and_then if_open (option_map (installation_of facts) x)) first) ∙ free in (
      record { there = turn.0; ended = ended_where_free facts o shut; last = omega (arith, latest, last_is_recorded law facts o h turn.0) },
      over_by_now law facts o.at now os h latest turn.1,
    )

opened_in_turn : VoidsGoNoFurther → (p : Opening) (facts : List Fact) (register : List ℕ) → AreLawful (fact.Opening p ∷ facts)
    → InTurn facts (openings_at facts register) → InTurn (fact.Opening p ∷ facts) (openings_at (fact.Opening p ∷ facts) register)
opened_in_turn law p facts register h turn =
    let f : Fact = fact.Opening p in
    let os : List Opening = openings_at facts register in
    let fits : OpeningFits facts p = h.0.0 in
    elim (cases_Bool (same p.register register)) [
      | inl e ↦
          let free : open_at facts register ≡ None = subst (λ (r : List ℕ). open_at facts r ≡ None) (same_text p.register register e) fits.free in
          subst (InTurn (f ∷ facts)) (sym (cond-true _ _ _ e)) (
            cond-true _ _ _ (same_itself p.meter),
            all_still_over law f facts p.at os h (all_over law facts register p.at os h.1 fits.latest free refl turn),
            still_in_turn law f facts os h turn,
          )
      | inr e ↦ subst (InTurn (f ∷ facts)) (sym (cond-false _ _ _ e)) (still_in_turn law f facts os h turn)
    ]

-- If the records follow the rules for adding records (`AreLawful`), then each meter of an
-- accounting register was opened after the register's earlier meters were closed.
pub in_turn : VoidsGoNoFurther → (facts : List Fact) (register : List ℕ) → AreLawful facts → InTurn facts (openings_at facts register)
in_turn law [] register h = tt
in_turn law (fact.Device d ∷ facts) register h = still_in_turn law (fact.Device d) facts (openings_at facts register) h (in_turn law facts register h.1)
in_turn law (fact.List l ∷ facts) register h = still_in_turn law (fact.List l) facts (openings_at facts register) h (in_turn law facts register h.1)
in_turn law (fact.Register r ∷ facts) register h = still_in_turn law (fact.Register r) facts (openings_at facts register) h (in_turn law facts register h.1)
in_turn law (fact.Opening p ∷ facts) register h = opened_in_turn law p facts register h (in_turn law facts register h.1)
in_turn law (fact.Entry b ∷ facts) register h = still_in_turn law (fact.Entry b) facts (openings_at facts register) h (in_turn law facts register h.1)
in_turn law (fact.Hold b ∷ facts) register h = still_in_turn law (fact.Hold b) facts (openings_at facts register) h (in_turn law facts register h.1)
in_turn law (fact.Void v ∷ facts) register h = still_in_turn law (fact.Void v) facts (openings_at facts register) h (in_turn law facts register h.1)
in_turn law (fact.Poll p ∷ facts) register h = still_in_turn law (fact.Poll p) facts (openings_at facts register) h (in_turn law facts register h.1)
in_turn law (fact.Outcome e ∷ facts) register h = still_in_turn law (fact.Outcome e) facts (openings_at facts register) h (in_turn law facts register h.1)
in_turn law (fact.Reply r ∷ facts) register h = still_in_turn law (fact.Reply r) facts (openings_at facts register) h (in_turn law facts register h.1)
