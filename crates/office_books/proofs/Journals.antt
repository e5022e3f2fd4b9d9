-- Lemmas about the journals (histories) of meters. If the rules for adding records accept each
-- record after the earlier ones, then the rules for each meter's journal accept each of its lines.
use Rattle.std.proofs.Common.{◌≡◌, ℕ, true, false, cond, List, [], ◌∷◌, refl, sym, ap, subst, ◌∙◌, inl, inr, Option, Some, None}
use Rattle.std.specs.List.{cons_option}
use Rattle.std.proofs.lemmas.Bool.{cases_Bool, cond-true, cond-false}
use Rattle.std.proofs.lemmas.Option.{same_Some}
use Rattle.meter_journal.specs.Journal as journal
use Rattle.meter_journal.specs.Fitting as journals
use Rattle.meter_journal.specs.Books.{IsWellInstalled}
use Rattle.meter_journal.specs.Laws as laws
use Rattle.office_events.specs.declared.facts.Opening.{Opening}
use Rattle.office_events.specs.declared.facts.Fact.{Fact}
use Rattle.office_events.specs.declared.facts.Fact.TheVariants as fact
use Rattle.office_books.specs.Facts.{same, openings_in, opening_of}
use Rattle.office_books.specs.Meters.{held_line, installed, journal_of}
use Rattle.office_books.specs.Lawful.{OpeningFits, LineFits, AreLawful}
use Rattle.office_books.specs.Laws.{IsRecorded, JournalsFit, MetersAreKept, TruthIsRecorded, VoidsLeaveNoTrace}
use Rattle.office_books.proofs.Lookups.{same_text, find_none, each_found}
use Rattle.office_books.proofs.FoundOpenings.{openings_apart}
use Rattle.std.proofs.lemmas.List.Elements.{All-contains}

-- If a statement about two names holds for equal names and for different names, then the statement
-- holds.
pub by_name : {P : Type 0} (a b : List ℕ) → (same a b ≡ true → a ≡ b → P) → (same a b ≡ false → P) → P
by_name a b here elsewhere =
    elim (cases_Bool (same a b)) [
      | inl e ↦ here e (same_text a b e)
      | inr e ↦ elsewhere e
    ]

pub none_and_some : {X P : Type 0} (o : Option X) (x : X) → o ≡ None → o ≡ Some x → P
none_and_some o x n s = absurd (let e : None ≡ Some x = sym n ∙ s in cc)

-- The journal line (a line of a meter's history) if it belongs to the meter with the given name,
-- otherwise `None`.
abbrev pub line_if : (meter m : List ℕ) → journal.Line → Option journal.Line
line_if meter m line = cond (same meter m) (Some line) None

no_line : (facts : List Fact) (m meter : List ℕ) (line : journal.Line) → LineFits facts meter line → opening_of facts m ≡ None
    → journal_of facts m ≡ [] → cons_option (line_if meter m line) (journal_of facts m) ≡ []
no_line facts m meter line fits none rest =
    by_name meter m
    (λ e name. none_and_some (opening_of facts m) fits.opening none (subst (λ (t : List ℕ). opening_of facts t ≡ Some fits.opening) name fits.there))
    (λ e. ap (λ b. cons_option (cond b (Some line) None) (journal_of facts m)) e ∙ rest)

-- If a meter is not installed, then the journal (history) of the meter is empty.
pub nothing_before : (facts : List Fact) (m : List ℕ) → AreLawful facts → opening_of facts m ≡ None → journal_of facts m ≡ []
nothing_before [] m h none = refl
nothing_before (fact.Device d ∷ facts) m h none = nothing_before facts m h.1 none
nothing_before (fact.List l ∷ facts) m h none = nothing_before facts m h.1 none
nothing_before (fact.Register r ∷ facts) m h none = nothing_before facts m h.1 none
nothing_before (fact.Opening p ∷ facts) m h none =
    nothing_before facts m h.1 (find_none (λ (q : Opening). same q.meter m) p (openings_in facts) none).1
nothing_before (fact.Entry b ∷ facts) m h none =
    no_line facts m b.meter (journal.Entered b.kind b.entry) h.0.0 none (nothing_before facts m h.1 none)
nothing_before (fact.Hold b ∷ facts) m h none =
    no_line facts m b.meter (held_line b) h.0.0.line none (nothing_before facts m h.1 none)
nothing_before (fact.Void v ∷ facts) m h none =
    no_line facts m v.meter (journal.Voided v.place) h.0.0 none (nothing_before facts m h.1 none)
nothing_before (fact.Poll p ∷ facts) m h none = nothing_before facts m h.1 none
nothing_before (fact.Outcome e ∷ facts) m h none = nothing_before facts m h.1 none
nothing_before (fact.Reply r ∷ facts) m h none = nothing_before facts m h.1 none

-- True if a search for a meter by name finds the given opening (installation record).
abbrev pub IsInstalled : List Fact → Opening → Type 0
IsInstalled facts opening = opening_of facts opening.meter ≡ Some opening

abbrev pub Fitting : List Fact → Opening → Type 0
Fitting facts o = journals.AreFitting (installed o) (journal_of facts o.meter)

one_line : (facts : List Fact) (o : Opening) (meter : List ℕ) (line : journal.Line) → LineFits facts meter line → IsInstalled facts o
    → Fitting facts o → journals.AreFitting (installed o) (cons_option (line_if meter o.meter line) (journal_of facts o.meter))
one_line facts o meter line fits there rest =
    by_name meter o.meter
    (λ e name.
    let found : opening_of facts o.meter ≡ Some fits.opening = subst (λ (t : List ℕ). opening_of facts t ≡ Some fits.opening) name fits.there in
    let is : fits.opening ≡ o = same_Some fits.opening o (sym found ∙ there) in
    let here : journals.Fits (installed o) (journal_of facts o.meter) line =
    subst (λ (x : Opening). journals.Fits (installed x) (journal_of facts x.meter) line) is fits.fits in
    subst (λ b. journals.AreFitting (installed o) (cons_option (cond b (Some line) None) (journal_of facts o.meter))) (sym e) (here, rest))
    (λ e. subst (λ b. journals.AreFitting (installed o) (cons_option (cond b (Some line) None) (journal_of facts o.meter))) (sym e) rest)

-- Suppose that a search for a meter's name finds an opening (installation record) after a new
-- opening was recorded. Then the found opening is the new one, or the search also found it before
-- the new one was recorded.
pub by_opening : {P : Type 0} (facts : List Fact) (p o : Opening) → IsInstalled (fact.Opening p ∷ facts) o
    → (p ≡ o → P) → (IsInstalled facts o → P) → P
by_opening facts p o found here elsewhere =
    by_name p.meter o.meter
    (λ e name. here (same_Some p o (sym (cond-true _ _ _ e) ∙ found)))
    (λ e. elsewhere (sym (cond-false _ _ _ e) ∙ found))

-- If a meter is installed, then the rules for meter entries accept each line of the meter's journal
-- (history) after the lines before it.
pub installed_fits : (facts : List Fact) (o : Opening) → AreLawful facts → IsInstalled facts o → Fitting facts o
installed_fits [] o h there = tt
installed_fits (fact.Device d ∷ facts) o h there = installed_fits facts o h.1 there
installed_fits (fact.List l ∷ facts) o h there = installed_fits facts o h.1 there
installed_fits (fact.Register r ∷ facts) o h there = installed_fits facts o h.1 there
installed_fits (fact.Opening p ∷ facts) o h there =
    by_opening facts p o there
    (λ is.
    let none : journal_of facts o.meter ≡ [] =
    nothing_before facts o.meter h.1 (subst (λ (x : Opening). opening_of facts x.meter ≡ None) is h.0.0.new) in
    subst (journals.AreFitting (installed o)) (sym none) tt)
    (λ before. installed_fits facts o h.1 before)
installed_fits (fact.Entry b ∷ facts) o h there =
    one_line facts o b.meter (journal.Entered b.kind b.entry) h.0.0 there (installed_fits facts o h.1 there)
installed_fits (fact.Hold b ∷ facts) o h there =
    one_line facts o b.meter (held_line b) h.0.0.line there (installed_fits facts o h.1 there)
installed_fits (fact.Void v ∷ facts) o h there =
    one_line facts o v.meter (journal.Voided v.place) h.0.0 there (installed_fits facts o h.1 there)
installed_fits (fact.Poll p ∷ facts) o h there = installed_fits facts o h.1 there
installed_fits (fact.Outcome e ∷ facts) o h there = installed_fits facts o h.1 there
installed_fits (fact.Reply r ∷ facts) o h there = installed_fits facts o h.1 there

-- If a meter is installed, then the counter value and the scale factor at its installation are in
-- range.
pub well : (facts : List Fact) (o : Opening) → AreLawful facts → IsInstalled facts o → IsWellInstalled (installed o)
well [] o h there = absurd (cc)
well (fact.Device d ∷ facts) o h there = well facts o h.1 there
well (fact.List l ∷ facts) o h there = well facts o h.1 there
well (fact.Register r ∷ facts) o h there = well facts o h.1 there
well (fact.Opening p ∷ facts) o h there =
    by_opening facts p o there
    (λ is. let fits : OpeningFits facts p = h.0.0 in
    subst (λ (x : Opening). IsWellInstalled (installed x)) is (record { raw = fits.raw; scale = fits.scale }))
    (λ before. well facts o h.1 before)
well (fact.Entry b ∷ facts) o h there = well facts o h.1 there
well (fact.Hold b ∷ facts) o h there = well facts o h.1 there
well (fact.Void v ∷ facts) o h there = well facts o h.1 there
well (fact.Poll p ∷ facts) o h there = well facts o h.1 there
well (fact.Outcome e ∷ facts) o h there = well facts o h.1 there
well (fact.Reply r ∷ facts) o h there = well facts o h.1 there

-- If a meter's opening (installation record) is recorded, then a search for the meter's name finds
-- this opening.
pub found : (facts : List Fact) (o : Opening) → AreLawful facts → IsRecorded facts o → IsInstalled facts o
found facts o h there =
    All-contains (λ (x : Opening). IsInstalled facts x) (openings_in facts) o
    (each_found (λ (x : Opening). x.meter) (openings_in facts) (openings_apart facts h)) there

pub journals_fit : JournalsFit
journals_fit facts o h there = installed_fits facts o h (found facts o h there)

pub meters_are_kept : laws.JournalsBalance → laws.JournalsAreKept → laws.IntervalRowsAreAccounts → laws.IntervalRowsAddUp → MetersAreKept
meters_are_kept balance kept rows sum facts o h there =
    let own = well facts o h (found facts o h there) in
    let fits = journals_fit facts o h there in
    let lines : journal.Journal = journal_of facts o.meter in
    record {
      energy = balance (installed o) lines own fits;
      account = kept (installed o) lines own fits;
      rows = rows (installed o) lines own fits;
      sum = sum (installed o) lines own fits;
    }

pub truth_is_recorded : laws.TruthIsKept → TruthIsRecorded
truth_is_recorded law facts o first items h there run =
    law (installed o) (journal_of facts o.meter) first items (well facts o h (found facts o h there)) (journals_fit facts o h there) run

pub voids_leave_no_trace : laws.RowsStand → laws.VoidsLeaveNoTrace → VoidsLeaveNoTrace
voids_leave_no_trace rows alone facts o h there =
    let own = well facts o h (found facts o h there) in
    let fits = journals_fit facts o h there in
    let lines : journal.Journal = journal_of facts o.meter in
    record { rows = rows (installed o) lines own fits; alone = alone (installed o) lines own fits }
