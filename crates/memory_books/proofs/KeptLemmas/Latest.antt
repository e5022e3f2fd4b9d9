-- Lemmas: after one more record, a cached meter is still the meter that was installed last at its
-- accounting register (a named energy counter).
use Rattle.std.proofs.Common.{◌≡◌, ℕ, List, ◌∷◌, Option, Some, None, refl, sym, ap, subst, ◌∙◌, Result, Ok, Bor, IfSome}
use Rattle.std.specs.Option.{option_map, option_copied}
use Rattle.energy_core.specs.declared.entries.Last.{Last}
use Rattle.energy_core.specs.declared.entries.Step.{Step}
use Rattle.energy_core.specs.declared.admission.TermFault.{TermFault}
use Rattle.energy_core.specs.Account.{step_to}
use Rattle.office_events.specs.declared.facts.BookedEntry.{BookedEntry}
use Rattle.office_events.specs.declared.facts.Opening.{Opening}
use Rattle.office_events.specs.declared.facts.Fact.{Fact}
use Rattle.office_events.specs.declared.facts.Fact.TheVariants as fact
use Rattle.office_events.specs.declared.questions.Installation.{Installation}
use Rattle.office_books.specs.Facts.{same, openings_in, opening_of, installed_at}
use Rattle.office_books.specs.Lawful.{AreLawful}
use Rattle.office_books.specs.Meters.{line_of, installation_of, installation_at}
use Rattle.office_books.specs.Ranges.{IsSound, InstallationsAreInRange}
use Rattle.office_books.specs.Steps.{OtherMetersStay, EntriesMoveOn, moved_by}
use Rattle.office_books.proofs.Lookups.{same_text, find_passes}
use Rattle.office_books.proofs.FoundOpenings.{found_installed}
use Rattle.office_books.specs.Sound.{MayEnter}
use Rattle.memory_books.specs.declared.kept.answers.Answers.{Answers}
use Rattle.memory_books.specs.Kept.Answers.{answer_to, EachIs}
use Rattle.memory_books.specs.Kept.Known.{IsLatest}

-- Suppose that a record concerns another meter than a given one, and installs no meter at the given
-- meter's accounting register (a named energy counter). If the given meter was installed last at
-- the register, this is still true, and its state is unchanged.
pub latest_stays : OtherMetersStay → (f : Fact) (facts : List Fact) (meter : List ℕ) (row : Installation) → line_of row.opening.meter f ≡ None
    → installed_at (f ∷ facts) row.opening.register ≡ installed_at facts row.opening.register
    → IsLatest facts meter row → IsLatest (f ∷ facts) meter row
latest_stays law f facts meter row none same_one is = record {
  own = is.own;
  there = same_one ∙ is.there;
  stands = is.stands ∙ sym (law f facts row.opening none).installation;
}

-- Suppose that a meter's state agrees with the records, and that the meter was installed last at
-- its accounting register (a named energy counter). Then a lookup by this register returns the
-- state.
pub at_register : (facts : List Fact) (meter : List ℕ) (row : Installation) → IsLatest facts meter row
    → installation_at facts row.opening.register ≡ Some row
at_register facts meter row is =
    ap (option_map (installation_of facts)) is.there ∙ ap (λ (r : Installation). let o : Option Installation = Some r in o) (sym is.stands)

-- If a cache has a meter's state, and its results follow from the records, then a lookup by the
-- meter's accounting register (a named energy counter) returns this state.
pub at_its_register : (facts : List Fact) (rows : Answers Installation) (meter : List ℕ) (row : Option (Bor Installation))
    → option_copied row ≡ answer_to rows meter → EachIs (IsLatest facts) rows
    → IfSome row (λ r. installation_at facts r.now.opening.register ≡ Some r.now)
at_its_register facts rows meter None is are = tt
at_its_register facts rows meter (Some row) is are = at_register facts meter row.now (are meter row.now (sym is))

-- If a lookup by accounting register (a named energy counter) finds a meter's state, this state
-- follows from the records, and no meter was installed later at the register.
found_so : (facts : List Fact) (register : List ℕ) (row : Installation) (found : Option Opening) → installed_at facts register ≡ found
    → option_map (installation_of facts) found ≡ Some row → IsLatest facts row.opening.meter row
found_so facts register row None at is = absurd (cc)
found_so facts register row (Some o) at is =
    let stands : installation_of facts o ≡ row = (let r : Installation = installation_of facts o in let s : Some r ≡ Some row = is in cc) in
    let opening_is : o ≡ row.opening = ap (λ (r : Installation). r.opening) stands in
    let own_register : o.register ≡ register = same_text o.register register (find_passes (λ (x : Opening). same x.register register) (openings_in facts) o at) in
    record {
      own = refl;
      there = subst (λ (x : Opening). installed_at facts x.register ≡ Some x) opening_is (ap (installed_at facts) own_register ∙ at);
      stands = sym stands ∙ ap (installation_of facts) opening_is;
    }

pub found_latest : (facts : List Fact) (register : List ℕ) (row : Installation) → installation_at facts register ≡ Some row
    → IsLatest facts row.opening.meter row
found_latest facts register row is = found_so facts register row (installed_at facts register) refl is

-- Helper lemmas: after an entry of a meter is recorded and advances the meter's cached state, the
-- cached state follows from the records.
sound_so : (row : Installation) → IsSound row → IsSound row
sound_so row h = record { range = h.range; ceiling = h.ceiling; raw = h.raw; scale = h.scale; total = h.total }

booked_so : Last → Step → Result (Last × Step) TermFault
booked_so last step = Ok (last, step)

pub moved_latest : EntriesMoveOn → InstallationsAreInRange → (facts : List Fact) (b : BookedEntry) (before row : Installation)
    → AreLawful (fact.Entry b ∷ facts) → IsLatest facts b.meter before
    → (IsSound before → MayEnter before b.entry → row ≡ moved_by b.kind b.entry before)
    → IsLatest (fact.Entry b ∷ facts) b.meter row
unfolding booked_so
moved_latest law ranges facts b before row lawful is moves_by =
    let o : Opening = before.opening in
    let stood : Installation = installation_of facts o in
    let found : opening_of facts b.meter ≡ Some o =
    subst (λ (m : List ℕ). opening_of facts m ≡ Some o) is.own (found_installed facts o.register o lawful.1 is.there) in
    let moves = law b facts o lawful found in
    let sound : IsSound before =
    subst IsSound (sym is.stands) (sound_so stood ((ranges facts lawful.1).at_register o.register stood (ap (option_map (installation_of facts)) is.there))) in
    let may : MayEnter before b.entry =
    subst (λ (r : Installation). MayEnter r b.entry) (sym is.stands)
    (moves.goes_on.booked ∙ ap (λ (l : Last). booked_so l (step_to o.range stood.last b.entry)) moves.goes_on.last) in
    let row_is : row ≡ installation_of (fact.Entry b ∷ facts) o =
    moves_by sound may ∙ ap (moved_by b.kind b.entry) is.stands ∙ sym moves.installation in
    let opening_is : row.opening ≡ o = ap (λ (r : Installation). r.opening) row_is in
    record {
      own = ap (λ (x : Opening). x.meter) opening_is ∙ is.own;
      there = subst (λ (x : Opening). installed_at facts x.register ≡ Some x) (sym opening_is) is.there;
      stands = row_is ∙ ap (installation_of (fact.Entry b ∷ facts)) (sym opening_is);
    }
