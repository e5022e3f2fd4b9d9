-- Lemmas: in valid records, the counter value, energy and limits of each recorded meter are in
-- range, and the rules for meter entries accept the meter's journal (history).
use Rattle.std.proofs.Common.{◌≡◌, suc, Bool, List, [], ◌∷◌, Some, sym, subst, ◌∙◌, inl, inr, arith}
use Rattle.std.specs.List.{find, Contains}
use Rattle.std.proofs.lemmas.Bool.{cases_Bool, cond-true, cond-false}
use Rattle.std.proofs.lemmas.Option.{same_Some}
use Rattle.meter_journal.specs.declared.lines.EntryRow.{EntryRow}
use Rattle.meter_journal.specs.Books.{IsWellInstalled, HasAccount}
use Rattle.meter_journal.specs.Fitting.{AreFitting}
use Rattle.meter_journal.specs.Journal.{entries_in}
use Rattle.meter_journal.specs.Laws.{JournalsAreKept}
use Rattle.office_events.specs.declared.facts.Opening.{Opening}
use Rattle.office_events.specs.declared.facts.Fact.{Fact}
use Rattle.office_books.specs.Lawful.{AreLawful}
use Rattle.office_books.specs.Meters.{installed, journal_of, rows_of}
use Rattle.office_books.specs.Laws.{IsRecorded, JournalsFit}
use Rattle.office_books.specs.Ranges.{InstallationsAreInRange}
use Rattle.office_books.proofs.Journals.{found, well as well_installed}
use Rattle.office_books.specs.Sound.{HasNumbers}

pub record IsKnown (facts : List Fact) (o : Opening) : Type 0 where
  pub numbers : HasNumbers o
  pub well : IsWellInstalled (installed o)
  pub fits : AreFitting (installed o) (journal_of facts o.meter)
  pub account : (rows : List EntryRow) → rows ≡ rows_of facts o → HasAccount (installed o) (entries_in rows)

pub known : JournalsFit → JournalsAreKept → InstallationsAreInRange → (facts : List Fact) (o : Opening) → AreLawful facts → IsRecorded facts o
    → IsKnown facts o
known journals kept ranges facts o lawful there =
    let own = well_installed facts o lawful (found facts o lawful there) in
    let range = (ranges facts lawful).recorded o there in
    let fits = journals facts o lawful there in
    record {
      numbers = record { range = range.range; ceiling = range.ceiling; raw = own.raw; scale = own.scale };
      well = own;
      fits = fits;
      account = λ rows is. subst (λ (rs : List EntryRow). HasAccount (installed o) (entries_in rs)) (sym is) (kept (installed o) (journal_of facts o.meter) own fits).account;
    }

-- If a search finds an element, then the element is in the list.
pub found_is_there : {X : Type 0} (p : X → Bool) (xs : List X) (x : X) → find p xs ≡ Some x → Contains xs x
found_is_there p [] x h = absurd (cc)
found_is_there p (y ∷ ys) x h =
    elim (cases_Bool (p y)) [
      | inl e ↦ let same_one : Some y ≡ Some x = sym (cond-true _ _ _ e) ∙ h in (0, omega arith, same_Some y x same_one)
      | inr e ↦
          let rest = found_is_there p ys x (sym (cond-false _ _ _ e) ∙ h) in (suc rest.0, omega (arith, rest.1), rest.2)
    ]
