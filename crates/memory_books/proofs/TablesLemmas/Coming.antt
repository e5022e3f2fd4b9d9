-- Lemmas: a lookup table that is updated for the store's records one by one has the content that
-- follows from the records for which it was updated.
use Rattle.std.proofs.Common.{◌≡◌, ℕ, ◌+◌, ◌<◌, ◌≤◌, List, [], ◌∷◌, ◌++◌, reverse, take, drop, length, get_or, sym, ap, subst, ◌∙◌, arith}
use Rattle.std.proofs.lemmas.List.{reverse-append, length-reverse, length-take-le, take-append-drop, take-append-le, take_all, length-append}
use Rattle.office_events.specs.declared.facts.Fact.{Fact}
use Rattle.office_books.specs.Lawful.{AreLawful}
use Rattle.office_books.proofs.Lists.{reverse_more}
use Rattle.memory_books.specs.declared.tables.table.Kept.{Kept}
use Rattle.memory_books.specs.Tables.Growing.{HasCome, latest_first}

lawful_before : (later known : List Fact) → AreLawful (later ++ known) → AreLawful known
lawful_before [] known h = h
lawful_before (f ∷ later) known h = lawful_before later known h.1

-- If the rules for adding records accept each record of a list after the records before it, then
-- they also accept each of the first `k` records.
pub first_lawful : (facts : List Fact) (k : ℕ) → AreLawful (latest_first facts) → AreLawful (latest_first (take k facts))
first_lawful facts k h =
    lawful_before (reverse (drop k facts)) (reverse (take k facts))
    (subst AreLawful (ap reverse (sym (take-append-drop k facts)) ∙ reverse-append (take k facts) (drop k facts)) h)

-- Suppose that a lookup table has the content that follows from the first records of a list. If the
-- table is updated for the next record, it has the content that follows from the records including
-- this one.
pub come_on : {T : Type 0} (says : T → List Fact → Type 0) (old new : Kept T) (facts : List Fact) (f : Fact) → AreLawful (latest_first facts)
    → HasCome says old facts → old.count < length facts → f ≡ get_or facts old.count f → new.count ≡ old.count + 1
    → ((known : List Fact) → AreLawful (f ∷ known) → length known ≡ old.count → says old.table known → says new.table (f ∷ known))
    → HasCome says new facts
come_on says old new facts f lawful come less is counted put =
    let more : reverse (take (old.count + 1) facts) ≡ f ∷ reverse (take old.count facts) = reverse_more facts old.count f less is in
    let before : List Fact = reverse (take old.count facts) in
    let long : length before ≡ old.count = length-reverse (take old.count facts) ∙ length-take-le old.count facts (omega arith) in
    let may : AreLawful (f ∷ before) = subst AreLawful more (first_lawful facts (old.count + 1) lawful) in
    record {
      few = omega (arith, counted);
      said = subst (says new.table) (sym (ap (λ (k : ℕ). reverse (take k facts)) counted ∙ more)) (put before may long come.said);
    }

-- If a lookup table was updated for every record of a list, then it has the content that follows
-- from the complete list.
pub come_whole : {T : Type 0} (says : T → List Fact → Type 0) (kept : Kept T) (facts : List Fact) → HasCome says kept facts
    → length facts ≤ kept.count → says kept.table (latest_first facts)
come_whole says kept facts come all =
    subst (λ (xs : List Fact). says kept.table (reverse xs)) (take_all kept.count facts all) come.said

-- If records are appended to the store's list, a lookup table still has the content that follows
-- from the earlier records, for which it was already updated.
pub come_with : {T : Type 0} (says : T → List Fact → Type 0) (kept : Kept T) (facts more : List Fact) → HasCome says kept facts → HasCome says kept (facts ++ more)
come_with says kept facts more come = record {
  few = omega (arith, come.few, length-append facts more);
  said = subst (λ (xs : List Fact). says kept.table (reverse xs)) (sym (take-append-le kept.count facts more come.few)) come.said;
}
