-- The pending write of a device event: records that are not yet in the store, and their
-- notifications.
use Rattle.std.specs.Prelude.{◌≡◌, List, [], ◌∷◌, ◌++◌, reverse, Result, OnOk, IfOk, IsOk}
use Rattle.meter_journal.specs.declared.lines.EntryKind.TheVariants as kind
use Rattle.office_events.specs.declared.facts.Fact.{Fact}
use Rattle.office_events.specs.declared.facts.Fact.TheVariants as fact
use Rattle.office_events.specs.declared.answers.Note.{Note}
use Rattle.office_books.specs.Lawful.{AreLawful}
use Rattle.office_books.specs.declared.faults.BooksFault.{BooksFault}
use Rattle.office_books.specs.Ledgers.{Ledger}
use Rattle.office_core.specs.declared.settling.drafts.PendingWrite.{PendingWrite}

-- The store's records, followed by the records of the pending write (not yet stored). The resulting
-- list has the latest record first.
abbrev pub so_far : PendingWrite → (known : List Fact) → List Fact
so_far draft known = reverse draft.facts.items ++ known

-- True if `new` is the pending write (records not yet stored) `old` with one more record and its
-- notification.
pub record HasMore (old new : PendingWrite) (f : Fact) (note : Note) : Type 0 where
  pub facts : new.facts.items ≡ old.facts.items ++ f ∷ []
  pub notes : new.notes.items ≡ old.notes.items ++ note ∷ []

-- True if the record is the outcome of a poll, an accepted reading or a rejected reading. A device
-- event adds no other records.
abbrev pub IsReported : Fact → Type 0
IsReported (fact.Outcome ended) = Unit {0}
IsReported (fact.Entry booked) = booked.kind ≡ kind.Reading
IsReported (fact.Hold held) = Unit {0}
IsReported _ = ⊥

-- True if all of the given records are outcomes of polls, accepted readings or rejected readings.
abbrev pub AreReported : List Fact → Type 0
AreReported [] = Unit {0}
AreReported (f ∷ facts) = IsReported f × AreReported facts

-- True if `new` is the pending write (records not yet stored) `old` with the given additional
-- records and notifications.
pub record IsAdded (known : List Fact) (old new : PendingWrite) (more : List Fact → List Fact)
    (reports : List Fact → List Note) : Type 0 where
  pub facts : so_far new known ≡ more (so_far old known)
  pub notes : new.notes.items ≡ old.notes.items ++ reports (so_far old known)
  pub reported : AreReported new.facts.items

-- States that the pending write (records not yet stored) gains the given records and notifications
-- if two conditions hold. The resulting records are lawful (the rules for adding records accept
-- each one), and every wrong result of the store was detected.
abbrev pub Grows : (holds : List Fact → Type 0) (clean : Type 0) (old new : PendingWrite)
    → (List Fact → List Fact) → (List Fact → List Note) → Type 0
Grows holds clean old new more reports =
    (known : List Fact) → holds known → clean → AreReported old.facts.items
    → AreLawful (more (so_far old known)) → IsAdded known old new more reports

-- True if a call failed, or if it added exactly the given records and notifications to the pending
-- write (records not yet stored).
abbrev pub Adds : {T : Type 0} → (old new : Ledger) → (before after : PendingWrite) → Result T BooksFault
    → (List Fact → List Fact) → (List Fact → List Note) → Type 0
Adds old new before after result more reports =
    OnOk result (Grows old.holds new.is_clean before after more reports)

-- True if the result of a lookup follows from the store's records and the records of the pending
-- write (not yet stored).
abbrev pub FindsAfter : {T : Type 0} → (old new : Ledger) → PendingWrite → Result T BooksFault
    → (List Fact → T → Type 0) → Type 0
FindsAfter old new draft result says =
    (known : List Fact) → old.holds known → new.is_clean → AreReported draft.facts.items
    → AreLawful (so_far draft known) → IfOk result (says (so_far draft known))

-- True if a call for a device event succeeds without a query of the store, and leaves the pending
-- write (records not yet stored) unchanged.
pub record IsIdle {T B : Type 0} (result : Result T BooksFault) (old new : B)
    (before after : PendingWrite) : Type 0 where
  pub ok : IsOk result
  pub books : new ≡ old
  pub draft : after ≡ before
