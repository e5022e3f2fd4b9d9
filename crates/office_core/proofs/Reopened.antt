-- Lemmas about the records in the store after the program opens the store.
use Rattle.std.proofs.Common.{◌≡◌, ℕ, List, ◌∷◌, inl, inr, refl, sym, subst, Result, Ok, Err, Some, None}
use Rattle.std.specs.declared.alloc.Global.{Global}
use Rattle.std.specs.declared.vec.Vec.{Vec}
use Rattle.office_events.specs.declared.facts.Fact.{Fact}
use Rattle.office_events.specs.declared.refusals.Refusal.{Refusal}
use Rattle.office_events.specs.declared.refusals.Refusal.TheVariants as refusal
use Rattle.office_books.specs.History.{History, Opened, facts_of}
use Rattle.office_books.specs.Refusals.{opening_refusal_of}
use Rattle.office_books.specs.Lawfulness.{IsPast}
use Rattle.office_core.specs.declared.sessions.slots.Slot.{Slot}
use Rattle.office_books.specs.declared.faults.BooksFault.{BooksFault}
use Rattle.office_books.specs.declared.faults.BooksFault.TheVariants.{Store, Memory}
use Rattle.office_books.specs.Faults.{FailuresAfterCalls, as_refusal}
use Rattle.office_books.specs.Ledgers.{Ledger, OnlyReads}
use Rattle.office_core.specs.Opening.OpenedOffice.{MayOpen, Opens}
use Rattle.office_core.specs.Leaving.{BooksStand, Leaves, LeftByOpening, LeftOnceDone, LeftOnceFailed}
use Rattle.office_core.specs.Reopening.{IsNotOpened, IsReopened}
use Rattle.office_core.proofs.Left.{read_stand, moved_on, moved_not, done_left, failed_left, read_first}
use Rattle.office_core.proofs.Taken.{books_failed, failed_outside}

opened_past : (past : History) (at : ℕ) → IsPast past → opening_refusal_of (facts_of past) at ≡ None → IsPast (Opened at ∷ past)
opened_past past at is none = record { accepted = (none, is.accepted); planned = is.planned }

-- Suppose that an opening of the store failed because the store failed or memory ran out. After a
-- crash the store has the opening's records or none of them.
opening_failed : (old new : Ledger) (past : History) (at : ℕ) (why : BooksFault) → Leaves old new (LeftOnceFailed past (Opened at))
    → Leaves old new (LeftByOpening {T = Unit {0}} past at (Err (as_refusal why)))
opening_failed old new past at (Store fault) left = left
opening_failed old new past at Memory left = left

left_by_refused : (past : History) (at : ℕ) (why : Refusal) (left : List (List Fact)) → LeftByOpening {T = Unit {0}} past at (Err why) left left
left_by_refused past at (refusal.Store why) left = inl refl
left_by_refused past at refusal.Memory left = inl refl
left_by_refused past at why left = refl

read_left : {T : Type 0} (old new : Ledger) (past : History) (at : ℕ) (result : Result T BooksFault) (why : Refusal) → OnlyReads old new result
    → Leaves old new (LeftByOpening {T = Unit {0}} past at (Err why))
read_left old new past at result why reads = λ before may. (before, left_by_refused past at why before, reads.keeps.left before may)

-- If the store fails before the timestamp of an opening of the store (a program start) is checked,
-- then the store's records are unchanged.
pub not_asked : {T : Type 0} (past : History) (at : ℕ) (old new : Ledger) (fault : BooksFault) (why : Refusal) → OnlyReads {T = T} old new (Err fault)
    → BooksStand old past → why ≡ as_refusal fault → IsNotOpened past at old new why
not_asked {T = T} past at old new fault why reads stand is =
    subst (IsNotOpened past at old new) (sym is)
    (record { books = read_stand old new past (Err fault) reads stand; leaves = read_left old new past at (Err fault) (as_refusal fault) reads; reason = inr (books_failed T (opening_refusal_of (facts_of past) at ≡ None) _ _ fault reads.goes.faults) })

-- If an opening of the store is refused for its timestamp, then the store's records are unchanged.
pub refused : {T : Type 0} (past : History) (at : ℕ) (old new : Ledger) (x : T) (why : Refusal) → OnlyReads old new (Ok x)
    → BooksStand old past → Some why ≡ opening_refusal_of (facts_of past) at → IsNotOpened past at old new why
refused past at old new x why reads stand is =
    record { books = read_stand old new past (Ok x) reads stand; leaves = read_left old new past at (Ok x) why reads; reason = inl (sym is, reads.goes.faults) }

-- Suppose that no reason to refuse an opening of the store applies, and the opening succeeds. Then
-- the store has the opening's records, and each device has a slot for its connection.
pub reopened : {T : Type 0} (past : History) (at : ℕ) (old between new : Ledger) (x : T) (slots : Vec Slot Global) → OnlyReads old between (Ok x)
    → BooksStand old past → None ≡ opening_refusal_of (facts_of past) at → new.is_clean
    → (MayOpen past at → Opens past at between new (Ok slots)) → IsReopened past at old new slots.items
reopened past at old between new x slots reads stand none clean opens =
    let kept = read_stand old between past (Ok x) reads stand in
    let opened = opens (record { is_past = stand.is_past; accepted = sym none }) in
    record {
      books = moved_on between new (Opened at) past slots opened.books (opened_past past at stand.is_past (sym none)) clean kept;
      leaves =
          read_first old between new (Ok x) (LeftOnceDone past (Opened at)) reads
          (done_left between new (Opened at) past slots opened.books clean kept);
      keeps = opened.slots kept.holds clean;
    }

pub not_booked : {T : Type 0} (past : History) (at : ℕ) (old between new : Ledger) (x : T) (fault : BooksFault) (why : Refusal) → OnlyReads old between (Ok x)
    → BooksStand old past → None ≡ opening_refusal_of (facts_of past) at → new.is_clean
    → (MayOpen past at → Opens past at between new (Err fault)) → why ≡ as_refusal fault → IsNotOpened past at old new why
not_booked past at old between new x fault why reads stand none clean opens is =
    let kept = read_stand old between past (Ok x) reads stand in
    let opened = opens (record { is_past = stand.is_past; accepted = sym none }) in
    subst (IsNotOpened past at old new) (sym is)
    (record {
      books = moved_not between new (Opened at) past fault opened.books (opened_past past at stand.is_past (sym none)) clean kept;
      leaves =
          opening_failed old new past at fault
          (read_first old between new (Ok x) (LeftOnceFailed past (Opened at)) reads
          (failed_left between new (Opened at) past fault opened.books (opened_past past at stand.is_past (sym none)) clean kept));
      reason =
          inr (failed_outside (Vec Slot Global) (opening_refusal_of (facts_of past) at ≡ None) _ _ fault
          (subst (λ n. FailuresAfterCalls {T = Vec Slot Global} (Err fault) n new.failures) reads.goes.faults opened.books.goes.faults) (sym none));
    })
