-- The records that the store may have after a crash.
use Rattle.std.specs.Prelude.{◌≡◌, ◌⊎◌, ℕ, List, [], ◌∷◌, ◌++◌, Result, Ok, Err, All}
use Rattle.office_events.specs.declared.answers.Answer.{Answer}
use Rattle.office_events.specs.declared.answers.Answer.TheVariants as answer
use Rattle.office_events.specs.declared.events.Event.{Event}
use Rattle.office_events.specs.declared.facts.Fact.{Fact}
use Rattle.office_events.specs.declared.refusals.Refusal.{Refusal}
use Rattle.office_events.specs.declared.refusals.Refusal.TheVariants as refusal
use Rattle.office_books.specs.History.{History, Accepted, Opened, Fed, facts_of}
use Rattle.office_books.specs.Lawfulness.{IsPast}
use Rattle.office_books.specs.Ledgers.{Ledger}

-- True if `facts` are the records after the history `past` and one more event or opening of the
-- store. The event may follow another history with the same records as `past`.
pub record IsOneMore (past : History) (facts : List Fact) : Type 0 where
  pub next : Accepted
  pub earlier : History
  pub is_past : IsPast (next ∷ earlier)
  pub same : facts_of earlier ≡ facts_of past
  pub are : facts ≡ facts_of (next ∷ earlier)

-- True if the store may have the given records after a crash: the records of the accepted events,
-- or the records after one more event or opening of the store.
abbrev pub MayBeLeft : History → List Fact → Type 0
MayBeLeft past facts = (facts ≡ facts_of past) ⊎ IsOneMore past facts

-- True if after a crash the store has the records of the accepted events, with or without the
-- records of one more event. The contract of the call that the crash interrupts or follows
-- determines which event this can be.
pub record StopLeaves (ledger : Ledger) (past : History) : Type 0 where
  pub left : List (List Fact)
  pub may : ledger.may_leave left
  pub each : All (MayBeLeft past) left

-- True if the store agrees with the history `past`, which means that the store has the records of
-- the accepted events.
pub record BooksStand (ledger : Ledger) (past : History) : Type 0 where
  pub is_past : IsPast past
  pub holds : ledger.holds (facts_of past)
  pub leaves : StopLeaves ledger past

-- A crash may leave the database file in one of several states, each a list of records. Below,
-- `before` has the states that a crash before a call may leave. `after` has those that a crash
-- after the call may leave.

-- The effect of an accepted event or opening of the store on the records that a crash may leave.
-- The store then has exactly the earlier records and those of this event. If the event added no
-- record, a crash may leave the same records as before the event.
abbrev pub LeftOnceDone : History → Accepted → (before after : List (List Fact)) → Type 0
LeftOnceDone past next before after =
    (after ≡ facts_of (next ∷ past) ∷ [])
    ⊎ ((facts_of (next ∷ past) ≡ facts_of past) × (after ≡ before))

-- The effect of a failed event or opening of the store on the records that a crash may leave. A
-- crash may leave the same records as before the event. If no reason to refuse the event applies, a
-- crash may also leave these records together with all records of the event.
abbrev pub LeftOnceFailed : History → Accepted → (before after : List (List Fact)) → Type 0
LeftOnceFailed past next before after =
    (after ≡ before) ⊎ (IsPast (next ∷ past) × (after ≡ before ++ facts_of (next ∷ past) ∷ []))

-- The effect of an event with the given answer on the records that may remain after a crash. The
-- event was accepted, failed, or changed nothing. A retry changes nothing, and a refusal for a
-- reason in the event changes nothing.
abbrev pub LeftByEvent : History → (at : ℕ) → Event → Result Answer Refusal
    → (before after : List (List Fact)) → Type 0
LeftByEvent past at e (Ok (answer.Again kind)) before after = after ≡ before
LeftByEvent past at e (Ok given) before after = LeftOnceDone past (Fed at e) before after
LeftByEvent past at e (Err (refusal.Store why)) before after =
    LeftOnceFailed past (Fed at e) before after
LeftByEvent past at e (Err refusal.Memory) before after =
    LeftOnceFailed past (Fed at e) before after
LeftByEvent past at e (Err why) before after = after ≡ before

-- The effect of an opening of the store, with the given result, on the records that may remain
-- after a crash. The opening was accepted, failed, or was refused for a reason other than a
-- failure.
abbrev pub LeftByOpening : {T : Type 0} → History → (at : ℕ) → Result T Refusal
    → (before after : List (List Fact)) → Type 0
LeftByOpening past at (Ok x) before after = LeftOnceDone past (Opened at) before after
LeftByOpening past at (Err (refusal.Store why)) before after =
    LeftOnceFailed past (Opened at) before after
LeftByOpening past at (Err refusal.Memory) before after =
    LeftOnceFailed past (Opened at) before after
LeftByOpening past at (Err why) before after = after ≡ before

-- States how a call to the store changes the lists of records that a crash may leave. The given
-- relation holds between the lists that a crash may leave before the call and those that it may
-- leave after the call.
abbrev pub Leaves : (old new : Ledger) → ((before after : List (List Fact)) → Type 0) → Type 0
Leaves old new so = (before : List (List Fact)) → old.may_leave before
    → (after : List (List Fact)) × so before after × new.may_leave after
