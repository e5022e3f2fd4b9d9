-- Proofs that the store returns the answers of the queries on its tables unchanged.
use Rattle.std.proofs.Common.{◌≡◌, ℕ, List, [], refl, sym, subst, Result, Ok, Err}
use Rattle.std.specs.Prelude.{IfOk, OnOk}
use Rattle.sqlite.specs.Store.{Ghosts}
use Rattle.sqlite.specs.Held.{Held, state}
use Rattle.sqlite.specs.State.{HasCleanDisk}
use Rattle.interval_core.specs.declared.zone.Zone.{Zone}
use Rattle.office_events.specs.declared.facts.Fact.{Fact}
use Rattle.office_books.specs.declared.faults.BooksFault.{BooksFault}
use Rattle.office_books.specs.declared.failures.Failures.{Failures}
use Rattle.office_books.specs.Faults.{faults_after}
use Rattle.office_books.specs.Ledgers.{KeepsFacts, OnlyReads, Finds}
use Rattle.office_books.specs.Rows.{TakesAll, HandsOn}
use Rattle.store_tables.specs.declared.faults.RowFault.{RowFault}
use Rattle.office_store.specs.Holding.{HoldsFacts, LeavesFacts, OnlyLooks}
use Rattle.office_store.proofs.Committed.{kept_holds}
use Rattle.office_store.specs.Finding.Finding as finding
use Rattle.office_store.specs.Metering.Looking as metering
use Rattle.office_store.specs.Answers.{answer_of}
use Rattle.office_store.specs.Stored.{ledger_of}

still_on : {S : Type 0} (g : Ghosts S) (zone : List ℕ) (old new : Held S) (facts : List Fact)
    → OnlyLooks g zone old new → HoldsFacts g zone old facts → HoldsFacts g zone new facts
still_on g zone old new facts looks holds = kept_holds g zone old new facts looks.clean (λ clean. looks.kept facts holds clean) holds

left_on : {S : Type 0} (g : Ghosts S) (zone : List ℕ) (old new : Held S) (facts : List Fact) (left : List (List Fact))
    → OnlyLooks g zone old new → HoldsFacts g zone old facts → LeavesFacts g zone old left → LeavesFacts g zone new left
unfolding LeavesFacts
left_on g zone old new facts left looks holds leaves clean trees may =
    leaves (looks.clean clean) trees (looks.left facts holds clean trees may)

keeps : {S : Type 0} (g : Ghosts S) (old new : Held S) (n m : Failures) (zone : Zone)
    → ((text : List ℕ) → OnlyLooks g text old new) → KeepsFacts (ledger_of g old n zone) (ledger_of g new m zone)
keeps g old new n m zone looks = record {
  facts = λ content h. record { zone = h.zone; holds = still_on g h.zone old new content (looks h.zone) h.holds };
  left = λ left h. record {
    zone = h.zone;
    facts = h.facts;
    holds = still_on g h.zone old new h.facts (looks h.zone) h.holds;
    leaves = left_on g h.zone old new h.facts left (looks h.zone) h.holds h.leaves;
  };
}

-- If a query runs on the store, only the store's count of failures can change.
pub reads : {S T : Type 0} (g : Ghosts S) (old new : Held S) (n m : Failures) (zone : Zone) (answer : Result T BooksFault)
    → m ≡ faults_after answer n → ((text : List ℕ) → OnlyLooks g text old new)
    → OnlyReads (ledger_of g old n zone) (ledger_of g new m zone) answer
reads g old new n m zone answer count looks = record {
  goes = record { clean = (looks []).clean; faults = count; zone = refl };
  keeps = keeps g old new n m zone looks;
}

reported : {T : Type 0} (Says : T → Type 0) (found : Result T RowFault) → IfOk found Says → IfOk (answer_of found) Says
reported Says (Ok x) says = says
reported Says (Err e) says = tt

reports : {S T : Type 0} (g : Ghosts S) (old new : Held S) (n m : Failures) (zone : Zone) (Says : List Fact → T → Type 0)
    (found : Result T RowFault) (answer : Result T BooksFault) → answer ≡ answer_of found
    → ((text : List ℕ) (facts : List Fact) → HoldsFacts g text old facts → HasCleanDisk (state g new) → IfOk found (Says facts))
    → Finds (ledger_of g old n zone) (ledger_of g new m zone) answer Says
reports {T = T} g old new n m zone Says found answer is says content h clean =
    let P : Result T BooksFault → Type 0 = λ a. IfOk a (Says content) in
    subst P (sym is) (reported (Says content) found (says h.zone content h.holds clean))

-- If a query on the store's tables returns an answer, the store's function that makes the query
-- returns the same answer.
pub finds : {S T : Type 0} {Says : List Fact → T → Type 0} {AreSound : List Fact → Type 0} (g : Ghosts S) (old new : Held S) (n m : Failures) (zone : Zone)
    (found : Result T RowFault) (answer : Result T BooksFault) → answer ≡ answer_of found
    → finding.Finds g old new found Says AreSound → Finds (ledger_of g old n zone) (ledger_of g new m zone) answer Says
finds {Says = Says} g old new n m zone found answer is it = reports g old new n m zone Says found answer is it.answer

-- If every answer of a query on the tables has a property, the answer that the store returns has
-- this property.
pub sound : {T : Type 0} (Says : T → Type 0) (found : Result T RowFault) (answer : Result T BooksFault) → answer ≡ answer_of found
    → IfOk found Says → IfOk answer Says
sound {T} Says found answer is says =
    let P : Result T BooksFault → Type 0 = λ a. IfOk a Says in
    subst P (sym is) (reported Says found says)

reported_on : (Q : Type 0) (found : Result (Unit {0}) RowFault) → OnOk found Q → OnOk (answer_of found) Q
reported_on Q (Ok x) q = q
reported_on Q (Err e) q = tt

-- If a query on the store's tables passes its rows to the visitor that the caller supplies, the
-- store's function passes the same rows to this visitor.
pub hands_on : {S K T : Type 0} {IsRow : T → Type 0} {AreSound : List Fact → Type 0} (g : Ghosts S) (old new : Held S) (n m : Failures) (zone : Zone) (takes : K → T → K → Type 0) (before after : K)
    (rows : List Fact → List T) (found : Result (Unit {0}) RowFault) (answer : Result (Unit {0}) BooksFault) → answer ≡ answer_of found
    → metering.HandsOn g old new takes before after found IsRow rows AreSound
    → HandsOn takes (ledger_of g old n zone) (ledger_of g new m zone) before after answer rows
hands_on g old new n m zone takes before after rows found answer is hands = record {
  begun = λ content h clean. hands.begun h.zone content h.holds clean;
  whole = λ content h clean.
      let P : Result (Unit {0}) BooksFault → Type 0 = λ a. OnOk a (TakesAll takes before (rows content) after) in
      subst P (sym is) (reported_on (TakesAll takes before (rows content) after) found (hands.whole h.zone content h.holds clean));
  some = (hands.some.0, hands.some.2);
}
