-- Lemmas: if memory suffices, all interval rows (energies of quarter hours) that a query returns
-- one by one are collected in order, and the program's answer is returned with them.
use Rattle.std.proofs.Common.{◌≡◌, ◌⊎◌, inl, inr, true, List, [], ◌∷◌, ◌++◌, Option, Some, None, Result, Ok, Err, IsErr, append-nil, append_assoc, refl, sym, ap, ◌∙◌}
use Rattle.std.specs.declared.alloc.Global.{Global}
use Rattle.std.specs.declared.vec.Vec.{Vec}
use Rattle.interval_core.specs.declared.shares.Share.{Share}
use Rattle.office_events.specs.declared.facts.Fact.{Fact}
use Rattle.office_events.specs.declared.refusals.Refusal.{Refusal}
use Rattle.office_events.specs.declared.refusals.Refusal.TheVariants as refusal
use Rattle.office_books.specs.History.{facts_of}
use Rattle.office_books.specs.Ledgers.{Ledger}
use Rattle.office_books.specs.Rows.{TakesAll}
use Rattle.office_books.specs.declared.failures.Failures.{Failures}
use Rattle.office_core.specs.Asking.{HandsRows, IsRowFound, OnlyAsks, ReportsRows, or_not_found}
use Rattle.office_core.specs.Failing.{IsOutside}
use Rattle.office_core.specs.Parts.{IsListed}
use Rattle.office_core.specs.Taking.{failures_of}
use Rattle.office_core.specs.declared.office.Office.{Office}
use Rattle.run_http.specs.MeterReplies.{AsksRows, KeepsRow}
use Rattle.run_http.specs.declared.kept_rows.KeptRows.{KeptRows}

-- If memory sufficed, then all interval rows (energies of quarter hours) that a query passed on are
-- appended to the rows collected earlier.
all_kept : (old new : KeptRows) (rows : List Share) → TakesAll KeepsRow old rows new → new.is_whole ≡ true
    → (old.is_whole ≡ true) × (new.rows.items ≡ old.rows.items ++ rows)
all_kept old new [] is whole = (
  sym (ap (λ (kept : KeptRows). kept.is_whole) is) ∙ whole,
  ap (λ (kept : KeptRows). kept.rows.items) is ∙ sym (append-nil old.rows.items),
)
all_kept old new (row ∷ rows) (next, first, rest) whole =
    let later = all_kept next new rows rest whole in
    let one = first later.0 in
    (one.0, later.1 ∙ ap (λ t. t ++ rows) one.1 ∙ append_assoc old.rows.items (row ∷ []) rows)

-- The result of a query whose rows were collected: these rows, or the reason why the program
-- refused the query.
abbrev pub with_rows : Vec Share Global → Result (Unit {0}) Refusal → Result (Vec Share Global) Refusal
with_rows rows (Ok x) = Ok rows
with_rows rows (Err why) = Err why

found : (there : Option (Unit {0})) (before after : Failures) (x : Unit {0}) → IsRowFound there before after (Ok x)
    → (Ok x ≡ or_not_found there) × (after ≡ before)
found there before after x (inl is) = is
found there before after x (inr fault) = absurd fault

missing : (before after : Failures) (why : Refusal) → IsRowFound {T = Unit {0}} None before after (Err why)
    → ((why ≡ refusal.NotFound) × (after ≡ before)) ⊎ IsOutside ⊥ before after why
missing before after why (inl is) = inl (cc is.0, is.1)
missing before after why (inr fault) = inr fault

failed : (before after : Failures) (why : Refusal) → IsRowFound {T = Unit {0}} (Some tt) before after (Err why) → IsOutside ⊥ before after why
failed before after why (inl is) = cc is.0
failed before after why (inr fault) = fault

listed : (rows : Option (List Share)) (before after : Failures) (from to : KeptRows) (kept : Vec Share Global) (answer : Result (Unit {0}) Refusal)
    → HandsRows KeepsRow rows before after from to answer → from.rows.items ≡ [] → to.is_whole ≡ true → kept ≡ to.rows
    → IsListed rows before after (with_rows kept answer)
listed None before after from to kept (Ok x) hands none whole is = cc (found None before after x hands.answer).0
listed (Some rows) before after from to kept (Ok x) hands none whole is =
    let all = all_kept from to rows hands.whole whole in
    let items = ap (λ (v : Vec Share Global). v.items) is ∙ all.1 ∙ ap (λ t. t ++ rows) none in
    (ap Some (sym items), (found (Some tt) before after x hands.answer).1)
listed None before after from to kept (Err why) hands none whole is = missing before after why hands.answer
listed (Some rows) before after from to kept (Err why) hands none whole is = failed before after why hands.answer

asks_with : {B : Type 0} (ledger : B → Ledger) (old new : Office B) (rows : Vec Share Global) (answer : Result (Unit {0}) Refusal)
    → OnlyAsks ledger old new answer → OnlyAsks ledger old new (with_rows rows answer)
asks_with ledger old new rows (Ok x) asks = record {
  stands = asks.stands;
  keeps = asks.keeps;
  notes = asks.notes;
  outgoing = asks.outgoing;
  stopped = (λ is. cc is, λ stopped. cc (asks.stopped.1 stopped));
  stays = asks.stays;
  counts = asks.counts;
  clean = asks.clean;
  zone = asks.zone;
}
asks_with ledger old new rows (Err why) asks = record {
  stands = asks.stands;
  keeps = asks.keeps;
  notes = asks.notes;
  outgoing = asks.outgoing;
  stopped = (λ is. asks.stopped.0 (let so : why ≡ refusal.Stopped = cc is in ap Err so), λ stopped. let so : why ≡ refusal.Stopped = cc (asks.stopped.1 stopped) in ap Err so);
  stays = asks.stays;
  counts = asks.counts;
  clean = asks.clean;
  zone = asks.zone;
}

-- If memory sufficed for all rows, then the query's result has all rows that the query found in the
-- store, or the reason why the program refused the query.
pub asked : {B E : Type 0} (ledger : B → Ledger) (old new : Office B) (says : List Fact → Option (List Share)) (from to : KeptRows) (kept : Vec Share Global)
    (answer : Result (Unit {0}) Refusal) → ReportsRows KeepsRow ledger old new from to answer says → OnlyAsks ledger old new answer
    → from.rows.items ≡ [] → to.is_whole ≡ true → kept ≡ to.rows → AsksRows ledger old new says {E = E} (Ok (with_rows kept answer))
asked ledger old new says from to kept answer reports asks none whole is = record {
  answer = with_rows kept answer;
  asks = asks_with ledger old new kept answer asks;
  gives = refl;
  lists = λ past stands clean.
      listed (says (facts_of past)) (failures_of ledger old) (failures_of ledger new) from to kept answer (reports past stands clean) none whole is;
}

-- Lemma on the function `ask_intervals`, which queries the quarter hours of a meter. If memory for
-- a row runs out, the function returns an error, which its contract `AsksRows` allows.
pub lacked : {B E : Type 0} (ledger : B → Ledger) (old new : Office B) (says : List Fact → Option (List Share)) (kept : Vec Share Global)
    (answer : Result (Unit {0}) Refusal) (result : Result (Result (Vec Share Global) Refusal) E) → OnlyAsks ledger old new answer → IsErr result
    → AsksRows ledger old new says result
lacked ledger old new says kept answer (Ok reported) asks fault = cc fault
lacked ledger old new says kept answer (Err why) asks fault = record {
  answer = with_rows kept answer;
  asks = asks_with ledger old new kept answer asks;
  gives = tt;
  lists = tt;
}
