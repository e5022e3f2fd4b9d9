-- Proof that the program computes correctly, by the specification, whether a manual entry is
-- doubted (needs a confirmation).
use Rattle.std.proofs.Common.{◌≡◌, inl, inr, ℕ, ◌-◌, ◌*◌, nat_le, Bool, true, false, List, Option, Some, None, Result, Ok, Err, refl, sym, ap, subst, ◌∙◌, arith}
use Rattle.std.specs.Prelude.{if◌then◌else◌, is_some}
use Rattle.std.specs.Option.{option_and_then}
use Rattle.std.proofs.Math.Nat.{mul_comm, mul-sub}
use Rattle.std.proofs.lemmas.Bool.{cond-false, cond-true}
use Rattle.energy_core.specs.Verdict.{can_count}
use Rattle.office_events.specs.declared.commands.Command.{Command}
use Rattle.office_events.specs.declared.events.Asked.{Asked}
use Rattle.office_events.specs.declared.facts.Fact.{Fact}
use Rattle.office_events.specs.declared.questions.Installation.{Installation}
use Rattle.office_events.specs.declared.refusals.Refusal.{Refusal}
use Rattle.office_events.specs.declared.refusals.Refusal.TheVariants as refusal
use Rattle.office_books.specs.History.{History, corrected_at}
use Rattle.office_books.specs.Meters.{if_open, installation_at}
use Rattle.office_books.specs.Ranges.{AreInRange, IsSound}
use Rattle.office_books.specs.Ledgers.{Ledger}
use Rattle.office_books.specs.declared.books.Repeat.{Repeat}
use Rattle.office_books.specs.declared.failures.Failures.{Failures}
use Rattle.office_core.specs.Asking.{IsRowFound}
use Rattle.office_core.specs.Failing.{IsOutside}
use Rattle.office_core.specs.declared.office.Office.{Office}
use Rattle.office_program.specs.Entering.Doubts.{IsDoubtReported, doubt_of, doubted_at, doubted_in, repeat_in}
use Rattle.office_program.specs.Entering.Marks.{is_marked}

-- The energy between the counts `raw` and `up_to - 1` equals the energy of `up_to - raw - 1`
-- counts.
pub less_one : (up_to raw unit : ℕ) → (up_to - 1) * unit - raw * unit ≡ (up_to - raw - 1) * unit
less_one up_to raw unit =
    let order : (up_to - 1) - raw ≡ up_to - raw - 1 = omega arith in
    sym (ap (λ (n : ℕ). n * unit) (sym order) ∙ mul_comm ((up_to - 1) - raw) unit ∙ mul-sub unit (up_to - 1) raw
    ∙ ap (λ (n : ℕ). n - unit * raw) (mul_comm unit (up_to - 1)) ∙ ap (λ (n : ℕ). (up_to - 1) * unit - n) (mul_comm unit raw))

-- Two conditions are equivalent. The program's condition compares the energy of a manual entry with
-- the greatest power times the elapsed time. The rule `can_count` says how far a load of the
-- meter's greatest power can advance its counter.
pub within_is : (energy seconds load ceiling up_to less raw unit moment at : ℕ) → energy ≡ less * unit - raw * unit → less ≡ up_to - 1 → load ≡ ceiling
    → seconds ≡ moment - at → nat_le (energy * 18) (load * seconds * 5) ≡ can_count ceiling unit (moment - at) (up_to - raw)
within_is energy seconds load ceiling up_to less raw unit moment at energy_is less_is load_is seconds_is =
    let same : energy ≡ (up_to - raw - 1) * unit = energy_is ∙ ap (λ (n : ℕ). n * unit - raw * unit) less_is ∙ less_one up_to raw unit in
    ap (λ (n : ℕ). nat_le (n * 18) (load * seconds * 5)) same ∙ ap (λ (n : ℕ). nat_le ((up_to - raw - 1) * unit * 18) (n * seconds * 5)) load_is
    ∙ ap (λ (n : ℕ). nat_le ((up_to - raw - 1) * unit * 18) (ceiling * n * 5)) seconds_is

-- Lemmas on the event engine's answer to a query for the meter of a manual entry. The meter decides
-- whether the entry needs a confirmation.

pub row_found : {T : Type 0} (found : Option T) (before after : Failures) (x : T) → IsRowFound found before after (Ok x) → (found ≡ Some x) × (after ≡ before)
row_found None before after x (inl reported) = let never = reported.0 in absurd (cc never)
row_found (Some y) before after x (inl reported) = let same = reported.0 in (cc same, reported.1)
row_found found before after x (inr fails) = absurd fails

pub row_missing : {T : Type 0} (found : Option T) (before after : Failures) (why : Refusal) → why ≡ refusal.NotFound → IsRowFound found before after (Err why)
    → (found ≡ None) × (after ≡ before)
row_missing None before after why is (inl reported) = (refl, reported.1)
row_missing (Some y) before after why is (inl reported) = let never = reported.0 in absurd (cc never)
row_missing found before after why is (inr fails) = absurd (subst (λ (w : Refusal). IsOutside ⊥ before after w) is fails)

pub row_failed : {T : Type 0} (found : Option T) (before after : Failures) (why : Refusal) → (why ≡ refusal.NotFound → ⊥) → IsRowFound found before after (Err why)
    → IsOutside ⊥ before after why
row_failed None before after why other (inl reported) = let same = reported.0 in absurd (other (cc same))
row_failed (Some y) before after why other (inl reported) = let never = reported.0 in absurd (cc never)
row_failed found before after why other (inr fails) = fails

-- Lemmas: the open (not closed) meter of the accounting register (a named counter) decides whether
-- a manual entry needs a confirmation. Without such a meter, the entry needs none.

pub sound_there : (facts : List Fact) (register : Option (List ℕ)) (row : Installation) → AreInRange facts
    → option_and_then (installation_at facts) register ≡ Some row → IsSound row
sound_there facts None row ranges found = absurd (cc found)
sound_there facts (Some name) row ranges found = ranges.at_register name row found

-- Whether a manual entry needs a confirmation depends on the meter that was found for the
-- accounting register (a named energy counter). If no meter was found, the entry needs no
-- confirmation.
pub found_doubt : (facts : List Fact) (at : ℕ) (c : Command) (register : Option (List ℕ)) (row : Installation)
    → option_and_then (installation_at facts) register ≡ Some row → doubted_in facts at c register ≡ option_and_then (doubted_at at c) (if_open row)
found_doubt facts at c None row found = cc found
found_doubt facts at c (Some name) row found = ap (λ (o : Option Installation). option_and_then (doubted_at at c) (option_and_then if_open o)) found

pub no_doubt_there : (facts : List Fact) (at : ℕ) (c : Command) (register : Option (List ℕ)) → option_and_then (installation_at facts) register ≡ None
    → doubted_in facts at c register ≡ None
no_doubt_there facts at c None found = refl
no_doubt_there facts at c (Some name) found = ap (λ (o : Option Installation). option_and_then (doubted_at at c) (option_and_then if_open o)) found

-- Lemmas: the cases in which the manual entry in a request needs a confirmation, and those in which
-- it needs none.

none_either : (b : Bool) (o : Option ℕ) → o ≡ None → (if b then None else o) ≡ None
none_either true o none = refl
none_either false o none = none

-- If a request is already stored, or its line has the mark ` !` (a confirmation), or it makes no
-- manual entry, then the request needs no confirmation.
pub kept_undoubted : (facts : List Fact) (at : ℕ) (asked : Asked) (repeat : Repeat) → repeat_in facts asked ≡ Some repeat → doubt_of facts at asked ≡ None
kept_undoubted facts at asked repeat kept = cond-true (is_some (repeat_in facts asked)) None _ (ap is_some kept)

pub marked_undoubted : (facts : List Fact) (at : ℕ) (asked : Asked) → is_marked asked.request ≡ true → doubt_of facts at asked ≡ None
marked_undoubted facts at asked marked =
    none_either (is_some (repeat_in facts asked)) _ (cond-true (is_marked asked.request) None _ marked)

entryless : (facts : List Fact) (at : ℕ) (c : Command) (register : Option (List ℕ)) → is_some register ≡ false → doubted_in facts at c register ≡ None
entryless facts at c None none = refl
entryless facts at c (Some name) none = cc none

pub entryless_undoubted : (facts : List Fact) (at : ℕ) (asked : Asked) → is_some (corrected_at asked.command) ≡ false → doubt_of facts at asked ≡ None
entryless_undoubted facts at asked none =
    none_either (is_some (repeat_in facts asked)) _
    (none_either (is_marked asked.request) _ (entryless facts at asked.command (corrected_at asked.command) none))

-- Suppose that a request is not stored yet, and its line has no mark ` !` (a confirmation). Then
-- the request needs a confirmation exactly if its manual entry needs a confirmation.
pub doubt_is : (facts : List Fact) (at : ℕ) (asked : Asked) → repeat_in facts asked ≡ None → is_marked asked.request ≡ false
    → doubt_of facts at asked ≡ doubted_in facts at asked.command (corrected_at asked.command)
doubt_is facts at asked new unmarked =
    cond-false (is_some (repeat_in facts asked)) None _ (ap is_some new) ∙ cond-false (is_marked asked.request) None _ unmarked

-- Lemmas on the event engine's answer to the query whether a manual entry needs a confirmation.

-- Suppose that a first query did not fail. If a second query answers whether a manual entry needs a
-- confirmation, then the answer is also correct for the state before the first query.
pub reported_on : {B : Type 0} (ledger : B → Ledger) (past : History) (before between after : Failures) (office : Office B) (doubt other : Option ℕ)
    (result : Result (Option ℕ) Refusal) → between ≡ before → doubt ≡ other → IsDoubtReported ledger past between after office doubt result
    → IsDoubtReported ledger past before after office other result
reported_on ledger past before between after office doubt other result is same reported =
    let P : Failures → Type 0 = λ n. IsDoubtReported ledger past n after office doubt result in
    let Q : Option ℕ → Type 0 = λ d. IsDoubtReported ledger past before after office d result in
    subst Q same (subst P is reported)

pub reported_so : {B : Type 0} (ledger : B → Ledger) (past : History) (before after : Failures) (office : Office B) (doubt found : Option ℕ)
    → IsDoubtReported ledger past before after office doubt (Ok found) → (found ≡ doubt) × (after ≡ before)
reported_so ledger past before after office doubt found is =
    elim is.reported [
      | inl reported ↦ let same = reported.0 in (cc same, reported.1)
      | inr fails ↦ absurd fails
    ]

pub reported_why : {B : Type 0} (ledger : B → Ledger) (past : History) (before after : Failures) (office : Office B) (doubt : Option ℕ) (why : Refusal)
    → IsDoubtReported ledger past before after office doubt (Err why) → IsOutside ⊥ before after why
reported_why ledger past before after office doubt why is =
    elim is.reported [
      | inl reported ↦ let never = reported.0 in absurd (cc never)
      | inr fails ↦ fails
    ]
