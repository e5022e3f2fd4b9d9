-- Proofs about lawful records, of which the store's rules accepted each after the earlier ones.
-- Names and numbers are unique, and the tables have a row for each record.
use Rattle.std.proofs.Common.{◌≡◌, ◌≢◌, ℕ, Ok, Err, string_bytes, ◌+◌, ◌≤◌, ◌<◌, ◌==◌, ◌&&◌, Bool, true, false, cond, not, inl, inr, List, [], ◌∷◌, map, filter, reverse, length, find, Option, Some, None, refl, sym, ap, ap₂, subst, ◌∙◌, IsPermutation, arith, eqb}
use Rattle.std.specs.List.{AllByRecursion, list_any}
use Rattle.std.specs.Option.{option_map}
use Rattle.std.proofs.lemmas.Bool.{cases_Bool, cond-true, cond-false, eqb-true, ne_eqb}
use Rattle.std.proofs.lemmas.Bool.Decides.{nat_tests}
use Rattle.std.proofs.lemmas.List.{length-reverse}
use Rattle.std.proofs.lemmas.List.Sorted.{IsPermutation-trans}
use Rattle.sqlite.specs.Order.{Row}
use Rattle.sqlite.specs.Tree.{IsAscending}
use Rattle.sqlite_keyed.proofs.ListLemmas.{filter-map, filter_same, none_counted, filter_none, ascending-filter, ascending-map, all_weaker, IsPermutation-same, all_map, all_unmap, all-filter}
use Rattle.office_events.specs.Names.{is_name}
use Rattle.office_events.specs.declared.questions.PollRow.{PollRow}
use Rattle.office_events.specs.declared.facts.Device.{Device}
use Rattle.office_events.specs.declared.facts.Register.{Register}
use Rattle.office_events.specs.declared.facts.Poll.{Poll}
use Rattle.office_events.specs.declared.facts.EndedPoll.{EndedPoll}
use Rattle.office_events.specs.declared.facts.Fact.{Fact}
use Rattle.office_events.specs.declared.facts.Fact.TheVariants as fact
use Rattle.office_books.specs.Facts.{same, devices_in, registers_in, register_of, registers_of, polls_in, poll_of, ended_in, ends_of, end_of, pending_in}
use Rattle.office_books.specs.PollEndings.{AreNumbered}
use Rattle.office_books.specs.Lawful.{AreLawful, RegisterFits, PollFits, EndFits}
use Rattle.office_books.specs.Readings.{poll_row, poll_row_of}
use Rattle.office_books.proofs.Lookups.{same_text, find_none, find_passes}
use Rattle.office_books.proofs.Lists.{filter_reverse, map_reverse}
use Rattle.store_tables.specs.Answer.{AreFound, IsFound, IsLast, FirstFirst, every}
use Rattle.store_tables.specs.declared.faults.RowFault.{RowFault}
use Rattle.store_tables.specs.declared.faults.RowFault.TheVariants.{Damaged}
use Rattle.store_tables.specs.Asking.{Shows}
use Rattle.store_tables.specs.Limits.{greatest_place}
use Rattle.store_tables.specs.declared.devices.rows.Register as list_register
use Rattle.store_tables.specs.declared.polls.rows.Poll as store_poll
use Rattle.store_tables.specs.Devices.Rows.{Added, Registered, device_place, device_shown, register_place, register_shown, is_register, is_register_of, IsRegister}
use Rattle.store_tables.specs.declared.polls.rows.OutcomeRow.{OutcomeRow}
use Rattle.store_tables.specs.Polls.Rows.{Started, poll_shown, poll_number, is_poll, IsStarted, is_outcome_of, IsOutcome, HasNumber}
use Rattle.store_tables.specs.Polls.Pending.{is_pending}
use Rattle.office_store.specs.Rows.{placed, added, registered, started, outcome_row}
use Rattle.office_store.specs.Recording.{next_place}
use Rattle.office_store.proofs.Passing.{any_map}
use Rattle.office_store.proofs.Placed.{all_every, greatest}
use Rattle.office_store.specs.Finding.Each.{AreEach}
use Rattle.office_store.specs.Finding.Finding.{OfLawful}
use Rattle.office_store.specs.Finding.Reading.{IsDeviceOf, IsRegisterOf, IsPollOf, register_with, HasNumbers, ended_from}
use Rattle.office_store.specs.Finding.Sound.{IsReadableRegister, HasReadableRegisters, IsReadablePoll, HasReadablePolls}
use Rattle.office_store.proofs.FindingLemmas.Each.{each_filter, each_length, each_same, each_equal, each_map}
use Rattle.office_store.proofs.FindingLemmas.Rows.{Falls, in_turn, each_placed, placed_falls, each_reverse, all_reverse, IsOnly, only_found, found_sound}
use Rattle.office_store.proofs.FindingLemmas.ReadRows.{register_found, poll_found}
use Rattle.store_tables.specs.Failing.{IsRowFault}
use Rattle.store_tables.proofs.ReadLemmas.{less_sound}

-- If no element of a list passes a test, filtering the list by the test returns an empty list.

pub none_left : {X : Type 0} (p : X → Bool) (xs : List X) → find p xs ≡ None → filter p xs ≡ []
none_left p [] h = refl
none_left p (x ∷ xs) h = let parts = find_none p x xs h in cond-false _ _ _ parts.0 ∙ none_left p xs parts.1

pub few_step : {X : Type 0} (b : Bool) (x : X) (rest : List X) → (b ≡ true → rest ≡ []) → length rest ≤ 1 → length (cond b (x ∷ rest) rest) ≤ 1
few_step true x rest none few = let e = ap length (none refl) in omega (arith, e)
few_step false x rest none few = few

-- If the records are lawful (the store's rules accepted each after the earlier ones), no two
-- accounting registers (named energy counters) have equal names.
pub few_registers : (facts : List Fact) (name : List ℕ) → AreLawful facts → length (filter (λ (r : Register). same r.name name) (registers_in facts)) ≤ 1
few_registers [] name h = omega arith
few_registers (fact.Device d ∷ facts) name h = few_registers facts name h.1
few_registers (fact.List l ∷ facts) name h = few_registers facts name h.1
few_registers (fact.Register r ∷ facts) name h =
    few_step (same r.name name) r (filter (λ (q : Register). same q.name name) (registers_in facts))
    (λ is. none_left (λ (q : Register). same q.name name) (registers_in facts)
    (subst (λ (n : List ℕ). find (λ (q : Register). same q.name n) (registers_in facts) ≡ None) (same_text r.name name is) h.0.0.new))
    (few_registers facts name h.1)
few_registers (fact.Opening o ∷ facts) name h = few_registers facts name h.1
few_registers (fact.Entry b ∷ facts) name h = few_registers facts name h.1
few_registers (fact.Hold b ∷ facts) name h = few_registers facts name h.1
few_registers (fact.Void v ∷ facts) name h = few_registers facts name h.1
few_registers (fact.Poll p ∷ facts) name h = few_registers facts name h.1
few_registers (fact.Outcome e ∷ facts) name h = few_registers facts name h.1
few_registers (fact.Reply r ∷ facts) name h = few_registers facts name h.1

-- If the records are lawful (the store's rules accepted each after the earlier ones), no poll has
-- more than one outcome.
pub few_ends : (facts : List Fact) (number : ℕ) → AreLawful facts → length (ends_of facts number) ≤ 1
few_ends [] number h = omega arith
few_ends (fact.Device d ∷ facts) number h = few_ends facts number h.1
few_ends (fact.List l ∷ facts) number h = few_ends facts number h.1
few_ends (fact.Register r ∷ facts) number h = few_ends facts number h.1
few_ends (fact.Opening o ∷ facts) number h = few_ends facts number h.1
few_ends (fact.Entry b ∷ facts) number h = few_ends facts number h.1
few_ends (fact.Hold b ∷ facts) number h = few_ends facts number h.1
few_ends (fact.Void v ∷ facts) number h = few_ends facts number h.1
few_ends (fact.Poll p ∷ facts) number h = few_ends facts number h.1
few_ends (fact.Outcome e ∷ facts) number h =
    few_step (e.poll == number) e (ends_of facts number) (λ is. subst (λ (n : ℕ). ends_of facts n ≡ []) (eqb-true e.poll number is) h.0.0.pending) (few_ends facts number h.1)
few_ends (fact.Reply r ∷ facts) number h = few_ends facts number h.1

-- If the records are lawful (the store's rules accepted each after the earlier ones), the polls are
-- numbered from 1 without gaps.
pub numbered : (facts : List Fact) → AreLawful facts → AreNumbered (polls_in facts)
numbered [] h = tt
numbered (fact.Device d ∷ facts) h = numbered facts h.1
numbered (fact.List l ∷ facts) h = numbered facts h.1
numbered (fact.Register r ∷ facts) h = numbered facts h.1
numbered (fact.Opening o ∷ facts) h = numbered facts h.1
numbered (fact.Entry b ∷ facts) h = numbered facts h.1
numbered (fact.Hold b ∷ facts) h = numbered facts h.1
numbered (fact.Void v ∷ facts) h = numbered facts h.1
numbered (fact.Poll p ∷ facts) h = (h.0.0.number, numbered facts h.1)
numbered (fact.Outcome e ∷ facts) h = numbered facts h.1
numbered (fact.Reply r ∷ facts) h = numbered facts h.1

below : (n : ℕ) (polls : List Poll) → AreNumbered polls → length polls < n → AllByRecursion (λ (p : Poll). p.number < n) polls
below n [] h lt = tt
below n (p ∷ polls) h lt = (let is = h.0 in omega (arith, is), below n polls h.1 (omega arith))

pub polls_fall : (polls : List Poll) → AreNumbered polls → IsAscending (λ (p q : Poll). q.number < p.number) polls
polls_fall [] h = tt
polls_fall (p ∷ polls) h = (below p.number polls h.1 (let is = h.0 in omega (arith, is)), polls_fall polls h.1)

pub few_polls : (number : ℕ) (polls : List Poll) → AreNumbered polls → length (filter (λ (p : Poll). p.number == number) polls) ≤ 1
few_polls number [] h = omega arith
few_polls number (p ∷ polls) h =
    few_step (p.number == number) p (filter (λ (q : Poll). q.number == number) polls)
    (λ is.
    let this : p.number ≡ number = eqb-true p.number number is in
    filter_none (λ (q : Poll). q.number == number) polls
    (all_weaker _ (λ (q : Poll). (q.number == number) ≡ false) (λ q lt. ne_eqb q.number number (λ e. absurd (omega (arith, lt, e, this)))) polls (below p.number polls h.1 (let n = h.0 in omega (arith, n)))))
    (few_polls number polls h.1)

-- The query for devices returns a row for each device, in the order in which the devices were
-- added.

pub devices_shown : (facts : List Fact) (rows : List Row) → Shows every (FirstFirst device_place) device_shown (placed added (devices_in facts)) rows
    → rows ≡ map device_shown (reverse (placed added (devices_in facts)))
devices_shown facts rows h =
    let all = placed added (devices_in facts) in
    h.2 ∙ ap (map device_shown) (in_turn device_place all h.0 (placed_falls added device_place (λ place d. refl) (devices_in facts)) (subst (λ l. IsPermutation l h.0) (all_every all) h.1.all) h.1.order)

pub devices_read : (facts : List Fact) (vs : List Device) → AreEach IsDeviceOf (reverse (placed added (devices_in facts))) vs → vs ≡ reverse (devices_in facts)
devices_read facts vs h =
    each_equal _ vs
    (each_same (λ (y : Added) (d : Device). (place : ℕ) × (y ≡ added place d)) IsDeviceOf (λ a b. b ≡ a) (λ y d v is seen. seen is.0 d is.1)
    (reverse (placed added (devices_in facts))) (reverse (devices_in facts)) vs
    (each_reverse _ (placed added (devices_in facts)) (devices_in facts) (each_placed added (devices_in facts))) h)

-- Lemmas that the query for a device's accounting registers (named energy counters) returns a row
-- for each of these registers, in order.

abbrev pub RegisterRowOf : Registered → Register → Type 0
RegisterRowOf y r = (place : ℕ) × (y ≡ registered place r)

pub registers_shown : (facts : List Fact) (device : List ℕ) (rows : List Row) → Shows (is_register_of device) (FirstFirst register_place) register_shown (placed registered (registers_in facts)) rows
    → rows ≡ map register_shown (reverse (filter (is_register_of device) (placed registered (registers_in facts))))
registers_shown facts device rows h =
    let all = placed registered (registers_in facts) in
    h.2 ∙ ap (map register_shown) (in_turn register_place (filter (is_register_of device) all) h.0
    (ascending-filter _ (is_register_of device) all (placed_falls registered register_place (λ place r. refl) (registers_in facts))) h.1.all h.1.order)

registers_are : (facts : List Fact) (device : List ℕ)
    → AreEach RegisterRowOf (filter (is_register_of device) (placed registered (registers_in facts))) (filter (λ (r : Register). same r.device device) (registers_in facts))
registers_are facts device =
    each_filter RegisterRowOf (is_register_of device) (λ (r : Register). same r.device device) (λ y r is. ap (is_register_of device) is.1)
    (placed registered (registers_in facts)) (registers_in facts) (each_placed registered (registers_in facts))

pub registers_read : (facts : List Fact) (device : List ℕ) (vs : List Register)
    → AreEach IsRegisterOf (reverse (filter (is_register_of device) (placed registered (registers_in facts)))) vs → vs ≡ registers_of facts device
registers_read facts device vs h =
    each_equal _ vs
    (each_same RegisterRowOf IsRegisterOf (λ a b. b ≡ a) (λ y r v is seen. seen is.0 r is.1)
    (reverse (filter (is_register_of device) (placed registered (registers_in facts)))) (registers_of facts device) vs
    (each_reverse RegisterRowOf _ _ (registers_are facts device)) h)

pub registers_counted : (facts : List Fact) (device : List ℕ) → length (filter (is_register_of device) (placed registered (registers_in facts))) ≡ length (registers_of facts device)
registers_counted facts device =
    each_length RegisterRowOf _ _ (registers_are facts device) ∙ sym (length-reverse (filter (λ (r : Register). same r.device device) (registers_in facts)))

-- The number of the next poll, one more than the greatest number in the table `polls`, is the
-- number of recorded polls plus 1.

pub polls_counted : (facts : List Fact) (last : Option ℕ) → AreLawful facts → IsLast every HasNumber poll_number (map started (polls_in facts)) last → next_place last ≡ length (polls_in facts) + 1
polls_counted facts last lawful h = count (polls_in facts) (numbered facts lawful) h
  where
    low : (n : ℕ) (polls : List Poll) → AllByRecursion (λ (p : Poll). p.number < n) polls → AllByRecursion (λ (y : Started). poll_number y ≤ n) (map started polls)
    low n [] all = tt
    low n (p ∷ polls) all = (let lt = all.0 in omega (arith, lt), low n polls all.1)

    count : (polls : List Poll) → AreNumbered polls → IsLast every HasNumber poll_number (map started polls) last → next_place last ≡ length polls + 1
    count [] are is = none last is
      where
        none : (o : Option ℕ) → IsLast every HasNumber poll_number [] o → next_place o ≡ 1
        none None e = refl
        none (Some n) e = absurd (let long = Rattle.std.proofs.lemmas.List.Sorted.length_permutation _ _ e.3 in omega (arith, long))
    count (p ∷ polls) are is =
        let n = are.0 in
        let following = greatest poll_number every (map started (p ∷ polls)) (started p) (map started polls) last
        (IsPermutation-same _ _ (all_every (map started (p ∷ polls)))) (low p.number polls (below p.number polls are.1 (omega (arith, n)))) is in
        omega (arith, n, following)

pub pending_shown : (facts : List Fact) (rows : List Row) → AreLawful facts
    → Shows (is_pending (map outcome_row (ended_in facts))) (FirstFirst poll_number) poll_shown (map started (polls_in facts)) rows
    → rows ≡ map poll_shown (map started (pending_in facts))
pending_shown facts rows lawful h =
    let polls = polls_in facts in
    let waits = λ (p : Poll). length (ends_of facts p.number) == 0 in
    let left : filter (is_pending (map outcome_row (ended_in facts))) (map started polls) ≡ map started (filter waits polls) =
    filter-map (is_pending (map outcome_row (ended_in facts))) started polls
    ∙ ap (map started) (filter_same _ waits (λ p. ap not (any_map (is_outcome_of p.number) outcome_row (ended_in facts)) ∙ sym (none_counted (λ (e : EndedPoll). e.poll == p.number) (ended_in facts))) polls) in
    let falls : Falls poll_number (map started (filter waits polls)) = ascending-map (λ x y. poll_number y < poll_number x) started (filter waits polls) (ascending-filter _ waits polls (polls_fall polls (numbered facts lawful))) in
    let turned = in_turn poll_number (map started (filter waits polls)) h.0 falls (subst (λ l. IsPermutation l h.0) left h.1.all) h.1.order in
    h.2 ∙ ap (map poll_shown) (turned ∙ (sym (map_reverse started (filter waits polls)) ∙ ap (map started) (sym (filter_reverse waits polls))))

pub pending_sound : (facts : List Fact) → HasReadablePolls facts → AllByRecursion IsReadablePoll (map started (pending_in facts))
pending_sound facts sound =
    all_map IsReadablePoll started (pending_in facts)
    (all-filter (λ (p : Poll). IsReadablePoll (started p)) (λ (p : Poll). length (ends_of facts p.number) == 0) (reverse (polls_in facts))
    (all_reverse (λ (p : Poll). IsReadablePoll (started p)) (polls_in facts) (all_unmap IsReadablePoll started (polls_in facts) sound)))

pub pending_read : (facts : List Fact) (vs : List Poll) → AreEach IsPollOf (map started (pending_in facts)) vs → vs ≡ pending_in facts
pending_read facts vs h =
    each_equal _ vs
    (each_same (λ (y : Started) (p : Poll). y ≡ started p) IsPollOf (λ a b. b ≡ a) (λ y p v is seen. seen p is) (map started (pending_in facts)) (pending_in facts) vs (each_map started (pending_in facts)) h)

-- Lemmas that a query by name finds the only accounting register (a named energy counter) that has
-- this name.

register_only : (facts : List Fact) (name : List ℕ) (found : Option list_register.Register) → AreLawful facts
    → IsFound (is_register name) IsRegister (placed registered (registers_in facts)) found → IsOnly RegisterRowOf IsRegister (is_register name) (λ (r : Register). same r.name name) (registers_in facts) found
register_only facts name found lawful h =
    only_found RegisterRowOf IsRegister (is_register name) (λ (r : Register). same r.name name) (placed registered (registers_in facts)) (registers_in facts) found
    (λ y r is. ap (is_register name) is.1) (each_placed registered (registers_in facts)) (few_registers facts name lawful) h

pub no_register : (facts : List Fact) (name : List ℕ) → OfLawful (λ facts. IsFound (is_register name) IsRegister (placed registered (registers_in facts))) facts None → None ≡ register_of facts name
no_register facts name h = sym (register_only facts name None h.0 h.1)

pub this_register : (facts : List Fact) (name : List ℕ) (row : list_register.Register) (r : Register) → register_with (string_bytes row.name) (string_bytes row.device) row.row ≡ Ok r
    → OfLawful (λ facts. IsFound (is_register name) IsRegister (placed registered (registers_in facts))) facts (Some row) → Some r ≡ register_of facts name
this_register facts name row r is h =
    let it = register_only facts name (Some row) h.0 h.1 in
    let same_one : r ≡ it.1 = (register_found row (Ok r) (sym is) it.0 it.3).read it.2.0 it.1 it.2.1 in
    ap Some same_one ∙ sym it.4

pub register_fault : (facts : List Fact) (name : List ℕ) (row : list_register.Register) (e : RowFault) → register_with (string_bytes row.name) (string_bytes row.device) row.row ≡ Err e
    → OfLawful (λ facts. IsFound (is_register name) IsRegister (placed registered (registers_in facts))) facts (Some row) → IsRowFault (HasReadableRegisters facts) e
register_fault facts name row e is h =
    let it = found_sound IsRegister (is_register name) IsReadableRegister (placed registered (registers_in facts)) row h.1 in
    less_sound (HasReadableRegisters facts) (IsReadableRegister it.0) it.2 e (register_found row (Err e) (sym is) it.0 it.1).fault

-- Lemmas that at most one row of `polls` has a given number, so a query by number finds the
-- recorded poll.

abbrev pub PollRowOf : Started → Poll → Type 0
PollRowOf y p = y ≡ started p

poll_only : (facts : List Fact) (number : ℕ) (found : Option store_poll.Poll) → AreLawful facts
    → IsFound (is_poll number) IsStarted (map started (polls_in facts)) found → IsOnly PollRowOf IsStarted (is_poll number) (λ (p : Poll). p.number == number) (polls_in facts) found
poll_only facts number found lawful h =
    only_found PollRowOf IsStarted (is_poll number) (λ (p : Poll). p.number == number) (map started (polls_in facts)) (polls_in facts) found
    (λ y p is. ap (is_poll number) is) (each_map started (polls_in facts)) (few_polls number (polls_in facts) (numbered facts lawful)) h

pub no_poll : (facts : List Fact) (number : ℕ) → OfLawful (λ facts. IsFound (is_poll number) IsStarted (map started (polls_in facts))) facts None → None ≡ poll_of facts number
no_poll facts number h = sym (poll_only facts number None h.0 h.1)

pub this_poll : (facts : List Fact) (number : ℕ) (row : store_poll.Poll) (p : Poll) → HasNumbers (string_bytes row.device) row.row p
    → OfLawful (λ facts. IsFound (is_poll number) IsStarted (map started (polls_in facts))) facts (Some row) → Some p ≡ poll_of facts number
this_poll facts number row p has h =
    let it = poll_only facts number (Some row) h.0 h.1 in
    let same_one : p ≡ it.1 = (poll_found row (Ok p) has tt it.0 it.3).read it.1 it.2 in
    ap Some same_one ∙ sym it.4

pub poll_fault : (facts : List Fact) (number : ℕ) (row : store_poll.Poll) (e : RowFault) → (e ≡ Damaged) × (¬ (is_name (string_bytes row.device) ≡ true))
    → OfLawful (λ facts. IsFound (is_poll number) IsStarted (map started (polls_in facts))) facts (Some row) → IsRowFault (HasReadablePolls facts) e
poll_fault facts number row e none h =
    let it = found_sound IsStarted (is_poll number) IsReadablePoll (map started (polls_in facts)) row h.1 in
    less_sound (HasReadablePolls facts) (IsReadablePoll it.0) it.2 e (poll_found row (Err e) tt none it.0 it.1).fault

pub no_poll_past : (facts : List Fact) (number : ℕ) → AreLawful facts → greatest_place < number → None ≡ poll_row_of facts number
no_poll_past facts number lawful past = sym (ap (option_map (poll_row facts)) (none facts lawful))
  where
    none : (facts : List Fact) → AreLawful facts → poll_of facts number ≡ None
    none [] h = refl
    none (fact.Device d ∷ facts) h = none facts h.1
    none (fact.List l ∷ facts) h = none facts h.1
    none (fact.Register r ∷ facts) h = none facts h.1
    none (fact.Opening o ∷ facts) h = none facts h.1
    none (fact.Entry b ∷ facts) h = none facts h.1
    none (fact.Hold b ∷ facts) h = none facts h.1
    none (fact.Void v ∷ facts) h = none facts h.1
    none (fact.Poll p ∷ facts) h = cond-false _ _ _ (ne_eqb p.number number (λ e. absurd (let few = h.0.0.few in omega (arith, past, e, few)))) ∙ none facts h.1
    none (fact.Outcome e ∷ facts) h = none facts h.1
    none (fact.Reply r ∷ facts) h = none facts h.1

-- Lemmas that a query finds the recorded outcome of a poll, because no poll has two outcomes.

abbrev pub EndRowOf : OutcomeRow → EndedPoll → Type 0
EndRowOf y e = y ≡ outcome_row e

end_only : (facts : List Fact) (number : ℕ) (found : Option OutcomeRow) → AreLawful facts
    → IsFound (is_outcome_of number) IsOutcome (map outcome_row (ended_in facts)) found → IsOnly EndRowOf IsOutcome (is_outcome_of number) (λ (e : EndedPoll). e.poll == number) (ended_in facts) found
end_only facts number found lawful h =
    only_found EndRowOf IsOutcome (is_outcome_of number) (λ (e : EndedPoll). e.poll == number) (map outcome_row (ended_in facts)) (ended_in facts) found
    (λ y e is. ap (is_outcome_of number) is) (each_map outcome_row (ended_in facts)) (few_ends facts number lawful) h

pub no_end : (facts : List Fact) (number : ℕ) → OfLawful (λ facts. IsFound (is_outcome_of number) IsOutcome (map outcome_row (ended_in facts))) facts None → None ≡ end_of facts number
no_end facts number h = sym (end_only facts number None h.0 h.1)

pub this_end : (facts : List Fact) (number : ℕ) (row : OutcomeRow) → OfLawful (λ facts. IsFound (is_outcome_of number) IsOutcome (map outcome_row (ended_in facts))) facts (Some row)
    → Some (ended_from row) ≡ end_of facts number
this_end facts number row h =
    let it = end_only facts number (Some row) h.0 h.1 in
    ap (λ (o : OutcomeRow). Some (ended_from o)) (it.3 ∙ it.2) ∙ sym it.4

-- If one query returns the poll with a number, and a second query its outcome, the two answers form
-- the recorded poll with its outcome.
pub poll_with_end : (facts : List Fact) (number : ℕ) (p : Poll) (end : Option EndedPoll) → Some p ≡ poll_of facts number → end ≡ end_of facts number
    → Some (let row : PollRow = record { poll = p; ended = end } in row) ≡ poll_row_of facts number
poll_with_end facts number p end is ends =
    let own : p.number ≡ number = eqb-true p.number number (find_passes (λ (q : Poll). q.number == number) (polls_in facts) p (sym is)) in
    ap (λ (o : Option EndedPoll). Some (let row : PollRow = record { poll = p; ended = o } in row)) (ends ∙ ap (end_of facts) (sym own)) ∙ ap (option_map (poll_row facts)) is
