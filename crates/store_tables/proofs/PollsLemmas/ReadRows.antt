-- Proofs that the functions that read result rows of the tables `polls`, `outcomes`, `holds`
-- (rejected readings) and `replies` return the values in these rows.
use Rattle.std.proofs.lemmas.Bool.{cases_Bool}
use Rattle.std.proofs.Common.{◌≡◌, ◌≢◌, ◌≤◌, ◌+◌, ◌==◌, inl, inr, if◌then◌else◌, ℕ, List, zero-le, Option, Some, None, Ok, Err, Result, Bool, true, false, bytes_eq, IfOk, refl, sym, ap, subst, ◌∙◌, arith}
use Rattle.sqlite.specs.declared.types.Value.TheVariants.{Text}
use Rattle.sqlite.specs.Order.{Row, column}
use Rattle.poll_core.specs.declared.outcome.Outcome.{Outcome}
use Rattle.poll_core.specs.declared.outcome.Outcome.TheVariants.{Answered, Exception, Silent, Malformed, Lost}
use Rattle.poll_core.specs.declared.outcome.Malformation.TheVariants as malformation
use Rattle.poll_core.specs.declared.outcome.LostCause.TheVariants as lost
use Rattle.poll_core.specs.declared.outcome.Malformation.{Malformation}
use Rattle.poll_core.specs.declared.outcome.LostCause.{LostCause}
use Rattle.poll_core.specs.Outcomes.{outcome_number, outcome_code, malformation_number, cause_number}
use Rattle.store_tables.specs.declared.faults.RowFault.{RowFault}
use Rattle.store_tables.specs.Asking.{ReadsRow}
use Rattle.store_tables.specs.Columns.{whole_in, function_in, or_damaged, and_then}
use Rattle.store_tables.specs.Limits.{greatest_place, latest_moment}
use Rattle.store_tables.proofs.ReadLemmas.{IsFair, fair_some, fair_whole, reads_row, reads_number, has_read, whole_bounds, ok_is}
use Rattle.store_tables.specs.declared.polls.rows.PollRow.{PollRow}
use Rattle.store_tables.specs.declared.polls.rows.OutcomeRow.{OutcomeRow}
use Rattle.office_events.specs.declared.answers.CommandKind.{CommandKind}
use Rattle.office_events.specs.declared.answers.CommandKind.TheVariants as kind
use Rattle.store_tables.specs.declared.polls.rows.Repeat.{Repeat}
use Rattle.store_tables.specs.Polls.Rows.{number_shown, poll_number, poll_in, HasNumber, IsSoundPoll, IsSoundStarted, greatest_count, outcome_shown, outcome_in, malformation_of, lost_of, malformed_of, lost_by, outcome_of, IsOutcome, IsSoundOutcome, IsSoundHeld, kind_word, kind_in, reply_shown, repeat_in, repeat_as, IsRepeat, IsSoundKept, start_of, start_shown, HasStart, outcome_moment, outcome_moment_shown, HasOutcomeMoment, hold_moment, hold_moment_shown, HasHoldMoment, reply_moment, reply_moment_shown, HasReplyMoment}

-- Lemma: reading the number of a poll from a query's result row returns the number that the row
-- encodes.

pub reads_poll_number : (row : Row) (r : Result ℕ RowFault) → r ≡ or_damaged (whole_in 1 greatest_place (column row 0)) → ReadsRow row number_shown HasNumber IsSoundStarted r
reads_poll_number = reads_number 1 greatest_place number_shown poll_number IsSoundStarted (λ p. refl) (λ p is. is.row.number)

-- Lemmas: reading the latest timestamp of the table `polls`, `outcomes`, `holds` or `replies`
-- returns the stored timestamp.

pub reads_start_moment : (row : Row) (r : Result ℕ RowFault) → r ≡ or_damaged (whole_in 0 latest_moment (column row 0)) → ReadsRow row start_shown HasStart IsSoundStarted r
reads_start_moment = reads_number 0 latest_moment start_shown start_of IsSoundStarted (λ p. refl) (λ p is. (zero-le, is.row.started))

pub reads_outcome_moment : (row : Row) (r : Result ℕ RowFault) → r ≡ or_damaged (whole_in 0 latest_moment (column row 0)) → ReadsRow row outcome_moment_shown HasOutcomeMoment IsSoundOutcome r
reads_outcome_moment = reads_number 0 latest_moment outcome_moment_shown outcome_moment IsSoundOutcome (λ o. refl) (λ o is. (zero-le, is.moment))

pub reads_hold_moment : (row : Row) (r : Result ℕ RowFault) → r ≡ or_damaged (whole_in 0 latest_moment (column row 0)) → ReadsRow row hold_moment_shown HasHoldMoment IsSoundHeld r
reads_hold_moment = reads_number 0 latest_moment hold_moment_shown hold_moment IsSoundHeld (λ h. refl) (λ h is. (zero-le, is.moment))

pub reads_reply_moment : (row : Row) (r : Result ℕ RowFault) → r ≡ or_damaged (whole_in 0 latest_moment (column row 0)) → ReadsRow row reply_moment_shown HasReplyMoment IsSoundKept r
reads_reply_moment = reads_number 0 latest_moment reply_moment_shown reply_moment IsSoundKept (λ k. refl) (λ k is. (zero-le, is))

-- Lemmas: a row of `polls` is read as the stored poll, and its numbers are in the ranges that the
-- store permits for their columns.

room_of : (address count : ℕ) → address ≤ 65535 → count ≤ greatest_count address → (count ≤ 125) × (address + count ≤ 65536)
room_of address count low room = (omega arith, omega arith)

pub sound_poll : (row : Row) (a : PollRow) → poll_in row ≡ Ok a → IsSoundPoll a
sound_poll row a is =
    let number = has_read (whole_in 1 greatest_place (column row 0)) _ a is in
    let unit = has_read (whole_in 0 255 (column row 2)) _ a number.rest in
    let started = has_read (whole_in 0 latest_moment (column row 3)) _ a unit.rest in
    let id = has_read (whole_in 0 65535 (column row 4)) _ a started.rest in
    let function = has_read (function_in (column row 5)) _ a id.rest in
    let address = has_read (whole_in 0 65535 (column row 6)) _ a function.rest in
    let count = has_read (whole_in 1 (greatest_count address.value) (column row 7)) _ a address.rest in
    let same : record { number = number.value; unit = unit.value; started = started.value; id = id.value; function = function.value; address = address.value; count = count.value } ≡ a = ok_is count.rest in
    let low = (whole_bounds 0 65535 (column row 6) address.value address.is).1 in
    let some = whole_bounds 1 (greatest_count address.value) (column row 7) count.value count.is in
    let room = room_of address.value count.value low some.1 in
    subst IsSoundPoll same (record {
      number = whole_bounds 1 greatest_place (column row 0) number.value number.is;
      unit = (whole_bounds 0 255 (column row 2) unit.value unit.is).1;
      started = (whole_bounds 0 latest_moment (column row 3) started.value started.is).1;
      id = (whole_bounds 0 65535 (column row 4) id.value id.is).1;
      address = low;
      count = (some.0, room.0);
      inside = room.1;
    })

-- Lemmas: a row of `outcomes` is read as the stored outcome, and its numbers are in the ranges that
-- the store permits for their columns.

outcome_back : (o : Outcome) → outcome_of (outcome_number o) (outcome_code o) ≡ Some o
outcome_back Answered = refl
outcome_back (Exception code) = refl
outcome_back Silent = refl
outcome_back (Malformed malformation.WrongFunction) = refl
outcome_back (Malformed malformation.WrongLength) = refl
outcome_back (Malformed malformation.WrongByteCount) = refl
outcome_back (Malformed malformation.WrongEcho) = refl
outcome_back (Malformed malformation.WrongUnit) = refl
outcome_back (Lost lost.Gone) = refl
outcome_back (Lost lost.Garbled) = refl
outcome_back (Lost lost.Failed) = refl
outcome_back (Lost lost.Restart) = refl

number_bounds_of : (o : Outcome) → (1 ≤ outcome_number o) × (outcome_number o ≤ 5)
number_bounds_of Answered = (omega arith, omega arith)
number_bounds_of (Exception code) = (omega arith, omega arith)
number_bounds_of Silent = (omega arith, omega arith)
number_bounds_of (Malformed wrong) = (omega arith, omega arith)
number_bounds_of (Lost why) = (omega arith, omega arith)

outcome_fair : (o : OutcomeRow) → IsFair (IsSoundOutcome o) (IsOutcome o) (outcome_in (outcome_shown o))
outcome_fair o =
    let S = IsSoundOutcome o in
    let P = IsOutcome o in
    fair_whole S P _ 1 _ o.poll (λ is. is.poll)
    (fair_whole S P _ 0 _ o.moment (λ is. (zero-le, is.moment))
    (fair_whole S P _ 1 _ (outcome_number o.outcome) (λ is. number_bounds_of o.outcome)
    (fair_whole S P _ 0 _ (outcome_code o.outcome) (λ is. (zero-le, is.code))
    (fair_some S P _ _ o.outcome (outcome_back o.outcome)
    (record { read = refl; fault = tt })))))

pub reads_outcome : (row : Row) (r : Result OutcomeRow RowFault) → r ≡ outcome_in row → ReadsRow row outcome_shown IsOutcome IsSoundOutcome r
reads_outcome row r is = reads_row row outcome_shown IsOutcome IsSoundOutcome r (λ o shown. subst (IsFair (IsSoundOutcome o) (IsOutcome o)) (sym (is ∙ ap outcome_in shown)) (outcome_fair o))

not_malformed : (found : Option Malformation) (code : ℕ) → malformed_of found ≡ Some (Exception code) → ⊥
not_malformed None code e = absurd (let f = e in cc)
not_malformed (Some wrong) code e = absurd (let f = e in cc)

not_lost : (found : Option LostCause) (code : ℕ) → lost_by found ≡ Some (Exception code) → ⊥
not_lost None code e = absurd (let f = e in cc)
not_lost (Some why) code e = absurd (let f = e in cc)

without_code : (b : Bool) (o : Outcome) (code : ℕ) → o ≢ Exception code → (if b then Some o else None) ≡ Some (Exception code) → ⊥
without_code true o code other e = other (let f : Some o ≡ Some (Exception code) = e in cc)
without_code false o code other e = absurd (let f = e in cc)

-- If the outcome in a row is a Modbus exception, its exception code equals the code in the row.
exception_is : (number code read : ℕ) → outcome_of number read ≡ Some (Exception code) → code ≡ read
exception_is number code read is = elim (cases_Bool (number == 1)) [
  | inl one ↦ absurd (without_code (read == 0) Answered code (λ e. absurd (let f = e in cc)) (rw one at is))
  | inr not_one ↦ elim (cases_Bool (number == 2)) [
    | inl two ↦ let e : Some (Exception read) ≡ Some (Exception code) = (rw (not_one, two) at is) in cc
    | inr not_two ↦ elim (cases_Bool (number == 3)) [
      | inl three ↦ absurd (without_code (read == 0) Silent code (λ e. absurd (let f = e in cc)) (rw (not_one, not_two, three) at is))
      | inr not_three ↦ elim (cases_Bool (number == 4)) [
        | inl four ↦ absurd (not_malformed (malformation_of read) code (rw (not_one, not_two, not_three, four) at is))
        | inr not_four ↦ elim (cases_Bool (number == 5)) [
          | inl five ↦ absurd (not_lost (lost_of read) code (rw (not_one, not_two, not_three, not_four, five) at is))
          | inr not_five ↦ absurd (let e = (rw (not_one, not_two, not_three, not_four, not_five) at is) in cc)
        ]
      ]
    ]
  ]
]

malformation_bound : (wrong : Malformation) → malformation_number wrong ≤ 255
malformation_bound malformation.WrongFunction = omega arith
malformation_bound malformation.WrongLength = omega arith
malformation_bound malformation.WrongByteCount = omega arith
malformation_bound malformation.WrongEcho = omega arith
malformation_bound malformation.WrongUnit = omega arith

lost_bound : (why : LostCause) → cause_number why ≤ 255
lost_bound lost.Gone = omega arith
lost_bound lost.Garbled = omega arith
lost_bound lost.Failed = omega arith
lost_bound lost.Restart = omega arith

code_bound : (number read : ℕ) (o : Outcome) → read ≤ 255 → outcome_of number read ≡ Some o → outcome_code o ≤ 255
code_bound number read Answered few is = zero-le
code_bound number read (Exception code) few is = subst (λ n. n ≤ 255) (sym (exception_is number code read is)) few
code_bound number read Silent few is = zero-le
code_bound number read (Malformed wrong) few is = malformation_bound wrong
code_bound number read (Lost why) few is = lost_bound why

pub sound_outcome : (row : Row) (r : Result OutcomeRow RowFault) → r ≡ outcome_in row → IfOk r IsSoundOutcome
sound_outcome row (Err f) is = tt
sound_outcome row (Ok a) is =
    let poll = has_read (whole_in 1 greatest_place (column row 0)) _ a (sym is) in
    let moment = has_read (whole_in 0 latest_moment (column row 1)) _ a poll.rest in
    let number = has_read (whole_in 1 5 (column row 2)) _ a moment.rest in
    let code = has_read (whole_in 0 255 (column row 3)) _ a number.rest in
    let outcome = has_read (outcome_of number.value code.value) _ a code.rest in
    let same : record { poll = poll.value; moment = moment.value; outcome = outcome.value } ≡ a = ok_is outcome.rest in
    subst IsSoundOutcome same (record {
      poll = whole_bounds 1 greatest_place (column row 0) poll.value poll.is;
      moment = (whole_bounds 0 latest_moment (column row 1) moment.value moment.is).1;
      code = code_bound number.value code.value outcome.value (whole_bounds 0 255 (column row 3) code.value code.is).1 outcome.is;
    })

-- Lemmas: the reader of a row of `replies` (stored requests) finds whether the stored request and
-- the new request have equal bytes.

kind_back : (k : CommandKind) → kind_in (Text (kind_word k)) ≡ Some k
kind_back kind.Device = refl
kind_back kind.List = refl
kind_back kind.Register = refl
kind_back kind.Install = refl
kind_back kind.Exchange = refl
kind_back kind.Reset = refl
kind_back kind.Rescale = refl
kind_back kind.Manual = refl
kind_back kind.Close = refl
kind_back kind.Void = refl
kind_back kind.Start = refl

pub reads_repeat : (request : List ℕ) (row : Row) (r : Result Repeat RowFault) → r ≡ repeat_in request row → ReadsRow row reply_shown (IsRepeat request) IsSoundKept r
reads_repeat request row r is = reads_row row reply_shown (IsRepeat request) IsSoundKept r (λ k shown.
    let S = IsSoundKept k in
    let P = IsRepeat request k in
    subst (IsFair S P) (sym (is ∙ ap (repeat_in request) shown))
    (fair_some S P (λ same. and_then (or_damaged (kind_in (column (reply_shown k) 1))) (λ kind. Ok (repeat_as kind same))) _ (bytes_eq k.request request) refl
    (fair_some S P (λ kind. Ok (repeat_as kind (bytes_eq k.request request))) _ k.kind (kind_back k.kind) (record { read = refl; fault = tt }))))
