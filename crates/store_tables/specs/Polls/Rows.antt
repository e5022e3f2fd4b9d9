-- Rows of `polls`, `outcomes`, `holds` (rejected readings) and `replies` (stored requests), their
-- columns, and the ranges that the store permits for the values in these columns.
use Rattle.std.specs.Prelude.{◌≡◌, ℕ, pos, ◌≤◌, ◌<◌, ◌+◌, ◌-◌, ◌^◌, min, List, [], ◌∷◌, Bool, bytes_eq, ◌&&◌, ◌==◌, Option, Some, None, if◌then◌else◌, Result, Ok, IsUtf8, string_bytes, codes}
use Rattle.sqlite.specs.declared.types.Value.{Value}
use Rattle.sqlite.specs.declared.types.Value.TheVariants.{Null, Int, Real, Text, Blob}
use Rattle.sqlite.specs.Order.{Row, column}
use Rattle.mb_wire.specs.Spans.{code_of}
use Rattle.energy_core.specs.Verdict.{cause_number}
use Rattle.poll_core.specs.declared.outcome.Outcome.{Outcome}
use Rattle.poll_core.specs.declared.outcome.Outcome.TheVariants.{Answered, Exception, Silent, Malformed, Lost}
use Rattle.poll_core.specs.declared.outcome.Malformation.{Malformation}
use Rattle.poll_core.specs.declared.outcome.Malformation.TheVariants as malformation
use Rattle.poll_core.specs.declared.outcome.LostCause.{LostCause}
use Rattle.poll_core.specs.declared.outcome.LostCause.TheVariants as lost
use Rattle.poll_core.specs.Outcomes.{outcome_number, outcome_code}
use Rattle.store_tables.specs.declared.faults.RowFault.{RowFault}
use Rattle.store_tables.specs.Columns.{whole_in, function_in, or_damaged, and_then}
use Rattle.store_tables.specs.Limits.{greatest_place, IsPlace, latest_moment}
use Rattle.store_tables.specs.declared.polls.rows.PollRow.{PollRow}
use Rattle.store_tables.specs.declared.polls.rows.Poll.{Poll}
use Rattle.store_tables.specs.declared.polls.rows.OutcomeRow.{OutcomeRow}
use Rattle.store_tables.specs.declared.polls.rows.RejectedRow.{RejectedRow}
use Rattle.office_events.specs.declared.answers.CommandKind.{CommandKind}
use Rattle.office_events.specs.declared.answers.CommandKind.TheVariants as kind
use Rattle.store_tables.specs.declared.polls.rows.Repeat.{Repeat}
use Rattle.store_tables.specs.declared.polls.rows.Repeat.TheVariants.{Same, Other}

-- Definitions of the rows of the table `polls`: their columns, what queries return of them, and the
-- ranges of their numbers.

-- A poll of a device, as a row of the table `polls`. A poll is one Modbus read that was started.
pub record Started : Type 0 where
  pub device : List ℕ
  pub row : PollRow

-- All columns of a poll's row in the table `polls`.
abbrev pub poll_columns : Started → Row
poll_columns p =
    Int (pos p.row.number) ∷ Null ∷ Text p.device ∷ Int (pos p.row.unit) ∷ Int (pos p.row.started)
    ∷ Int (pos p.row.id)
    ∷ Int (pos (code_of p.row.function)) ∷ Int (pos p.row.address) ∷ Int (pos p.row.count) ∷ []

-- The columns that a SELECT from `polls` returns for a poll.
abbrev pub poll_shown : Started → Row
poll_shown p =
    Int (pos p.row.number) ∷ Text p.device ∷ Int (pos p.row.unit) ∷ Int (pos p.row.started)
    ∷ Int (pos p.row.id)
    ∷ Int (pos (code_of p.row.function)) ∷ Int (pos p.row.address) ∷ Int (pos p.row.count) ∷ []

-- The result row of the query for the last poll. The row has only the poll's number.
abbrev pub number_shown : Started → Row
number_shown p = Int (pos p.row.number) ∷ []

-- The number of a poll.
abbrev pub poll_number : Started → ℕ
poll_number p = p.row.number

-- True if a poll has the number `number`.
abbrev pub is_poll : (number : ℕ) → Started → Bool
is_poll number p = p.row.number == number

-- The greatest number of Modbus registers that one read from `address` can cover, at most 125.
abbrev pub greatest_count : (address : ℕ) → ℕ
greatest_count address = min 125 (65536 - address)

-- True if every number of a poll is in the range that the store permits for its column, and the
-- poll reads no address above 65535.
pub record IsSoundPoll (p : PollRow) : Type 0 where
  pub number : IsPlace p.number
  pub unit : p.unit ≤ 255
  pub started : p.started ≤ latest_moment
  pub id : p.id ≤ 65535
  pub address : p.address ≤ 65535
  pub count : (1 ≤ p.count) × (p.count ≤ 125)
  pub inside : p.address + p.count ≤ 65536

-- True if every number of a poll is in the range that the store permits for its column, and the
-- name of the poll's device is UTF-8.
pub record IsSoundStarted (p : Started) : Type 0 where
  pub row : IsSoundPoll p.row
  pub device : IsUtf8 p.device

-- True if the poll that was read from a result row has the device name and the numeric columns of
-- the stored poll.
pub record IsStarted (p : Started) (a : Poll) : Type 0 where
  pub device : string_bytes a.device ≡ p.device
  pub row : a.row ≡ p.row

-- True if the number that a query returned is the number of the given poll.
abbrev pub HasNumber : Started → ℕ → Type 0
HasNumber p number = number ≡ p.row.number

-- The numeric columns of a poll in a result row of a query, or `Damaged` if a number is out of the
-- range that the store permits for its column.
abbrev pub poll_in : Row → Result PollRow RowFault
poll_in row =
    and_then (or_damaged (whole_in 1 greatest_place (column row 0))) (λ number.
    and_then (or_damaged (whole_in 0 255 (column row 2))) (λ unit.
    and_then (or_damaged (whole_in 0 latest_moment (column row 3))) (λ started.
    and_then (or_damaged (whole_in 0 65535 (column row 4))) (λ id.
    and_then (or_damaged (function_in (column row 5))) (λ function.
    and_then (or_damaged (whole_in 0 65535 (column row 6))) (λ address.
    and_then (or_damaged (whole_in 1 (greatest_count address) (column row 7))) (λ count.
    Ok (record {
      number = number;
      unit = unit;
      started = started;
      id = id;
      function = function;
      address = address;
      count = count;
    }))))))))

-- Definitions of the rows of the table `outcomes`.

-- The columns of a row of `outcomes`, which says how a poll ended.
abbrev pub outcome_columns : OutcomeRow → Row
outcome_columns o =
    Int (pos o.poll) ∷ Null ∷ Int (pos o.moment) ∷ Int (pos (outcome_number o.outcome))
    ∷ Int (pos (outcome_code o.outcome)) ∷ []

-- The columns that a SELECT from `outcomes` returns for the outcome of a poll.
abbrev pub outcome_shown : OutcomeRow → Row
outcome_shown o =
    Int (pos o.poll) ∷ Int (pos o.moment) ∷ Int (pos (outcome_number o.outcome))
    ∷ Int (pos (outcome_code o.outcome)) ∷ []

-- True if an outcome belongs to the poll with the number `poll`.
abbrev pub is_outcome_of : (poll : ℕ) → OutcomeRow → Bool
is_outcome_of poll o = o.poll == poll

-- True if the outcome that a query returned equals the stored outcome.
abbrev pub IsOutcome : OutcomeRow → OutcomeRow → Type 0
IsOutcome o a = a ≡ o

-- True if the code of an outcome, such as a Modbus exception code, is less than 256.
abbrev pub HasCode : Outcome → Type 0
HasCode outcome = outcome_code outcome ≤ 255

-- True if every value of a row of `outcomes` is in the range that the store permits for its column.
pub record IsSoundOutcome (o : OutcomeRow) : Type 0 where
  pub poll : IsPlace o.poll
  pub moment : o.moment ≤ latest_moment
  pub code : HasCode o.outcome

-- The kind of malformed response that a number in `outcomes` encodes, or None for any other number.
abbrev pub malformation_of : ℕ → Option Malformation
malformation_of n =
    if n == 1 then Some malformation.WrongFunction else
    if n == 2 then Some malformation.WrongLength else
    if n == 3 then Some malformation.WrongByteCount else
    if n == 4 then Some malformation.WrongEcho else
    if n == 5 then Some malformation.WrongUnit else None

-- The cause of a lost poll that a number in `outcomes` encodes, or None for any other number.
abbrev pub lost_of : ℕ → Option LostCause
lost_of n =
    if n == 1 then Some lost.Gone else
    if n == 2 then Some lost.Garbled else
    if n == 3 then Some lost.Failed else
    if n == 4 then Some lost.Restart else None

abbrev pub malformed_of : Option Malformation → Option Outcome
malformed_of None = None
malformed_of (Some wrong) = Some (Malformed wrong)

abbrev pub lost_by : Option LostCause → Option Outcome
lost_by None = None
lost_by (Some why) = Some (Lost why)

-- The outcome of a poll that the columns `outcome` and `code` encode, or None if they encode no
-- outcome.
abbrev pub outcome_of : (number code : ℕ) → Option Outcome
outcome_of number code =
    if number == 1 then (if code == 0 then Some Answered else None) else
    if number == 2 then Some (Exception code) else
    if number == 3 then (if code == 0 then Some Silent else None) else
    if number == 4 then malformed_of (malformation_of code) else
    if number == 5 then lost_by (lost_of code) else None

-- The outcome of a poll in a result row, or `Damaged` if a column's value is out of the range that
-- the store permits.
abbrev pub outcome_in : Row → Result OutcomeRow RowFault
outcome_in row =
    and_then (or_damaged (whole_in 1 greatest_place (column row 0))) (λ poll.
    and_then (or_damaged (whole_in 0 latest_moment (column row 1))) (λ moment.
    and_then (or_damaged (whole_in 1 5 (column row 2))) (λ number.
    and_then (or_damaged (whole_in 0 255 (column row 3))) (λ code.
    and_then (or_damaged (outcome_of number code)) (λ outcome.
    Ok (record { poll = poll; moment = moment; outcome = outcome }))))))

-- Definitions of rejected readings of meters, which are rows of the table `holds`.

-- A rejected reading of a meter, as a row of the table `holds`.
pub record Held : Type 0 where
  pub meter : List ℕ
  pub row : RejectedRow

-- The columns of a rejected reading in the table `holds`.
abbrev pub hold_columns : Held → Row
hold_columns h =
    Int (pos h.row.place) ∷ Null ∷ Text h.meter ∷ Int (pos h.row.poll) ∷ Int (pos h.row.moment)
    ∷ Int (pos h.row.raw)
    ∷ Int h.row.sf ∷ Int (pos (cause_number h.row.cause)) ∷ []

-- The parameters of the INSERT statement for a rejected reading.
abbrev pub hold_shown : Held → Row
hold_shown h =
    Int (pos h.row.place) ∷ Text h.meter ∷ Int (pos h.row.poll) ∷ Int (pos h.row.moment)
    ∷ Int (pos h.row.raw)
    ∷ Int h.row.sf ∷ Int (pos (cause_number h.row.cause)) ∷ []

-- The index of a rejected reading in the table `holds`.
abbrev pub hold_place : Held → ℕ
hold_place h = h.row.place

-- The result row of the query for the last rejected reading. The row has only the reading's index.
abbrev pub hold_place_shown : Held → Row
hold_place_shown h = Int (pos h.row.place) ∷ []

-- True if every value of a rejected reading is in the range that the store permits for its column.
-- The predicate does not check the name of the reading's meter.
pub record IsSoundHold (h : RejectedRow) : Type 0 where
  pub place : IsPlace h.place
  pub poll : IsPlace h.poll
  pub moment : h.moment ≤ latest_moment

-- True if every value of a row of `holds` is in the range that the store permits for its column.
abbrev pub IsSoundHeld : Held → Type 0
IsSoundHeld h = IsSoundHold h.row

-- Definitions of stored requests, which are rows of the table `replies`.

-- The word that the table `replies` stores for a kind of command.
abbrev pub kind_word : CommandKind → List ℕ
kind_word kind.Device = codes "device"
kind_word kind.List = codes "list"
kind_word kind.Register = codes "register"
kind_word kind.Install = codes "install"
kind_word kind.Exchange = codes "exchange"
kind_word kind.Reset = codes "reset"
kind_word kind.Rescale = codes "rescale"
kind_word kind.Manual = codes "manual"
kind_word kind.Close = codes "close"
kind_word kind.Void = codes "void"
kind_word kind.Start = codes "start"

-- The kind of command that a word in the table `replies` names, or None for any other word.
abbrev pub kind_of : List ℕ → Option CommandKind
kind_of word =
    if bytes_eq word (codes "device") then Some kind.Device else
    if bytes_eq word (codes "list") then Some kind.List else
    if bytes_eq word (codes "register") then Some kind.Register else
    if bytes_eq word (codes "install") then Some kind.Install else
    if bytes_eq word (codes "exchange") then Some kind.Exchange else
    if bytes_eq word (codes "reset") then Some kind.Reset else
    if bytes_eq word (codes "rescale") then Some kind.Rescale else
    if bytes_eq word (codes "manual") then Some kind.Manual else
    if bytes_eq word (codes "close") then Some kind.Close else
    if bytes_eq word (codes "void") then Some kind.Void else
    if bytes_eq word (codes "start") then Some kind.Start else None

-- An accepted request that is stored under its idempotency key, with the kind of its command and
-- the time of its response.
pub record Kept : Type 0 where
  pub caller : List ℕ
  pub number : ℕ
  pub request : List ℕ
  pub kind : CommandKind
  pub moment : ℕ

abbrev pub kept_under : (caller : List ℕ) → (number : ℕ) → (request : List ℕ) → CommandKind
    → (moment : ℕ) → Kept
kept_under caller number request kind moment =
    record { caller = caller; number = number; request = request; kind = kind; moment = moment }

-- The columns of a stored request in the table `replies`.
abbrev pub reply_columns : Kept → Row
reply_columns k =
    Text k.caller ∷ Int (pos k.number) ∷ Blob k.request ∷ Text (kind_word k.kind)
    ∷ Int (pos k.moment)
    ∷ []

-- The columns that a SELECT from `replies` returns: the bytes of the request, and the word for its
-- command.
abbrev pub reply_shown : Kept → Row
reply_shown k = Blob k.request ∷ Text (kind_word k.kind) ∷ []

-- True if a request is stored under the idempotency key that consists of `caller` and `number`.
abbrev pub is_reply : (caller : List ℕ) → (number : ℕ) → Kept → Bool
is_reply caller number k = bytes_eq k.caller caller && (k.number == number)

-- True if a number can be part of an idempotency key: it is less than 2^63.
abbrev pub IsCallNumber : ℕ → Type 0
IsCallNumber number = number < 2 ^ 63

-- How a request compares with the request that is stored under its idempotency key: `Same` if their
-- bytes are equal (a retry), otherwise `Other`.
abbrev pub repeat_as : CommandKind → (same : Bool) → Repeat
repeat_as kind same = if same then Same kind else Other

-- True if the comparison with the request that is stored under the same idempotency key is correct:
-- `Same` if both requests have the same bytes, otherwise `Other`.
abbrev pub IsRepeat : (request : List ℕ) → Kept → Repeat → Type 0
IsRepeat request k a = a ≡ repeat_as k.kind (bytes_eq k.request request)

-- True if the time of a stored request is at most the latest timestamp that the store accepts.
abbrev pub IsSoundKept : Kept → Type 0
IsSoundKept k = k.moment ≤ latest_moment

-- The kind of command whose word is in a column, or None for any other value.
abbrev pub kind_in : Value → Option CommandKind
kind_in (Text word) = kind_of word
kind_in (Int n) = None
kind_in Null = None
kind_in (Real x) = None
kind_in (Blob b) = None

-- Whether the blob in a column equals the given bytes. None if the column has no blob.
abbrev pub same_bytes : List ℕ → Value → Option Bool
same_bytes bytes (Blob b) = Some (bytes_eq b bytes)
same_bytes bytes (Text word) = None
same_bytes bytes (Int n) = None
same_bytes bytes Null = None
same_bytes bytes (Real x) = None

-- The comparison of a request with the request that a result row stores under the same idempotency
-- key (is it a retry?), or `Damaged` if a column is invalid.
abbrev pub repeat_in : (request : List ℕ) → Row → Result Repeat RowFault
repeat_in request row =
    and_then (or_damaged (same_bytes request (column row 0))) (λ same.
    and_then (or_damaged (kind_in (column row 1))) (λ kind.
    Ok (repeat_as kind same)))

-- Definitions for the queries that return the latest timestamp in a table of polls, outcomes,
-- rejected readings or stored requests: the time in a row, and the result row.

-- The time at which a poll started, in seconds since 1970-01-01 UTC.
abbrev pub start_of : Started → ℕ
start_of p = p.row.started

-- The result row of the query for the latest start of a poll. The row has only the poll's start.
abbrev pub start_shown : Started → Row
start_shown p = Int (pos p.row.started) ∷ []

-- True if the time that a query returned is the time at which the given poll started.
abbrev pub HasStart : Started → ℕ → Type 0
HasStart p moment = moment ≡ p.row.started

-- The time at which a poll ended, in seconds since 1970-01-01 UTC.
abbrev pub outcome_moment : OutcomeRow → ℕ
outcome_moment o = o.moment

-- The result row of the query for the latest outcome. The row has only the time at which the poll
-- ended.
abbrev pub outcome_moment_shown : OutcomeRow → Row
outcome_moment_shown o = Int (pos o.moment) ∷ []

-- True if the time that a query returned is the time of the given outcome, when its poll ended.
abbrev pub HasOutcomeMoment : OutcomeRow → ℕ → Type 0
HasOutcomeMoment o moment = moment ≡ o.moment

-- The timestamp of a rejected reading, in seconds since 1970-01-01 UTC.
abbrev pub hold_moment : Held → ℕ
hold_moment h = h.row.moment

-- The result row of the query for the latest rejected reading. The row has only the reading's
-- timestamp.
abbrev pub hold_moment_shown : Held → Row
hold_moment_shown h = Int (pos h.row.moment) ∷ []

-- True if the time that a query returned is the timestamp of the given rejected reading.
abbrev pub HasHoldMoment : Held → ℕ → Type 0
HasHoldMoment h moment = moment ≡ h.row.moment

-- The time of the response to a stored request, in seconds since 1970-01-01 UTC.
abbrev pub reply_moment : Kept → ℕ
reply_moment k = k.moment

-- The result row of the query for the stored request with the latest response. The row has only the
-- time of this response.
abbrev pub reply_moment_shown : Kept → Row
reply_moment_shown k = Int (pos k.moment) ∷ []

-- True if the time that a query returned is the time of the response to the given stored request.
abbrev pub HasReplyMoment : Kept → ℕ → Type 0
HasReplyMoment k moment = moment ≡ k.moment
