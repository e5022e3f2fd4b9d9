-- The JSON of a meter and of a poll. Names consist of letters, digits, `_` and `-`, so JSON need
-- not escape them.
use Rattle.std.specs.Prelude.{ℕ, Bool, true, false, List, ◌++◌, codes, decimal, Option, Some, None}
use Rattle.std.specs.Fmt.{signed_decimal}
use Rattle.poll_core.specs.Outcomes.{outcome_code, outcome_number}
use Rattle.office_events.specs.declared.facts.EndedPoll.{EndedPoll}
use Rattle.office_events.specs.declared.questions.Installation.{Installation}
use Rattle.office_events.specs.declared.questions.PollRow.{PollRow}

-- The JSON text of a Boolean: `true` or `false`.
abbrev pub bool_text : Bool → List ℕ
bool_text true = codes "true"
bool_text false = codes "false"

-- The JSON of a meter: its last entry, its counter's range, and its total energy in mWh as a string
-- of digits.
abbrev pub meter_text : Installation → List ℕ
meter_text row =
    codes "{\"at\":" ++ decimal row.last.at
    ++ codes ",\"ended\":" ++ bool_text row.ended
    ++ codes ",\"last\":" ++ decimal row.last.raw
    ++ codes ",\"meter\":\"" ++ row.opening.meter
    ++ codes "\",\"range\":" ++ decimal row.opening.range
    ++ codes ",\"register\":\"" ++ row.opening.register
    ++ codes "\",\"sf\":" ++ signed_decimal row.last.sf
    ++ codes ",\"total\":\"" ++ decimal row.total
    ++ codes "\"}"

-- The end of a poll: its time, the numeric code of its outcome, and a second code with details,
-- such as the Modbus exception code. All fields are 0 while the poll waits for its response.
pub record Ending : Type 0 where
  pub moment : ℕ
  pub outcome : ℕ
  pub code : ℕ

-- The end of a poll, from the stored end if the poll has ended. All fields are 0 while the poll
-- waits for its response.
abbrev pub ending_of : Option EndedPoll → Ending
ending_of None = record { moment = 0; outcome = 0; code = 0 }
ending_of (Some ended) =
    record {
      moment = ended.at;
      outcome = outcome_number ended.outcome;
      code = outcome_code ended.outcome;
    }

-- The JSON of a poll, with the values in `ending` for the time and the outcome of its end.
abbrev pub poll_text_with : Ending → PollRow → List ℕ
poll_text_with ending row =
    codes "{\"code\":" ++ decimal ending.code
    ++ codes ",\"device\":\"" ++ row.poll.device
    ++ codes "\",\"moment\":" ++ decimal ending.moment
    ++ codes ",\"outcome\":" ++ decimal ending.outcome
    ++ codes ",\"poll\":" ++ decimal row.poll.number
    ++ codes ",\"started\":" ++ decimal row.poll.at
    ++ codes "}"

-- The JSON of a poll, with its outcome if it has ended.
abbrev pub poll_text : PollRow → List ℕ
poll_text row = poll_text_with (ending_of row.ended) row
