-- Parses rows of the tables `polls` and `outcomes`.
use Rattle.std.specs.Prelude.{ℕ, ◌==◌, ◌-◌, min, Result, Ok, if◌then◌else◌}
use Rattle.sqlite.specs.Order.{Row, column}
use Rattle.store_tables.specs.declared.faults.RowFault.{RowFault}
use Rattle.store_tables.specs.Columns.{whole_in, or_damaged, and_then}
use Rattle.store_tables.specs.Limits.{greatest_place, latest_moment}
use Rattle.table_audit.specs.declared.poll_rows.OutcomeRow.{OutcomeRow}
use Rattle.table_audit.specs.declared.poll_rows.PollRow.{PollRow}

-- The greatest count of Modbus registers in one read from `address`: at most 125, and none past
-- address 65535.
abbrev pub greatest_count : (address : ℕ) → ℕ
greatest_count address = min 125 (65536 - address)

-- Parses the number and the start time of a poll. If a numeric column of its row is out of range,
-- the result is the error that reports a damaged file.
abbrev pub poll_in : Row → Result PollRow RowFault
poll_in row =
    and_then (or_damaged (whole_in 1 greatest_place (column row 0))) (λ number.
    and_then (or_damaged (whole_in 0 255 (column row 1))) (λ unit.
    and_then (or_damaged (whole_in 0 latest_moment (column row 2))) (λ started.
    and_then (or_damaged (whole_in 0 65535 (column row 3))) (λ tid.
    and_then (or_damaged (whole_in 3 4 (column row 4))) (λ function.
    and_then (or_damaged (whole_in 0 65535 (column row 5))) (λ address.
    and_then (or_damaged (whole_in 1 (greatest_count address) (column row 6))) (λ count.
    Ok (record { number = number; started = started }))))))))

-- The least valid code of an outcome kind. The code is the device's exception code for an
-- exception, 1 to 5 for a malformed response, 1 to 4 for a lost poll, and 0 otherwise.
abbrev pub least_code : (kind : ℕ) → ℕ
least_code kind = if kind == 4 then 1 else if kind == 5 then 1 else 0

-- The greatest valid code of an outcome kind. Kind 2 is an exception, kind 4 a malformed response,
-- and kind 5 a lost poll.
abbrev pub greatest_code : (kind : ℕ) → ℕ
greatest_code kind =
    if kind == 2 then 255 else if kind == 4 then 5 else if kind == 5 then 4 else 0

-- Parses the poll number and the timestamp of an outcome. If a column of its row is out of range,
-- the result is the error that reports a damaged file.
abbrev pub outcome_in : Row → Result OutcomeRow RowFault
outcome_in row =
    and_then (or_damaged (whole_in 1 greatest_place (column row 0))) (λ poll.
    and_then (or_damaged (whole_in 0 latest_moment (column row 1))) (λ moment.
    and_then (or_damaged (whole_in 1 5 (column row 2))) (λ kind.
    and_then (or_damaged (whole_in (least_code kind) (greatest_code kind) (column row 3))) (λ code.
    Ok (record { poll = poll; moment = moment })))))
