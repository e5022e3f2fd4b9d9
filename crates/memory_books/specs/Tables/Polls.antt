-- The two tables of polls in a store in memory: all polls, and the pending polls (without an
-- outcome).
use Rattle.std.specs.Prelude.{◌≡◌, ℕ, ◌-◌, ◌≤◌, ◌==◌, not, List, map, reverse, length, Some, slice_index_or, slice_set}
use Rattle.std.specs.List.{filter}
use Rattle.office_events.specs.declared.facts.Poll.{Poll}
use Rattle.office_events.specs.declared.facts.EndedPoll.{EndedPoll}
use Rattle.office_events.specs.declared.facts.Fact.{Fact}
use Rattle.office_events.specs.declared.questions.PollRow.{PollRow}
use Rattle.office_books.specs.Facts.{polls_in, pending_in}
use Rattle.office_books.specs.Readings.{poll_row}
use Rattle.memory_books.specs.declared.tables.polls.Polls.{Polls}
use Rattle.memory_books.specs.declared.tables.polls.Pending.{Pending}

-- True if the table of polls in a store in memory has all recorded polls with their outcomes, in
-- the order in which the polls were started.
abbrev pub ArePolls : Polls → List Fact → Type 0
ArePolls polls known = polls.rows.items ≡ map (poll_row known) (reverse (polls_in known))

-- True if the cached list of pending polls has exactly the recorded polls without an outcome, in
-- the order in which they were started.
abbrev pub ArePending : Pending → List Fact → Type 0
ArePending pending known = pending.polls.items ≡ pending_in known

-- The row of a poll after the poll gets this outcome.
abbrev pub row_with_end : EndedPoll → PollRow → PollRow
row_with_end ended row = record { poll = row.poll; ended = Some ended }

-- The effect of an outcome on the table of polls in a store in memory. If the table has the
-- outcome's poll, the poll gets the outcome. All other polls are unchanged.
abbrev pub EndsPoll : EndedPoll → (before after : List PollRow) → Type 0
EndsPoll ended before after =
    1 ≤ ended.poll → ended.poll ≤ length before
    → (d : PollRow)
    → after ≡ slice_set before (ended.poll - 1)
    (row_with_end ended (slice_index_or before (ended.poll - 1) d))

-- The polls of the list whose number is not the given number.
abbrev pub polls_but : ℕ → List Poll → List Poll
polls_but number polls = filter (λ poll. not (number == poll.number)) polls
