-- The cached pending polls (without an outcome), the cached number of polls, and the effect of new
-- records on these caches.
use Rattle.std.specs.Prelude.{◌≡◌, ◌⊎◌, ◌+◌, ◌==◌, ℕ, false, List, length, Option, Some, None}
use Rattle.std.specs.BTreeMap.{get}
use Rattle.std.specs.Ordering.{nat_cmp}
use Rattle.office_events.specs.declared.facts.Poll.{Poll}
use Rattle.office_events.specs.declared.facts.Fact.{Fact}
use Rattle.office_events.specs.declared.facts.Fact.TheVariants as fact
use Rattle.office_events.specs.declared.questions.PollRow.{PollRow}
use Rattle.office_books.specs.Facts.{polls_in}
use Rattle.office_books.specs.Readings.{poll_row_of}
use Rattle.memory_books.specs.declared.kept.polls.Polls.{Polls}

-- The cached pending poll (without an outcome) with this number, or `None` if the poll is not
-- cached.
abbrev pub waiting_at : Polls → ℕ → Option Poll
waiting_at polls number = get nat_cmp polls.waiting number

-- The row of a poll that has no outcome yet.
abbrev pub waits : Poll → PollRow
waits poll = record { poll = poll; ended = None }

-- True if each cached poll is pending (without an outcome) in these records, and the cached number
-- of polls, if any, equals the number of recorded polls.
pub record PollsAreTrue (polls : Polls) (facts : List Fact) : Type 0 where
  pub waiting : (number : ℕ) (poll : Poll) → waiting_at polls number ≡ Some poll
      → poll_row_of facts number ≡ Some (waits poll)
  pub started : (count : ℕ) → polls.started ≡ Some count → count ≡ length (polls_in facts)

-- True if the cached pending polls (without an outcome) are unchanged, or changed only by adding
-- this poll.
abbrev pub MayWait : Poll → (before after : Polls) → Type 0
MayWait poll before after = (number : ℕ)
    → (waiting_at after number ≡ waiting_at before number)
    ⊎ ((number ≡ poll.number) × (waiting_at after number ≡ Some poll))

-- True if the poll with this number is not cached as pending, and all other cached polls are
-- unchanged.
pub record WaitsNoMore (number : ℕ) (before after : Polls) : Type 0 where
  pub gone : waiting_at after number ≡ None
  pub others : (other : ℕ) → (number == other) ≡ false
      → waiting_at after other ≡ waiting_at before other

-- The effect of a poll's start on the cached number of polls. The cached number is increased by
-- one, or removed from the cache.
abbrev pub GoesUp : (before after : Option ℕ) → Type 0
GoesUp before after = (count : ℕ) → after ≡ Some count
    → (less : ℕ) × (before ≡ Some less) × (count ≡ less + 1)

-- The effect of a new record on the cached polls. The start of a poll increases the cached number
-- of polls, and can add the poll to the cache. An outcome removes its poll from the cache. Other
-- records change nothing.
abbrev pub PollsChange : Fact → (before after : Polls) → Type 0
PollsChange (fact.Poll poll) before after =
    MayWait poll before after × GoesUp before.started after.started
PollsChange (fact.Outcome ended) before after =
    WaitsNoMore ended.poll before after × (after.started ≡ before.started)
PollsChange (fact.Device device) before after = after ≡ before
PollsChange (fact.List put) before after = after ≡ before
PollsChange (fact.Register register) before after = after ≡ before
PollsChange (fact.Opening opening) before after = after ≡ before
PollsChange (fact.Entry booked) before after = after ≡ before
PollsChange (fact.Hold held) before after = after ≡ before
PollsChange (fact.Void voided) before after = after ≡ before
PollsChange (fact.Reply reply) before after = after ≡ before
