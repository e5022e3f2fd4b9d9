-- Theorems: if the rules for adding records accept each record after the earlier ones, each meter's
-- journal (history) obeys the rules for meter entries, and the meter's energies balance.
use Rattle.std.specs.Prelude.{◌≤◌, ℕ, ◌≡◌, ◌+◌, List}
use Rattle.std.specs.List.{All, Contains}
use Rattle.energy_core.specs.Value.{value_of}
use Rattle.energy_core.specs.Account.{set_anew, recorded}
use Rattle.energy_core.specs.TrueRun.{Item}
use Rattle.interval_core.specs.Account.{IsAccount, energy_of}
use Rattle.meter_journal.specs.Fitting.{AreFitting}
use Rattle.meter_journal.specs.Laws as journals
use Rattle.meter_journal.specs.Truth as truth
use Rattle.office_events.specs.declared.facts.Opening.{Opening}
use Rattle.office_events.specs.declared.facts.Fact.{Fact}
use Rattle.office_events.specs.declared.facts.Fact.TheVariants as fact
use Rattle.office_books.specs.Facts.{moment_limit, poll_limit, request_limit, moment_in, openings_in}
use Rattle.office_books.specs.Meters.{opened, installed, journal_of, entries_of, steps_in, installation_of}
use Rattle.office_books.specs.Intervals.{rows_of_opening}
use Rattle.office_books.specs.Lawful.{AreLawful}

-- True if the records contain the opening (installation record) of a meter.
abbrev pub IsRecorded : List Fact → Opening → Type 0
IsRecorded facts opening = Contains (openings_in facts) opening

-- Theorem: if the records follow the rules for adding records (`AreLawful`), then the rules for
-- each meter's journal (history) accept each line after the earlier lines.
abbrev pub JournalsFit : Type 0
JournalsFit = (facts : List Fact) (opening : Opening) → AreLawful facts → IsRecorded facts opening
    → AreFitting (installed opening) (journal_of facts opening.meter)

-- True if the energy of a meter balances, which means that two sums in mWh are equal. The first sum
-- adds the total energy, the counter value at the installation, and the values to which the counter
-- was set. The second sum adds the last value, a full range for each rollover, and the values
-- before the counter was set.
--
-- The energies of the steps between a meter's valid (not voided) entries add up to its total
-- energy. The energies by quarter hour add up to the same total.
pub record IsKept (facts : List Fact) (opening : Opening) : Type 0 where
  pub energy : (installation_of facts opening).total + value_of (opened opening)
      + set_anew (entries_of facts opening)
      ≡ value_of (installation_of facts opening).last
      + recorded opening.range (opened opening) (entries_of facts opening)
  pub account : journals.IsKept (installed opening) (journal_of facts opening.meter)
  pub rows : IsAccount (steps_in facts opening) (rows_of_opening facts opening)
  pub sum : energy_of (rows_of_opening facts opening) ≡ (installation_of facts opening).total

-- Theorem: suppose that the records follow the rules for adding records (`AreLawful`). Then each
-- meter's energy is its last count less its first count, corrected for rollovers, resets and
-- rescales (`IsKept`). Its energies by quarter hour add up to its total energy.
abbrev pub MetersAreKept : Type 0
MetersAreKept = (facts : List Fact) (opening : Opening) → AreLawful facts → IsRecorded facts opening
    → IsKept facts opening

-- Theorem about an honest meter that is polled often enough and has no entries but readings. Its
-- recorded energy, in total and by quarter hour, equals the true energy. No reading after the last
-- void (cancellation) is rejected. The voided readings may be wrong.
abbrev pub TruthIsRecorded : Type 0
TruthIsRecorded = (facts : List Fact) (opening : Opening) (first : Item) (items : List Item)
    → AreLawful facts → IsRecorded facts opening
    → truth.ShowsTrueRun (installed opening) (journal_of facts opening.meter) first items
    → truth.IsKeptTruly (installed opening) (journal_of facts opening.meter) first items

-- True if the valid entries of a meter are exactly the entries that no void (cancellation) names,
-- and voids leave no trace: the meter's history without the voided entries yields the same energy.
pub record IsUntraced (facts : List Fact) (opening : Opening) : Type 0 where
  pub rows : journals.HasItsRows (installed opening) (journal_of facts opening.meter)
  pub alone : journals.LeavesNoTrace (installed opening) (journal_of facts opening.meter)

-- Theorem: if the records follow the rules for adding records (`AreLawful`), then a meter has the
-- same energy without its voided (cancelled) entries. These entries thus leave no trace.
abbrev pub VoidsLeaveNoTrace : Type 0
VoidsLeaveNoTrace = (facts : List Fact) (opening : Opening) → AreLawful facts
    → IsRecorded facts opening → IsUntraced facts opening

-- The poll number in a record, or 0 if the record has no poll number.
abbrev pub poll_in : Fact → ℕ
poll_in (fact.Hold held) = held.poll
poll_in (fact.Poll poll) = poll.number
poll_in (fact.Outcome ended) = ended.poll
poll_in _ = 0

-- The number of the idempotency key in a record, or 0 if the record has no idempotency key.
abbrev pub request_in : Fact → ℕ
request_in (fact.Reply reply) = reply.number
request_in _ = 0

-- True if the timestamp, the poll number and the number of the idempotency key in a record are
-- within their limits.
pub record IsBounded (f : Fact) : Type 0 where
  pub moment : moment_in f ≤ moment_limit
  pub poll : poll_in f ≤ poll_limit
  pub request : request_in f ≤ request_limit

-- Theorem: if the records follow the rules for adding records (`AreLawful`), then their timestamps,
-- poll numbers and numbers of idempotency keys are within their limits.
abbrev pub FactsAreBounded : Type 0
FactsAreBounded = (facts : List Fact) → AreLawful facts → All IsBounded facts
