-- An example of a polling round with three Modbus reads, for a device that accepts at most two
-- pending polls at a time.
use Rattle.std.proofs.Common.{◌≡◌, [], ◌∷◌, None, Some, Ok, refl}
use Rattle.poll_core.specs.declared.outcome.Closing.TheVariants as closing
use Rattle.poll_core.specs.declared.outcome.Outcome.TheVariants as outcome
use Rattle.office_events.specs.declared.answers.Answer.TheVariants as answer
use Rattle.office_events.specs.declared.answers.Note.TheVariants as note
use Rattle.office_events.specs.declared.events.Event.TheVariants as event
use Rattle.office_program.specs.Course.{Connect, Leave, StartFrom, Take}
use Rattle.office_program.specs.DeviceRounds.Rounds.{answered, heard, joined, unconnected, wish_of}
use Rattle.office_program.specs.Polling.{from_on, next_of}
use Rattle.office_program.specs.declared.device_rounds.round.Round.{Round}

abbrev begun : Round
begun = joined (unconnected None)

abbrev connected : Round
connected = answered (Ok answer.Noted) begun

-- The polling round of an example with three Modbus reads, after reads 0 and 1 were started as
-- polls 7 and 8.
abbrev two_started : Round
two_started = answered (Ok (answer.Started 7 2 3)) connected

abbrev one_ended : Round
one_ended = heard (note.Outcome 7 outcome.Answered ∷ []) two_started

-- The polling round of an example with three Modbus reads, after the last read was started as poll
-- 12. Polls 9 to 11 belong to other devices.
abbrev all_started : Round
all_started = answered (Ok (answer.Started 12 1 3)) one_ended

abbrev all_ended : Round
all_ended = heard (note.Outcome 8 outcome.Silent ∷ note.Outcome 10 outcome.Silent ∷ note.Outcome 12 outcome.Answered ∷ []) all_started

numbers : from_on 7 2 ≡ 7 ∷ 8 ∷ []
numbers = refl

begun_next : next_of begun ≡ Connect
begun_next = refl

connected_next : next_of connected ≡ StartFrom 0
connected_next = refl

two_wait : two_started.polls.items ≡ 7 ∷ 8 ∷ []
two_wait = refl

started_next : next_of two_started ≡ Take
started_next = refl

others_next : next_of (heard (note.Outcome 9 outcome.Answered ∷ []) two_started) ≡ Take
others_next = refl

one_waits : one_ended.polls.items ≡ 8 ∷ []
one_waits = refl

left_next : next_of one_ended ≡ StartFrom 2
left_next = refl

waiting_again : all_started.polls.items ≡ 8 ∷ 12 ∷ []
waiting_again = refl

all_next : next_of all_started ≡ Take
all_next = refl

ended_next : next_of all_ended ≡ Leave
ended_next = refl

ended_wish : wish_of all_ended ≡ Some (event.Gone None closing.Gone)
ended_wish = refl

ended_sum : all_ended.sum ≡ record { answered = 2; silent = 1; failed = 0 }
ended_sum = refl
