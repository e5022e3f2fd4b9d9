-- A worked example of the records that remain after a crash. A poll is started, and the store fails
-- when the poll times out.
use Rattle.std.proofs.Common.{◌≡◌, ◌⊎◌, ℕ, List, [], ◌∷◌, Some, inl, inr, refl, subst, ap, ◌∙◌, Ok, Err, lit≤, length}
use Rattle.mb_wire.specs.declared.span.ReadFunction.TheVariants.{HoldingRegisters}
use Rattle.mb_wire.specs.declared.span.ReadSpan.{ReadSpan}
use Rattle.mb_wire.specs.Frames.{frames, frames_in, rest, rest_in, is_garbled}
use Rattle.poll_core.specs.Settling.{stream, next_id, frames_at, ending_at, settled_by, pending, outcomes_at}
use Rattle.poll_core.specs.Standing.{is_over, is_closed}
use Rattle.poll_core.specs.declared.outcome.Outcome.TheVariants as outcome
use Rattle.office_events.specs.declared.answers.Answer.TheVariants as answer
use Rattle.office_events.specs.declared.commands.Command.TheVariants as command
use Rattle.office_events.specs.declared.events.Event.{Event}
use Rattle.office_events.specs.declared.events.Event.TheVariants as event
use Rattle.office_events.specs.declared.facts.Fact.{Fact}
use Rattle.office_events.specs.declared.facts.Fact.TheVariants as fact
use Rattle.office_events.specs.declared.refusals.Refusal.TheVariants as refusal
use Rattle.office_events.specs.declared.refusals.StoreCause.TheVariants as store
use Rattle.office_books.specs.History.{History, Opened, Fed, facts_of}
use Rattle.office_core.specs.Leaving.{LeftOnceDone, LeftOnceFailed}
use Rattle.office_core.specs.EventRun.{Answered, LeftInTurn}

abbrev inv : List ℕ
inv = 105 ∷ 110 ∷ 118 ∷ []

abbrev span : ReadSpan
span = record { function = HoldingRegisters; address = 40094; count = 2; some = lit≤ tt; few = lit≤ tt; inside = lit≤ tt }

abbrev start : Event
start = event.Command (command.StartPoll (record { device = Some inv; span = span }))

-- The history before the example's poll, whose timeout the store fails to record: the device is
-- added and connected.
abbrev connected : History
connected = Fed 1000 (event.Connected (Some inv))
    ∷ Fed 1000 (event.Command (command.AddDevice (record { name = Some inv; unit = 1; timeout = 5; window = 1 })))
    ∷ Opened 0 ∷ []

-- In the example of a poll whose timeout the store fails to record: the records after the start of
-- the poll, and the record of the poll's timeout.
abbrev waiting : List Fact
waiting = fact.Poll (record { number = 1; device = inv; unit = 1; at = 1898; id = 0; span = span })
    ∷ fact.Device (record { name = inv; unit = 1; timeout = 5; window = 1 }) ∷ []

abbrev ended : List Fact
ended = fact.Outcome (record { poll = 1; at = 1904; outcome = outcome.Silent }) ∷ waiting

is_waiting : facts_of (Fed 1898 start ∷ connected) ≡ waiting
unfolding frames frames_in rest rest_in is_garbled is_over is_closed stream next_id frames_at ending_at settled_by pending outcomes_at
is_waiting = refl

is_ended : facts_of (Fed 1904 event.Tick ∷ Fed 1898 start ∷ connected) ≡ ended
unfolding frames frames_in rest rest_in is_garbled is_over is_closed stream next_id frames_at ending_at settled_by pending outcomes_at
is_ended = refl

-- The events of an example: the start of a poll succeeds, and the timer event that should end the
-- poll fails with refusal 13 (store failed).
abbrev fed : List Answered
fed = record { at = 1898; event = start; result = Ok (answer.Started 1 1 1) }
    ∷ record { at = 1904; event = event.Tick; result = Err (refusal.Store store.Refused) } ∷ []

abbrev Lists : Type 0
Lists = List (List Fact)

-- In the example of a poll whose timeout the store fails to record, the start of the poll adds a
-- record to the store.
no_less : facts_of (Fed 1898 start ∷ connected) ≡ facts_of connected → ⊥
unfolding frames frames_in rest rest_in is_garbled is_over is_closed stream next_id frames_at ending_at settled_by pending outcomes_at
no_less same = let e = ap length same in cc e

only_waiting : (before after : Lists) → LeftOnceDone connected (Fed 1898 start) before after → after ≡ waiting ∷ []
only_waiting before after (inl is) = is ∙ ap (λ (facts : List Fact). facts ∷ []) is_waiting
only_waiting before after (inr same) = absurd (no_less same.0)

or_ended : (after : Lists) → LeftOnceFailed (Fed 1898 start ∷ connected) (Fed 1904 event.Tick) (waiting ∷ []) after
    → (after ≡ waiting ∷ []) ⊎ (after ≡ waiting ∷ ended ∷ [])
or_ended after (inl same) = inl same
or_ended after (inr more) = inr (more.1 ∙ ap (λ (facts : List Fact). waiting ∷ facts ∷ []) is_ended)

then_ended : (between after : Lists) → between ≡ waiting ∷ [] → LeftOnceFailed (Fed 1898 start ∷ connected) (Fed 1904 event.Tick) between after
    → (after ≡ waiting ∷ []) ⊎ (after ≡ waiting ∷ ended ∷ [])
then_ended between after is left =
    or_ended after (subst (λ (ls : Lists). LeftOnceFailed (Fed 1898 start ∷ connected) (Fed 1904 event.Tick) ls after) is left)

-- In the example of a poll whose timeout the store fails to record, the poll is pending (without an
-- outcome) or its timeout is recorded after a crash. The store can have no other list of records.
waits_or_ended : (before after : Lists) → LeftInTurn connected fed before after
    → (after ≡ waiting ∷ []) ⊎ (after ≡ waiting ∷ ended ∷ [])
waits_or_ended before after left =
    let started : left.0 ≡ waiting ∷ [] = only_waiting before left.0 left.1 in
    let last : after ≡ left.2.0 = left.2.2 in
    elim (then_ended left.0 left.2.0 started left.2.1) [
      | inl waits ↦ inl (last ∙ waits)
      | inr gone ↦ inr (last ∙ gone)
    ]
