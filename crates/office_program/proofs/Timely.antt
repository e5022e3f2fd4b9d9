-- Proofs that a polling round's timestamp for its last event (`Gone`) is never refused, and lemmas
-- on the event engine's answers to the round's events.
use Rattle.std.proofs.Common.{◌≡◌, inl, inr, ℕ, nat_lt, Bool, true, false, ◌||◌, cond, List, [], ◌∷◌, Option, None, Some, Ok, refl, sym, subst, arith}
use Rattle.std.proofs.lemmas.Bool.{or_parts}
use Rattle.office_events.specs.declared.answers.Answer.{Answer}
use Rattle.office_events.specs.declared.answers.Answer.TheVariants as answer
use Rattle.office_events.specs.declared.commands.Command.{Command}
use Rattle.office_events.specs.declared.commands.Command.TheVariants as command
use Rattle.office_events.specs.declared.events.Event.{Event}
use Rattle.office_events.specs.declared.events.Event.TheVariants as event
use Rattle.office_events.specs.declared.refusals.Refusal.{Refusal}
use Rattle.office_events.specs.declared.refusals.Refusal.TheVariants as refusal
use Rattle.office_books.specs.Facts.{latest_in, moment_limit}
use Rattle.office_books.specs.History.{History, Opened, Fed, facts_of, latest_of}
use Rattle.office_books.specs.Refusals.{AreAccepted, refusal_of, unless_refused, with_answer}
use Rattle.office_books.specs.declared.failures.Failures.{Failures}
use Rattle.office_core.specs.Taking.{IsAnswer}
use Rattle.office_books.proofs.LawfulChanges.{not_refused}
use Rattle.office_program.specs.Course.{Connect, Does, IsTaken, Leave, Next, Over, StartFrom, Take}
use Rattle.office_program.specs.Rounds.{gone_at}

opened_within : (back beyond : Bool) (why late : Refusal) → cond back (Some why) (cond beyond (Some late) None) ≡ None → beyond ≡ false
opened_within true beyond why late h = absurd (cc)
opened_within false true why late h = absurd (cc)
opened_within false false why late h = refl

-- If all events of a history are accepted, then its latest timestamp is not past the largest
-- supported timestamp.
pub latest_within : (history : History) → AreAccepted history → nat_lt moment_limit (latest_of history) ≡ false
latest_within [] h = refl
latest_within (Opened at ∷ past) h =
    opened_within (nat_lt at (latest_in (facts_of past))) (nat_lt moment_limit at) refusal.ClockBack refusal.Limit h.0
latest_within (Fed at e ∷ past) h =
    let all = not_refused past at e h.0.right in
    let limit = or_parts (nat_lt moment_limit at) _ all.1.1.1.1.1.1.1.1.1.1.0 in
    limit.0

not_below_itself : (n : ℕ) → nat_lt n n ≡ false
not_below_itself n = grind arith

-- A polling round's timestamp for the event `Gone` (the device is disconnected) is not before the
-- latest accepted event. It is not past the largest supported timestamp.
gone_by : (back beyond : Bool) (latest moment : ℕ) → nat_lt moment latest ≡ back → nat_lt moment_limit moment ≡ beyond
    → nat_lt moment_limit latest ≡ false
    → (nat_lt (cond (back || beyond) latest moment) latest ≡ false) × (nat_lt moment_limit (cond (back || beyond) latest moment) ≡ false)
gone_by true beyond latest moment is within limit = (not_below_itself latest, limit)
gone_by false true latest moment is within limit = (not_below_itself latest, limit)
gone_by false false latest moment is within limit = (is, within)

pub gone_in_time : (latest moment : ℕ) → nat_lt moment_limit latest ≡ false
    → (nat_lt (gone_at latest moment) latest ≡ false) × (nat_lt moment_limit (gone_at latest moment) ≡ false)
gone_in_time latest moment limit = gone_by (nat_lt moment latest) (nat_lt moment_limit moment) latest moment refl refl limit

-- True if the command starts Modbus reads. A polling round feeds no other command to the event
-- engine.
abbrev IsStart : Command → Type 0
IsStart (command.AddDevice c) = ⊥
IsStart (command.PutList c) = ⊥
IsStart (command.AddRegister c) = ⊥
IsStart (command.Install c) = ⊥
IsStart (command.Exchange c) = ⊥
IsStart (command.Reset c) = ⊥
IsStart (command.Rescale c) = ⊥
IsStart (command.Manual c) = ⊥
IsStart (command.Close c) = ⊥
IsStart (command.Void c) = ⊥
IsStart (command.StartPoll c) = ⊥
IsStart (command.StartRound c) = Unit {0}

abbrev pub IsOfRound : Event → Type 0
IsOfRound (event.Connected given) = Unit {0}
IsOfRound (event.Bytes given piece) = Unit {0}
IsOfRound event.Tick = Unit {0}
IsOfRound (event.Gone given c) = Unit {0}
IsOfRound (event.Command c) = IsStart c
IsOfRound (event.Asked asked) = ⊥

taken_of_round : (device : Option (List ℕ)) (e : Event) → IsTaken device e → IsOfRound e
taken_of_round device (event.Connected given) h = absurd h
taken_of_round device (event.Bytes given piece) h = tt
taken_of_round device event.Tick h = tt
taken_of_round device (event.Gone given c) h = tt
taken_of_round device (event.Command c) h = absurd h
taken_of_round device (event.Asked asked) h = absurd h

pub of_round : (device : Option (List ℕ)) (next : Next) (e : Event) → Does device next e → IsOfRound e
of_round device Connect e h = subst IsOfRound (sym h) tt
of_round device (StartFrom read) e h = subst IsOfRound (sym h) tt
of_round device Leave e h = subst IsOfRound (sym h) tt
of_round device Take e h = taken_of_round device e h
of_round device Over e h = absurd h

given_is : (refused : Option Refusal) (reported given : Answer) → Ok given ≡ unless_refused reported refused → given ≡ reported
given_is None reported given h = cc
given_is (Some why) reported given h = absurd (cc)

noted : (history : History) (at : ℕ) (e : Event) (given : Answer) → given ≡ answer.Noted → with_answer history at e (Ok given) ≡ Fed at e ∷ history
noted history at e given is = rw is refl

started : (history : History) (at : ℕ) (e : Event) (given : Answer) (first count of : ℕ) → given ≡ answer.Started first count of
    → with_answer history at e (Ok given) ≡ Fed at e ∷ history
started history at e given first count of is = rw is refl

started_one : (history : History) (at : ℕ) (c : Command) (before after : Failures) (given : Answer) → IsStart c
    → IsAnswer history at (event.Command c) before after (Ok given)
    → with_answer history at (event.Command c) (Ok given) ≡ Fed at (event.Command c) ∷ history
started_one history at (command.AddDevice c) before after given start reported = absurd start
started_one history at (command.PutList c) before after given start reported = absurd start
started_one history at (command.AddRegister c) before after given start reported = absurd start
started_one history at (command.Install c) before after given start reported = absurd start
started_one history at (command.Exchange c) before after given start reported = absurd start
started_one history at (command.Reset c) before after given start reported = absurd start
started_one history at (command.Rescale c) before after given start reported = absurd start
started_one history at (command.Manual c) before after given start reported = absurd start
started_one history at (command.Close c) before after given start reported = absurd start
started_one history at (command.Void c) before after given start reported = absurd start
started_one history at (command.StartPoll c) before after given start reported = absurd start
started_one history at (command.StartRound c) before after given start (inl reported) =
    started history at _ given _ _ _ (given_is (refusal_of history at (event.Command (command.StartRound c))) _ given reported.0)
started_one history at (command.StartRound c) before after given start (inr fails) = absurd fails

-- If an event of a polling round is accepted, then the history of accepted events is longer by this
-- event.
pub one_accepted : (history : History) (at : ℕ) (e : Event) (before after : Failures) (given : Answer) → IsOfRound e
    → IsAnswer history at e before after (Ok given) → with_answer history at e (Ok given) ≡ Fed at e ∷ history
one_accepted history at (event.Connected d) before after given kind (inl reported) = noted history at _ given (given_is (refusal_of history at (event.Connected d)) _ given reported.0)
one_accepted history at (event.Connected d) before after given kind (inr fails) = absurd fails
one_accepted history at (event.Bytes d piece) before after given kind (inl reported) = noted history at _ given (given_is (refusal_of history at (event.Bytes d piece)) _ given reported.0)
one_accepted history at (event.Bytes d piece) before after given kind (inr fails) = absurd fails
one_accepted history at event.Tick before after given kind (inl reported) = noted history at _ given (given_is (refusal_of history at event.Tick) _ given reported.0)
one_accepted history at event.Tick before after given kind (inr fails) = absurd fails
one_accepted history at (event.Gone d c) before after given kind (inl reported) = noted history at _ given (given_is (refusal_of history at (event.Gone d c)) _ given reported.0)
one_accepted history at (event.Gone d c) before after given kind (inr fails) = absurd fails
one_accepted history at (event.Command c) before after given kind reported = started_one history at c before after given kind reported
one_accepted history at (event.Asked asked) before after given kind reported = absurd kind

-- If the event `Connected` is accepted, then its answer is `Noted` (the event was accepted).
pub connected_noted : (history : History) (at : ℕ) (d : Option (List ℕ)) (before after : Failures) (given : Answer)
    → IsAnswer history at (event.Connected d) before after (Ok given) → given ≡ answer.Noted
connected_noted history at d before after given (inl reported) = given_is (refusal_of history at (event.Connected d)) _ given reported.0
connected_noted history at d before after given (inr fails) = absurd fails
