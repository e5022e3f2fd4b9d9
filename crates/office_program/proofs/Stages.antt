-- Proofs that each single action of a running polling round, such as a read of the link (the
-- connection to the device), satisfies its contract `Steps`.
use Rattle.std.proofs.Common.{◌≡◌, inl, inr, ℕ, ◌<◌, ◌+◌, Bool, List, [], ◌∷◌, ◌++◌, Option, Some, None, Result, Ok, Err, refl, sym, ap, ◌∙◌, subst, arith, append-nil}
use Rattle.std.proofs.KnownBytes.{Appends-kept, Appends-trans, Consumes-kept, Consumes-trans}
use Rattle.std.specs.Io.KnownBytes.{Appends, Consumes, Keeps}
use Rattle.sun_points.specs.Writing.{GotPart}
use Rattle.office_events.specs.declared.answers.Answer.{Answer}
use Rattle.office_events.specs.declared.events.Event.{Event}
use Rattle.office_events.specs.declared.events.Event.TheVariants as event
use Rattle.office_events.specs.declared.refusals.Refusal.{Refusal}
use Rattle.office_books.specs.History.{History}
use Rattle.office_books.specs.Notes.{outgoing_after}
use Rattle.office_books.specs.Ledgers.{Ledger}
use Rattle.office_core.specs.EventRun.{Answered}
use Rattle.office_core.specs.Standing.{books_in, outgoing_in}
use Rattle.office_core.specs.declared.office.Office.{Office}
use Rattle.office_program.specs.Course.{Connect, Does, IsTaken, Leave, Next, Over, StartFrom, Take, next_in, start_from}
use Rattle.office_program.specs.DeviceRounds.Rounds.{wish_at, wish_of}
use Rattle.office_program.specs.Faults.{AreGiven, IsPrinted, OnlyLink}
use Rattle.office_program.specs.Polling.{Holds, StandsAt, is_over, next_at, settled}
use Rattle.office_program.specs.Rounds.{BreaksOff, RoundState, Wire}
use Rattle.office_program.specs.Stepping.{Broken, Going, IsUnsent, IsWired, Scene, Steps, StepsFrom}
use Rattle.mb_wire.specs.declared.link.LastTake.{LastTake}
use Rattle.office_program.specs.Passing.{AreAtMost, AreTakes}
use Rattle.office_program.specs.Taking.{Brings, TurnTakes, over_or_take}
use Rattle.office_program.specs.FedEvents.{frames_after, history_with, piece_in, pieces_after, text_after}
use Rattle.office_program.specs.declared.device_rounds.round.Round.{Round}
use Rattle.office_program.specs.declared.device_rounds.stage.Stage.{Stage}
use Rattle.office_program.specs.declared.device_rounds.stage.Stage.TheVariants.{Off, Joining, Starting, Waiting, Leaving}
use Rattle.office_program.specs.declared.fault.RoundFault.{RoundFault}
use Rattle.office_program.specs.declared.fault.RoundFault.TheVariants.{Refused, Link, Output, TurnsUsed}
use Rattle.office_program.specs.declared.progress.Progress.{Progress}
use Rattle.office_program.proofs.Goings.{part_more}
use Rattle.office_program.proofs.Nexts.{connection_next, end_next, start_next}
use Rattle.office_program.proofs.Wires.{appends_nothing, consumes_nothing, part_of_all}

-- If a fault occurs in a running polling round, then the round ends early. It is then in the state
-- that `Broken` defines for a round that a fault ended.
pub broken : {B : Type 0} (ledger : B → Ledger) (device : Option (List ℕ)) (past : History) (begun now : RoundState) (office : Office B)
    (fed : List Answered) (round : Progress) (cause : RoundFault) → Going ledger device past begun now office fed round
    → BreaksOff device past cause fed → IsPrinted {X = Unit {0}} (Err cause) (text_after past fed) begun.printed now.printed
    → Broken ledger device past begun now office fed round cause
broken ledger device past begun now office fed round cause going course printed = record {
  leaves = going.leaves;
  course = course;
  timed = going.timed;
  printed = printed;
  device_is = going.holds.device_is;
  latest = going.latest;
}

given_broken : (cause : RoundFault) (h : History) (at : ℕ) (e : Event) (result : Result Answer Refusal) (a b : Option (List ℕ))
    (frames : List ℕ) → IsUnsent cause result → Appends a b frames
    → AreGiven {X = Unit {0}} (Err cause) (frames ++ outgoing_after h at e result) a b
given_broken (Refused why) h at e result a b frames unsent got = rw unsent (appends_nothing a b frames [] got refl)
given_broken Link h at e result a b frames unsent got = absurd unsent
given_broken Output h at e result a b frames unsent got = (frames, outgoing_after h at e result, refl, got)
given_broken TurnsUsed h at e result a b frames unsent got = absurd unsent

-- If a polling round ended early at an event and sent no frames for it, then `IsWired` holds: the
-- bytes read from the device's connection are those of the events. The bytes written are those of
-- the earlier events' frames.
pub wired_broken : (past : History) (from to : Wire) (fed : List Answered) (one : Answered) (e : Event) (cause : RoundFault)
    → Consumes from.remaining to.remaining (pieces_after fed ++ piece_in e) → Appends from.given to.given (frames_after past fed)
    → one.event ≡ e → IsUnsent cause one.result → IsWired {X = Unit {0}} past from to (one ∷ fed) (Err cause)
wired_broken past from to fed one e cause taken given is unsent = record {
  taken =
      let P : Event → Type 0 = λ x. Consumes from.remaining to.remaining (pieces_after fed ++ piece_in x) in
      subst P (sym is) taken;
  given = given_broken cause (history_with past fed) one.at one.event one.result from.given to.given (frames_after past fed) unsent given;
}

-- If a polling round wrote all frames of an event, then the bytes read and written on the link (the
-- connection to the device) satisfy the contract `IsWired`.
pub wired_sent : (past : History) (from mid to : Wire) (fed : List Answered) (one : Answered) (e : Event) (frames : List ℕ)
    → Consumes from.remaining mid.remaining (pieces_after fed ++ piece_in e) → Appends from.given mid.given (frames_after past fed) → one.event ≡ e
    → frames ≡ outgoing_after (history_with past fed) one.at one.event one.result → Keeps mid.remaining to.remaining
    → Appends mid.given to.given frames → IsWired {X = Unit {0}} past from to (one ∷ fed) (Ok tt)
wired_sent past from mid to fed one e frames taken had is reported kept given = record {
  taken =
      let P : Event → Type 0 = λ x. Consumes from.remaining to.remaining (pieces_after fed ++ piece_in x) in
      subst P (sym is) (Consumes-kept from.remaining mid.remaining to.remaining (pieces_after fed ++ piece_in e) taken kept);
  given = Appends-trans from.given mid.given to.given (frames_after past fed) _ had (subst (Appends mid.given to.given) reported given);
}

pub wired_unsent : (past : History) (from mid to : Wire) (fed : List Answered) (one : Answered) (e : Event) (frames : List ℕ)
    → Consumes from.remaining mid.remaining (pieces_after fed ++ piece_in e) → Appends from.given mid.given (frames_after past fed) → one.event ≡ e
    → frames ≡ outgoing_after (history_with past fed) one.at one.event one.result → Keeps mid.remaining to.remaining
    → GotPart frames mid.given to.given → IsWired {X = Unit {0}} past from to (one ∷ fed) (Err Link)
wired_unsent past from mid to fed one e frames taken had is reported kept given = record {
  taken =
      let P : Event → Type 0 = λ x. Consumes from.remaining to.remaining (pieces_after fed ++ piece_in x) in
      subst P (sym is) (Consumes-kept from.remaining mid.remaining to.remaining (pieces_after fed ++ piece_in e) taken kept);
  given =
      let P : List ℕ → Type 0 = λ x. GotPart x mid.given to.given in
      part_more from.given mid.given to.given (frames_after past fed) _ had (subst P reported given);
}

pub does_take : (device same : Option (List ℕ)) (next : Next) (e : Event) → next ≡ Take → same ≡ device → IsTaken same e → Does device next e
does_take device same next e is equal taken =
    let P : Option (List ℕ) → Type 0 = λ d. IsTaken d e in
    rw is (subst P equal taken)

-- The properties of an event that a polling round generates: it is the round's next event, and has
-- no bytes received from the link (the connection to the device).
pub record Wanted (device : Option (List ℕ)) (past : History) (fed : List Answered) (e : Event) : Type 0 where
  pub does : Does device (next_in past fed) e
  pub piece : piece_in e ≡ []
  pub after : (one : Answered) → one.event ≡ e → next_in past (one ∷ fed) ≡ settled (next_in past fed)

wanted_event : (device : Option (List ℕ)) (past : History) (fed : List Answered) (now : Next) (wish e : Event) → wish ≡ e → next_in past fed ≡ now
    → Does device now wish → piece_in wish ≡ [] → ((one : Answered) → one.event ≡ wish → next_in past (one ∷ fed) ≡ settled now)
    → Wanted device past fed e
wanted_event device past fed now wish e same is does piece after = record {
  does = rw is (subst (Does device now) same does);
  piece = sym (ap piece_in same) ∙ piece;
  after = λ one its. after one (its ∙ sym same) ∙ ap settled (sym is);
}

wanted_at : (device : Option (List ℕ)) (past : History) (fed : List Answered) (round : Round) (stage : Stage) (started : ℕ) (e : Event)
    → StandsAt stage device past fed round → next_in past fed ≡ next_at stage started → wish_at stage device started ≡ Some e
    → Wanted device past fed e
wanted_at device past fed round Off started e stands is wish = absurd (cc)
wanted_at device past fed round Joining started e stands is wish =
    wanted_event device past fed Connect (event.Connected device) e (cc) is refl refl (λ one its. connection_next past fed one device its)
wanted_at device past fed round Starting started e stands is wish =
    wanted_event device past fed (StartFrom started) (start_from device started) e (cc) is refl refl (λ one its. start_next past fed one device started its)
wanted_at device past fed round Waiting started e stands is wish = absurd (cc)
wanted_at device past fed round (Leaving cause) started e stands is wish =
    wanted_event device past fed Leave (event.Gone device cause) e (cc) is (ap (λ c. event.Gone device c) stands) refl
    (λ one its. end_next past fed one device cause its)

pub wanted : (device : Option (List ℕ)) (past : History) (fed : List Answered) (round : Round) (e : Event) → Holds device past fed round
    → wish_of round ≡ Some e → Wanted device past fed e
wanted device past fed round e holds wish =
    wanted_at device past fed round round.stage round.started e holds.stands holds.next
    (sym (ap (λ d. wish_at round.stage d round.started) holds.device_is) ∙ wish)

rests_at : (device : Option (List ℕ)) (stage : Stage) (started : ℕ) → wish_at stage device started ≡ None
    → settled (next_at stage started) ≡ next_at stage started
rests_at device Off started wish = refl
rests_at device Joining started wish = absurd (cc)
rests_at device Starting started wish = absurd (cc)
rests_at device Waiting started wish = refl
rests_at device (Leaving cause) started wish = absurd (cc)

-- If a polling round generates no event, then its next action is a read of the link (the connection
-- to the device), or the round is over.
pub rests : (device : Option (List ℕ)) (past : History) (fed : List Answered) (round : Round) (now : Next) → Holds device past fed round
    → wish_of round ≡ None → next_in past fed ≡ now → next_in past fed ≡ settled now
rests device past fed round now holds wish is =
    holds.next ∙ sym (rests_at round.device round.stage round.started wish) ∙ ap settled (sym holds.next ∙ is)

-- If a polling round generates no event after an event from the link (the connection to the
-- device), the round is over or it next reads the link.
over_by : (now : Next) (stage : Stage) (started : ℕ) → (now ≡ Connect → ⊥) → settled now ≡ next_at stage started
    → next_at stage started ≡ over_or_take (is_over stage)
over_by now Off started anew is = refl
over_by Connect Joining started anew is = absurd (anew refl)
over_by (StartFrom read) Joining started anew is = absurd (cc)
over_by Leave Joining started anew is = absurd (cc)
over_by Take Joining started anew is = absurd (cc)
over_by Over Joining started anew is = absurd (cc)
over_by Connect Starting started anew is = absurd (anew refl)
over_by (StartFrom read) Starting started anew is = absurd (cc)
over_by Leave Starting started anew is = absurd (cc)
over_by Take Starting started anew is = absurd (cc)
over_by Over Starting started anew is = absurd (cc)
over_by now Waiting started anew is = refl
over_by Connect (Leaving cause) started anew is = absurd (anew refl)
over_by (StartFrom read) (Leaving cause) started anew is = absurd (cc)
over_by Leave (Leaving cause) started anew is = absurd (cc)
over_by Take (Leaving cause) started anew is = absurd (cc)
over_by Over (Leaving cause) started anew is = absurd (cc)

pub over_as : (device : Option (List ℕ)) (past : History) (fed : List Answered) (round : Round) (now : Next) (over : Bool) → Holds device past fed round
    → next_in past fed ≡ settled now → (now ≡ Connect → ⊥) → over ≡ is_over round.stage → next_in past fed ≡ over_or_take over
over_as device past fed round now over holds is anew reported =
    holds.next ∙ over_by now round.stage round.started anew (sym is ∙ holds.next) ∙ ap over_or_take (sym reported)

pub nothing_left : (fed : List Answered) (e : Event) (from to : Wire) → piece_in e ≡ [] → Consumes from.remaining to.remaining (pieces_after fed)
    → Consumes from.remaining to.remaining (pieces_after fed ++ piece_in e)
nothing_left fed e from to none taken = consumes_nothing from.remaining to.remaining (pieces_after fed) (piece_in e) taken none

-- If a read of the link (the connection to the device) returned an event's bytes, the bytes read
-- are those of the round's earlier events and of this event.
pub taken_wire : (past : History) (from old new : Wire) (fed : List Answered) (e : Event) → IsWired {X = Unit {0}} past from old fed (Ok tt)
    → Consumes old.remaining new.remaining (piece_in e) → Keeps old.given new.given
    → Consumes from.remaining new.remaining (pieces_after fed ++ piece_in e) × Appends from.given new.given (frames_after past fed)
taken_wire past from old new fed e wired taken kept = (
  Consumes-trans from.remaining old.remaining new.remaining (pieces_after fed) (piece_in e) wired.taken taken,
  Appends-kept from.given old.given new.given (frames_after past fed) wired.given kept,
)

-- If a read of the link (the connection to the device) returned no bytes, then the bytes read from
-- the link are unchanged.
pub kept_wire : (past : History) (from old new : Wire) (fed : List Answered) → IsWired {X = Unit {0}} past from old fed (Ok tt)
    → Consumes old.remaining new.remaining [] → Keeps old.given new.given
    → Consumes from.remaining new.remaining (pieces_after fed) × Appends from.given new.given (frames_after past fed)
kept_wire past from old new fed wired taken kept = (
  subst (Consumes from.remaining new.remaining) (append-nil (pieces_after fed))
      (Consumes-trans from.remaining old.remaining new.remaining (pieces_after fed) [] wired.taken taken),
  Appends-kept from.given old.given new.given (frames_after past fed) wired.given kept,
)

pub of_device : (device same : Option (List ℕ)) (e : Event) → same ≡ device → IsTaken same e → IsTaken device e
of_device device same e equal taken = let P : Option (List ℕ) → Type 0 = λ d. IsTaken d e in subst P equal taken

-- If one action of a polling round is followed by a second action, then both together satisfy the
-- contract `StepsFrom` with the second action's result.
pub compose : {B X Y : Type 0} (ledger : B → Ledger) (old mid new : Scene B) (now : Next) (x : X) (after : X → Next) (next : Next)
    (result : Result Y RoundFault) (final : Y → Next) → StepsFrom ledger old mid now (Ok x) after → after x ≡ next
    → StepsFrom ledger mid new next result final
    → ((ledger (books_in new.office)).is_clean → (ledger (books_in mid.office)).is_clean) → StepsFrom ledger old new now result final
compose ledger old mid new now x after next result final first meets second lasts = λ device past begun from fed going wired is clean.
    let between = first device past begun from fed going wired is (lasts clean) in
    second device past begun from between.0 between.1.0 between.1.1 (between.1.2 ∙ meets) clean

-- If the 100,000 reads of the link (the connection to the device) are used up, then a running
-- polling round ends with the fault `TurnsUsed`.
pub used_up : {B X Y : Type 0} (ledger : B → Ledger) (old new : Scene B) (now : Next) (x : X)
    (after : X → Next) (final : Y → Next) → StepsFrom ledger old new now (Ok x) after
    → StepsFrom {X = Y} ledger old new now (Err TurnsUsed) final
used_up ledger old new now x after final first = λ device past begun from fed going wired is clean.
    let so = first device past begun from fed going wired is clean in (
      so.0,
      (
        broken ledger device past begun new.round_state new.office so.0 new.progress TurnsUsed so.1.0 so.1.0.next so.1.0.printed,
        record { taken = so.1.1.taken; given = so.1.1.given },
      ),
    )

-- If a polling round wrote the frames of an event to the link (the connection to the device),
-- completely or in part, then this action satisfies its contract `Steps`.
pub sent : {B : Type 0} (ledger : B → Ledger) (device : Option (List ℕ)) (past : History) (begun : RoundState) (from mid to : Wire) (now : RoundState)
    (office : Office B) (fed : List Answered) (one : Answered) (progress : Progress) (e : Event)
    (result : Result (Unit {0}) RoundFault) (frames : List ℕ) → Consumes from.remaining mid.remaining (pieces_after fed ++ piece_in e)
    → Appends from.given mid.given (frames_after past fed) → one.event ≡ e → Going ledger device past begun now office (one ∷ fed) progress
    → outgoing_in office ≡ outgoing_after (history_with past fed) one.at one.event one.result → frames ≡ outgoing_in office
    → Keeps mid.remaining to.remaining → AreGiven result frames mid.given to.given → OnlyLink result
    → Steps ledger device past begun now from to office (one ∷ fed) progress result (λ done. next_in past (one ∷ fed))
sent ledger device past begun from mid to now office fed one progress e (Ok x) frames taken had is going reported are kept given only =
    (going, wired_sent past from mid to fed one e frames taken had is (are ∙ reported) kept given, refl)
sent ledger device past begun from mid to now office fed one progress e (Err (Refused why)) frames taken had is going reported are kept given only = absurd only
sent ledger device past begun from mid to now office fed one progress e (Err Link) frames taken had is going reported are kept given only = (
  broken ledger device past begun now office (one ∷ fed) progress Link going going.next going.printed,
  wired_unsent past from mid to fed one e frames taken had is (are ∙ reported) kept given,
)
sent ledger device past begun from mid to now office fed one progress e (Err Output) frames taken had is going reported are kept given only = absurd only
sent ledger device past begun from mid to now office fed one progress e (Err TurnsUsed) frames taken had is going reported are kept given only = absurd only

-- If an action of a polling round satisfies its contract `Steps` with a next action, then it also
-- satisfies the contract with an equal next action.
pub next_as : {B X : Type 0} (ledger : B → Ledger) (device : Option (List ℕ)) (past : History) (begun now : RoundState) (from to : Wire) (office : Office B)
    (fed : List Answered) (progress : Progress) (result : Result X RoundFault) (first second : X → Next) → ((x : X) → first x ≡ second x)
    → Steps ledger device past begun now from to office fed progress result first → Steps ledger device past begun now from to office fed progress result second
next_as ledger device past begun now from to office fed progress (Ok x) first second same steps = (steps.0, steps.1, steps.2 ∙ same x)
next_as ledger device past begun now from to office fed progress (Err cause) first second same steps = steps

-- If a read of the link (the connection to the device) returned no event, then the polling round
-- ends early.
pub not_taken : {B : Type 0} (ledger : B → Ledger) (device : Option (List ℕ)) (past : History) (begun now : RoundState) (from to : Wire)
    (office : Office B) (fed : List Answered) (round : Progress) (same : Option (List ℕ)) (cause : RoundFault) (before after : ℕ)
    (last : Option LastTake) → Brings same (Err cause) before after last → Going ledger device past begun now office fed round
    → Consumes from.remaining to.remaining (pieces_after fed) → Appends from.given to.given (frames_after past fed)
    → Broken ledger device past begun now office fed round cause × IsWired {X = Unit {0}} past from to fed (Err cause)
not_taken ledger device past begun now from to office fed round same (Refused why) before after last brings going taken given = (
  broken ledger device past begun now office fed round (Refused why) going (inr (going.next, brings.1)) going.printed,
  record { taken = taken; given = given },
)
not_taken ledger device past begun now from to office fed round same Link before after last brings going taken given = (
  broken ledger device past begun now office fed round Link going going.next going.printed,
  record { taken = taken; given = part_of_all from.given to.given (frames_after past fed) given },
)
not_taken ledger device past begun now from to office fed round same Output before after last brings going taken given = absurd brings
not_taken ledger device past begun now from to office fed round same TurnsUsed before after last brings going taken given = absurd brings

-- A flag in the result of a polling round's action says whether the round is over. The flag
-- determines the round's next action: none if the round is over, otherwise a read of the link
-- (connection).
pub as_turn : {B : Type 0} (ledger : B → Ledger) (old new : Scene B) (now : Next) (over b : Bool)
    → StepsFrom ledger old new now (Ok over) over_or_take → over ≡ b
    → StepsFrom {X = Unit {0}} ledger old new now (Ok tt) (λ done. over_or_take b)
as_turn ledger old new now over b first same = λ device past begun from fed going wired is clean.
    let so = first device past begun from fed going wired is clean in
    (so.0, (so.1.0, so.1.1, so.1.2 ∙ ap over_or_take same))

-- If a fault ends a polling round early, then the round read the link (the connection to the
-- device) at most 100,000 times.
pub at_most : (fault : RoundFault) (turn old mid new : ℕ) → turn < 100000 → AreTakes turn old mid → TurnTakes {X = Bool} (Err fault) mid new
    → AreAtMost 100000 old new
at_most (Refused why) turn old mid new few takes (inl one) = (turn + 1, omega arith, λ count is. omega (arith, takes count is, one))
at_most (Refused why) turn old mid new few takes (inr none) = (turn, omega arith, λ count is. omega (arith, takes count is, none))
at_most Link turn old mid new few takes one = (turn + 1, omega arith, λ count is. omega (arith, takes count is, one))
at_most Output turn old mid new few takes one = (turn + 1, omega arith, λ count is. omega (arith, takes count is, one))
at_most TurnsUsed turn old mid new few takes one = absurd one
