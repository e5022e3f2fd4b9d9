-- Defines the effects of a polling session's private steps on its frame reader and its pending
-- polls.
use Rattle.std.specs.Prelude.{◌≡◌, ℕ, suc, ◌≤◌, ◌<◌, Bool, true, not, List, [], ◌∷◌, ◌++◌, length, take, get_or, Some, None, is_some, IsSome, unwrap_or}
use Rattle.std.specs.declared.option.Option.{Option}
use Rattle.std.specs.List.{filter}
use Rattle.mb_wire.specs.Frames.{Reads}
use Rattle.mb_wire.specs.Reader.{Buffered}
use Rattle.poll_core.specs.Settling.{Settlement, Silent, Lost, answer, alive, by_frame, unmatched}
use Rattle.poll_core.specs.Standing.{owed_by, if_going}
use Rattle.poll_core.specs.Polls.{Poll, has_id}
use Rattle.poll_core.specs.declared.outcome.LostCause.{LostCause}
use Rattle.poll_core.specs.declared.poll.SettledBy.{SettledBy}
use Rattle.poll_core.specs.declared.poll.SettledBy.TheVariants as by
use Rattle.poll_core.specs.declared.poll.SettledPoll.{SettledPoll}

-- True if no two polls have the same transaction identifier.
abbrev pub AreApart : List Poll → Type 0
AreApart polls = (id : ℕ) → length (filter (has_id id) polls) ≤ 1

-- True if the result is the index of the first poll that passes the test, or is `None` because no
-- poll passes.
abbrev pub FindsFirst : (Poll → Bool) → List Poll → Option ℕ → Type 0
FindsFirst test polls None = filter test polls ≡ []
FindsFirst test polls (Some i) =
    (i < length polls) × (filter test (take i polls) ≡ [])
    × ((d : Poll) → test (get_or polls i d) ≡ true)

-- True if the first poll of a list that passes the test was removed from the list. If no poll
-- passes, the list is unchanged.
abbrev pub TakesOut : (Poll → Bool) → List Poll → Option Poll → List Poll → Type 0
TakesOut test old None new = (new ≡ old) × (filter test old ≡ [])
TakesOut test old (Some poll) new =
    (filter test old ≡ poll ∷ filter test new)
    × (filter (λ p. not (test p)) new ≡ filter (λ p. not (test p)) old)
    × (length old ≡ suc (length new))

-- The outcome of a completed poll, by the kind of event that completed it. The polling session
-- removes a completed poll from its list of pending polls. The argument `frame` is the frame in the
-- session's reader, or `None` if the reader has no frame.
abbrev pub outcome_by : Poll → SettledBy → Option (List ℕ) → Settlement
outcome_by poll by.Silence frame = Silent
outcome_by poll by.Frame frame = answer poll (unwrap_or frame [])
outcome_by poll (by.End cause) frame = Lost cause

-- True if the polling session's reader has a frame, or the removed poll was not completed by a
-- frame. Only the outcome of a poll that a frame completed is decoded from that frame.
abbrev pub HasFrame : SettledBy → Option (List ℕ) → Type 0
HasFrame by.Silence frame = Unit {0}
HasFrame by.Frame frame = IsSome frame
HasFrame (by.End cause) frame = Unit {0}

-- True if the outcome of the poll that was removed from the pending polls can be computed, or if no
-- poll was removed. If a frame completed the poll, the polling session's reader must still have
-- this frame.
abbrev pub CanTell : Option SettledPoll → Option (List ℕ) → Type 0
CanTell None frame = Unit {0}
CanTell (Some taken) frame = HasFrame taken.by frame

-- The poll number and the outcome of a completed poll, which the polling session removed from its
-- list of pending polls. The argument `frame` is the frame in the session's reader, or `None`.
abbrev pub reported_by : SettledPoll → Option (List ℕ) → ℕ × Settlement
reported_by taken frame = (taken.poll.number, outcome_by taken.poll taken.by frame)

-- True if the polling session reported the next timeout or loss that is due, and removed the poll.
-- If no timeout or loss was due, nothing changed.
abbrev pub ReportsOwed : ℕ → Option LostCause → List Poll → Option SettledPoll → List Poll → Type 0
ReportsOwed moment ending old None new =
    (new ≡ old) × (owed_by moment ending old ≡ []) × (alive moment old ≡ old)
    × (is_some ending ≡ true → old ≡ [])
ReportsOwed moment ending old (Some taken) new =
    ((frame : Option (List ℕ))
    → owed_by moment ending old ≡ reported_by taken frame ∷ owed_by moment ending new)
    × (if_going ending (alive moment new) ≡ if_going ending (alive moment old))
    × (length old ≡ suc (length new))

-- True if the chunk (the second list) completes the given frames after every stream that ends with
-- the incomplete frame in the first list. The last list is the incomplete frame after the chunk.
abbrev pub FeedsOn : List ℕ → List ℕ → List (List ℕ) → List ℕ → Type 0
FeedsOn old piece ended new = (bytes : List ℕ) (before : List (List ℕ)) → Reads bytes before old
    → Reads (bytes ++ piece) (before ++ ended) new

-- The poll number and the outcome of the poll that the frame in the session's frame reader
-- completed, or an empty list if it completed none.
abbrev pub reported_list : Option Poll → Option (List ℕ) → List (ℕ × Settlement)
reported_list None frame = []
reported_list (Some poll) frame = (poll.number, outcome_by poll by.Frame frame) ∷ []

-- True if only the last of the frames that the chunk completes can have a pending poll's
-- identifier. If it has one, this poll was removed from the pending polls, and the session's reader
-- has the frame.
pub record Finds (old piece : List ℕ) (polls : List Poll) (found : Option Poll)
    (buffered : Buffered) (others : List Poll) : Type 0 where
  pub ended : List (List ℕ)
  pub feeds : FeedsOn old piece ended buffered.rest
  pub reported : by_frame ended polls ≡ reported_list found buffered.frame
  pub others_are : unmatched ended polls ≡ others

-- True if the frame completes the given poll, and this poll was removed from the list. Without a
-- given poll, the frame completes no poll, and the list is unchanged.
abbrev pub FindsBy : List ℕ → List Poll → Option Poll → List Poll → Type 0
FindsBy frame old found new =
    (by_frame (frame ∷ []) old ≡ reported_list found (Some frame)) × (unmatched (frame ∷ []) old ≡ new)

-- True if a list of polls is one poll shorter when a poll was removed, and is unchanged otherwise.
abbrev pub OneLess : List Poll → Option Poll → List Poll → Type 0
OneLess old None new = new ≡ old
OneLess old (Some poll) new = length old ≡ suc (length new)
