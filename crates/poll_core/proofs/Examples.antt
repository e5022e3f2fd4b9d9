-- Checks the definitions by examples: a few short polling sessions.
use Rattle.std.proofs.Common.{◌≡◌, ℕ, zero, suc, ◌+◌, ◌*◌, List, [], ◌∷◌, ◌++◌, Some, None, refl}
use Rattle.mb_wire.specs.Frames.{frames, frames_in, rest, rest_in, is_garbled}
use Rattle.mb_wire.specs.Spans.{Span}
use Rattle.mb_wire.specs.declared.span.ReadFunction.TheVariants.{HoldingRegisters}
use Rattle.poll_core.specs.Settling.{Event, Start, Piece, Tick, Close, Answered, Exception, Silent, Malformed, Lost, stream, next_id, frames_at, ending_at, settled_by, pending, outcomes_at}
use Rattle.poll_core.specs.Standing.{is_over, is_closed}
use Rattle.poll_core.specs.Starting.{start_fault}
use Rattle.poll_core.specs.declared.answers.StartFault.TheVariants.{WindowFull}
use Rattle.poll_core.specs.declared.limits.TheConstants.{LAST_MOMENT, MAX_TIMEOUT, MAX_WINDOW}
use Rattle.poll_core.specs.declared.outcome.Closing.TheVariants.{Gone}
use Rattle.poll_core.specs.declared.outcome.Malformation.TheVariants.{WrongUnit}
use Rattle.poll_core.specs.declared.outcome.LostCause.TheVariants as cause

abbrev registers : ℕ → ℕ → Span
registers address count = record { function = HoldingRegisters; address = address; count = count }

-- The first poll of the examples, started at second 100 with a timeout of 5 seconds. It requests
-- three registers of unit 1.
abbrev one : List Event
one = Start 100 1 1 (registers 40094 3) ∷ []

abbrev good : List ℕ
good = 0 ∷ 0 ∷ 0 ∷ 0 ∷ 0 ∷ 9 ∷ 1 ∷ 3 ∷ 6 ∷ 0 ∷ 0 ∷ 20 ∷ 80 ∷ 0 ∷ 0 ∷ []

answered : outcomes_at 5 one (Piece 104 good) ≡ (1, Answered (0 ∷ 5200 ∷ 0 ∷ [])) ∷ []
unfolding outcomes_at pending frames_at ending_at stream next_id settled_by frames frames_in rest rest_in is_garbled
answered = refl

-- A response that arrives at the deadline does not prevent the timeout of the poll.
silent : outcomes_at 5 one (Piece 105 good) ≡ (1, Silent) ∷ []
unfolding outcomes_at pending frames_at ending_at stream next_id settled_by frames frames_in rest rest_in is_garbled
silent = refl

-- A response that arrives twice, in one chunk or in two, completes the poll once.
twice : outcomes_at 5 one (Piece 104 (good ++ good)) ≡ (1, Answered (0 ∷ 5200 ∷ 0 ∷ [])) ∷ []
unfolding outcomes_at pending frames_at ending_at stream next_id settled_by frames frames_in rest rest_in is_garbled
twice = refl

again : outcomes_at 5 (one ++ Piece 104 good ∷ []) (Piece 104 good) ≡ []
unfolding outcomes_at pending frames_at ending_at stream next_id settled_by frames frames_in rest rest_in is_garbled
again = refl

other_id : outcomes_at 5 one (Piece 104 (0 ∷ 9 ∷ 0 ∷ 0 ∷ 0 ∷ 9 ∷ 1 ∷ 3 ∷ 6 ∷ 0 ∷ 0 ∷ 20 ∷ 80 ∷ 0 ∷ 0 ∷ [])) ≡ []
unfolding outcomes_at pending frames_at ending_at stream next_id settled_by frames frames_in rest rest_in is_garbled
other_id = refl

exception : outcomes_at 5 one (Piece 104 (0 ∷ 0 ∷ 0 ∷ 0 ∷ 0 ∷ 3 ∷ 1 ∷ 131 ∷ 6 ∷ [])) ≡ (1, Exception 6) ∷ []
unfolding outcomes_at pending frames_at ending_at stream next_id settled_by frames frames_in rest rest_in is_garbled
exception = refl

other_unit : outcomes_at 5 one (Piece 104 (0 ∷ 0 ∷ 0 ∷ 0 ∷ 0 ∷ 3 ∷ 2 ∷ 131 ∷ 6 ∷ [])) ≡ (1, Malformed WrongUnit) ∷ []
unfolding outcomes_at pending frames_at ending_at stream next_id settled_by frames frames_in rest rest_in is_garbled
other_unit = refl

garbled : outcomes_at 5 one (Piece 104 (0 ∷ 0 ∷ 0 ∷ 0 ∷ 0 ∷ 1 ∷ [])) ≡ (1, Lost cause.Garbled) ∷ []
unfolding outcomes_at pending frames_at ending_at stream next_id settled_by frames frames_in rest rest_in is_garbled
garbled = refl

-- A polling session that receives four bytes of a response before its connection ends.
abbrev four_bytes : List Event
four_bytes = one ++ Piece 103 (0 ∷ 0 ∷ 0 ∷ 0 ∷ []) ∷ []

lost : outcomes_at 5 four_bytes (Close 104 Gone) ≡ (1, Lost cause.Gone) ∷ []
unfolding outcomes_at pending frames_at ending_at stream next_id settled_by frames frames_in rest rest_in is_garbled
lost = refl

lost_late : outcomes_at 5 four_bytes (Close 105 Gone) ≡ (1, Silent) ∷ []
unfolding outcomes_at pending frames_at ending_at stream next_id settled_by frames frames_in rest rest_in is_garbled
lost_late = refl

-- A polling session with two polls whose responses arrive in one chunk, the second response first.
abbrev two : List Event
two = Start 1000 1 1 (registers 0 1) ∷ Start 1000 2 1 (registers 1 1) ∷ []

crossed : outcomes_at 5 two (Piece 1001 (0 ∷ 1 ∷ 0 ∷ 0 ∷ 0 ∷ 5 ∷ 1 ∷ 3 ∷ 2 ∷ 0 ∷ 7 ∷ 0 ∷ 0 ∷ 0 ∷ 0 ∷ 0 ∷ 5 ∷ 1 ∷ 3 ∷ 2 ∷ 0 ∷ 9 ∷ [])) ≡ (2, Answered (7 ∷ [])) ∷ (1, Answered (9 ∷ [])) ∷ []
unfolding outcomes_at pending frames_at ending_at stream next_id settled_by frames frames_in rest rest_in is_garbled
crossed = refl

both_silent : outcomes_at 5 two (Tick 1005) ≡ (1, Silent) ∷ (2, Silent) ∷ []
unfolding outcomes_at pending frames_at ending_at stream next_id settled_by frames frames_in rest rest_in is_garbled
both_silent = refl

-- Examples of the limits on times, timeouts and pending polls, as numbers.

-- The beginning of 2100, in seconds since 1970: 130 years, 32 of them leap years.
the_last_moment : LAST_MOMENT ≡ (130 * 365 + 32) * 86400
the_last_moment = refl

-- With the longest timeout of 60 seconds, a poll started at second 100 is pending at second 159 and
-- times out at second 160.
waits_59_seconds : outcomes_at MAX_TIMEOUT one (Tick 159) ≡ []
unfolding outcomes_at pending frames_at ending_at stream next_id settled_by frames frames_in rest rest_in is_garbled
waits_59_seconds = refl

waits_60_seconds : outcomes_at MAX_TIMEOUT one (Tick 160) ≡ (1, Silent) ∷ []
unfolding outcomes_at pending frames_at ending_at stream next_id settled_by frames frames_in rest rest_in is_garbled
waits_60_seconds = refl

-- With the greatest window of 16 pending polls, a start of a poll succeeds while 15 are pending and
-- is refused with 16.
abbrev starts : ℕ → List Event
starts zero = []
starts (suc count) = Start 100 count 1 (registers 0 1) ∷ starts count

the_sixteenth : start_fault 5 MAX_WINDOW (starts 15) 100 ≡ None
unfolding pending stream next_id settled_by is_over is_closed frames frames_in rest rest_in is_garbled
the_sixteenth = refl

the_seventeenth : start_fault 5 MAX_WINDOW (starts 16) 100 ≡ Some WindowFull
unfolding pending stream next_id settled_by is_over is_closed frames frames_in rest rest_in is_garbled
the_seventeenth = refl
