-- Limits the HTTP responses in one iteration of the main loop, and defines the order in which the
-- client slots are served.
use Rattle.std.specs.Prelude.{◌≡◌, ℕ, ◌+◌, ◌-◌, ◌%◌, ◌<◌, ◌==◌, ◌||◌, Bool, false, List, [], ◌∷◌, length, sum_by}
use Rattle.run_schedule.specs.declared.http_clients.turn_share.TurnShare.{TurnShare}

-- The limits of one iteration of the main loop: 64 requests, 256 KiB of responses, and 20 ms to
-- make the responses.
abbrev pub whole : TurnShare
whole = record { requests = 64; bytes = 262144; milliseconds = 20 }

-- True if one of the limits on HTTP responses is used up. Then no further response begins in this
-- iteration of the main loop.
abbrev pub is_over : TurnShare → Bool
is_over share = share.requests == 0 || share.bytes == 0 || share.milliseconds == 0

-- What remains of the limits of a main loop iteration after a response of `bytes` bytes that took
-- `milliseconds` to make.
abbrev pub after : TurnShare → (bytes milliseconds : ℕ) → TurnShare
after share bytes milliseconds = record {
  requests = share.requests - 1;
  bytes = share.bytes - bytes;
  milliseconds = share.milliseconds - milliseconds;
}

-- What remains of the limits of an iteration of the main loop after some responses, the latest
-- first. Each response is a pair of its bytes and the milliseconds to make it.
abbrev pub left_after : List (ℕ × ℕ) → TurnShare
left_after [] = whole
left_after (one ∷ earlier) = after (left_after earlier) one.0 one.1

-- States that each HTTP response in a list began before a limit of the main loop's iteration was
-- used up.
abbrev pub MayReply : List (ℕ × ℕ) → Type 0
MayReply [] = Unit {0}
MayReply (one ∷ earlier) = (is_over (left_after earlier) ≡ false) × MayReply earlier

-- States that a main loop iteration's list of HTTP responses has at most 64. The responses before
-- the latest take less than 256 KiB in total, and took less than 20 ms in total to make.
abbrev pub AreFew : List (ℕ × ℕ) → Type 0
AreFew [] = Unit {0}
AreFew (one ∷ earlier) =
    length earlier < 64 × sum_by (λ reply. reply.0) earlier < 262144
    × sum_by (λ reply. reply.1) earlier < 20

-- The client slot that is `step` slots after slot `first`. Slot 0 follows the last slot.
abbrev pub place_at : (first step : ℕ) → ℕ
place_at first step = (first + step) % 64

-- The number of client slots that are served before slot `place`, in an iteration that begins with
-- slot `first`.
abbrev pub before : (place first : ℕ) → ℕ
before place first = (place + (64 - first)) % 64
