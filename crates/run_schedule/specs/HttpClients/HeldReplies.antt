-- Limits the bytes of HTTP responses in memory that clients have not yet read.
use Rattle.std.specs.Prelude.{◌≡◌, ℕ, ◌+◌, ◌-◌, ◌<◌, ◌≤◌, nat_lt, Bool, true, List, [], ◌∷◌}

-- True if the server may answer another request: the unread responses in memory take less than 4
-- MiB in total. This is 64 KiB for each client slot.
abbrev pub may_reply : (held : ℕ) → Bool
may_reply held = nat_lt held 4194304

-- A change of the number of bytes that unread responses take in memory. Either the server made a
-- response of this many bytes, or it dropped this many bytes.
pub data Change : Type 0 where
  Made : ℕ → Change
  Dropped : ℕ → Change

-- The bytes of HTTP responses that are in memory because their clients have not read them, after
-- responses were made and dropped. The latest such change comes first in the list.
abbrev pub held_after : List Change → ℕ
held_after [] = 0
held_after (Made bytes ∷ earlier) = held_after earlier + bytes
held_after (Dropped bytes ∷ earlier) = held_after earlier - bytes

-- States that each response was made while `may_reply` allowed it (less than 4 MiB of responses
-- were unread), and that no response is longer than `longest` bytes.
abbrev pub MayHold : (longest : ℕ) → List Change → Type 0
MayHold longest [] = Unit {0}
MayHold longest (Made bytes ∷ earlier) =
    (may_reply (held_after earlier) ≡ true) × (bytes ≤ longest) × MayHold longest earlier
MayHold longest (Dropped bytes ∷ earlier) = MayHold longest earlier

-- Theorem: if each response is made while `may_reply` allows it (less than 4 MiB are unread), the
-- unread responses take less than 4 MiB plus the longest response.
abbrev pub HoldsLittle : Type 0
HoldsLittle = (longest : ℕ) (changes : List Change) → MayHold longest changes
    → held_after changes < 4194304 + longest
