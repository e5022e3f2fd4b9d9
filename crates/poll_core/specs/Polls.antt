-- The model of a poll (one read request and its deadline), for contracts.
use Rattle.std.specs.Prelude.{ℕ, Bool, ◌==◌, nat_le}
use Rattle.mb_wire.specs.Spans.{Span}

-- A started poll: the caller's poll number, the transaction identifier, the requested unit and
-- registers, and the deadline.
pub record Poll : Type 0 where
  pub number : ℕ
  pub id : ℕ
  pub unit : ℕ
  pub span : Span
  pub deadline : ℕ

-- The poll, as contracts describe it, with the given number, transaction identifier, unit,
-- registers and deadline.
abbrev pub poll_of : (number id unit : ℕ) → Span → (deadline : ℕ) → Poll
poll_of number id unit span deadline =
    record { number = number; id = id; unit = unit; span = span; deadline = deadline }

-- True if the deadline of the poll is at or before the given time.
abbrev pub due : ℕ → Poll → Bool
due moment poll = nat_le poll.deadline moment

-- True if the poll has the given transaction identifier.
abbrev pub has_id : ℕ → Poll → Bool
has_id id poll = id == poll.id
