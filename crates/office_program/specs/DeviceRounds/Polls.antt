-- The numbers of the pending polls of a polling round.
use Rattle.std.specs.Prelude.{ℕ, zero, suc, ◌+◌, ◌-◌, ◌^◌, ◌==◌, min, Bool, false, not, List, [], ◌∷◌, ◌++◌}
use Rattle.std.specs.List.{list_any}
use Rattle.office_events.specs.declared.answers.Note.{Note}
use Rattle.office_events.specs.declared.answers.Note.TheVariants as note

-- True if the notification (of a poll's outcome or of a reading) reports the outcome of the poll
-- with number `poll`.
abbrev pub ends : (poll : ℕ) → Note → Bool
ends poll (note.Outcome ended outcome) = ended == poll
ends poll (note.Reading meter raw rolls step) = false
ends poll (note.Held meter raw cause) = false

-- True if none of the notifications reports the outcome of the poll, which is therefore still
-- pending.
abbrev pub waits : List Note → (poll : ℕ) → Bool
waits notes poll = not (list_any (ends poll) notes)

-- A list of `count` consecutive numbers, beginning with `first`. Each number saturates at 2^64 - 1.
abbrev pub numbers : (first count : ℕ) → List ℕ
numbers first zero = []
numbers first (suc n) = numbers first n ++ min (first + n) (2 ^ 64 - 1) ∷ []
