-- The counts of a polling round's ended polls by outcome: answered, timed out, or failed otherwise.
use Rattle.std.specs.Prelude.{ℕ, ◌==◌, List, [], ◌∷◌, if◌then◌else◌}
use Rattle.std.specs.List.{list_any}
use Rattle.poll_core.specs.declared.outcome.Outcome.{Outcome}
use Rattle.poll_core.specs.declared.outcome.Outcome.TheVariants.{Answered, Exception, Silent, Malformed, Lost}
use Rattle.office_events.specs.declared.answers.Note.{Note}
use Rattle.office_events.specs.declared.answers.Note.TheVariants as note
use Rattle.office_events.specs.Numbers.{one_more}
use Rattle.office_program.specs.declared.device_rounds.polls.Sum.{Sum}

-- The counts of a polling round that has no ended polls.
abbrev pub none : Sum
none = record { answered = 0; silent = 0; failed = 0 }

-- The counts of a polling round's ended polls after one more poll ended with this outcome.
abbrev pub ended : Outcome → Sum → Sum
ended Answered sum = record sum { answered = one_more sum.answered }
ended (Exception code) sum = record sum { failed = one_more sum.failed }
ended Silent sum = record sum { silent = one_more sum.silent }
ended (Malformed wrong) sum = record sum { failed = one_more sum.failed }
ended (Lost cause) sum = record sum { failed = one_more sum.failed }

-- The counts of a polling round's ended polls after one more notification. The notification is
-- counted only if it reports the outcome of a poll in `polls`.
abbrev pub noted : (polls : List ℕ) → Note → Sum → Sum
noted polls (note.Outcome poll outcome) sum =
    if list_any (λ one. one == poll) polls then ended outcome sum else sum
noted polls (note.Reading meter raw rolls step) sum = sum
noted polls (note.Held meter raw cause) sum = sum

-- The counts of a polling round's ended polls after several notifications, which are counted in
-- order.
abbrev pub noted_all : (polls : List ℕ) → List Note → Sum → Sum
noted_all polls [] sum = sum
noted_all polls (one ∷ notes) sum = noted_all polls notes (noted polls one sum)
