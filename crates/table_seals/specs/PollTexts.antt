-- Defines the text of polls and outcomes. A seal has the SHA-256 digest of this text.
use Rattle.std.specs.Prelude.{ℕ, ◌==◌, Bool, true, false, nat_le, List, [], ◌∷◌, ◌++◌, flat_map, Option, Some, None, if◌then◌else◌}
use Rattle.std.specs.Prelude.{codes, decimal}
use Rattle.std.specs.List.{list_any}
use Rattle.table_seals.specs.declared.poll_values.Ending.{Ending}
use Rattle.table_seals.specs.declared.poll_values.PollNumbers.{PollNumbers}
use Rattle.table_seals.specs.PollReading.{ReadPoll}

-- The digested line of a poll: `poll NUMBER DEVICE UNIT STARTED TID FUNCTION ADDRESS COUNT`.
abbrev pub poll_line : PollNumbers → (device : List ℕ) → List ℕ
poll_line poll device =
    codes "poll " ++ decimal poll.number ++ codes " " ++ device ++ codes " " ++ decimal poll.unit
    ++ codes " " ++ decimal poll.started ++ codes " " ++ decimal poll.tid ++ codes " "
    ++ decimal poll.function ++ codes " " ++ decimal poll.address ++ codes " "
    ++ decimal poll.count ++ codes "\n"

-- The digested line of a poll's outcome: `outcome MOMENT KIND CODE`.
abbrev pub ending_line : Ending → List ℕ
ending_line ending =
    codes "outcome " ++ decimal ending.moment ++ codes " " ++ decimal ending.kind ++ codes " "
    ++ decimal ending.code ++ codes "\n"

-- The line of a poll's outcome, or an empty text for a pending poll.
abbrev pub ending_text : Option Ending → List ℕ
ending_text None = []
ending_text (Some ending) = ending_line ending

-- The digested text of a poll: its line, and the line of its outcome if the poll has an outcome.
abbrev pub poll_text : ReadPoll → List ℕ
poll_text poll = poll_line poll.numbers poll.device ++ ending_text poll.ending

-- The text of a list of polls: the lines of each poll and its outcome, in the order of the list.
abbrev pub polls_text : List ReadPoll → List ℕ
polls_text polls = flat_map poll_text polls

-- The outcome that a poll had when it was sealed (digested). None if the poll was pending then.
abbrev pub unless_pending : Bool → Option Ending → Option Ending
unless_pending true ending = None
unless_pending false ending = ending

-- True if the list `polls` has the poll number `poll`.
abbrev pub is_listed : (polls : List ℕ) → (poll : ℕ) → Bool
is_listed polls poll = list_any (λ number. number == poll) polls

-- The text that a poll had when it was sealed (digested), when the polls in `pending` had no
-- outcome. The text is empty if the poll's number is greater than `last`.
abbrev pub text_then : (last : ℕ) → (pending : List ℕ) → ReadPoll → List ℕ
text_then last pending poll =
    if nat_le poll.numbers.number last
    then poll_line poll.numbers poll.device
    ++ ending_text (unless_pending (is_listed pending poll.numbers.number) poll.ending)
    else []

-- The text that all polls up to the number `last` had when they were sealed (digested), when the
-- polls in `pending` had no outcome.
abbrev pub polls_text_then : (last : ℕ) → (pending : List ℕ) → List ReadPoll → List ℕ
polls_text_then last pending polls = flat_map (text_then last pending) polls

abbrev pub unless_ended : (number : ℕ) → Option Ending → List ℕ
unless_ended number None = number ∷ []
unless_ended number (Some ending) = []

-- A list with the number of a poll, or an empty list if the poll has an outcome.
abbrev pub pending_of : ReadPoll → List ℕ
pending_of poll = unless_ended poll.numbers.number poll.ending

-- The numbers of all polls in a list that have no outcome.
abbrev pub pending_among : List ReadPoll → List ℕ
pending_among polls = flat_map pending_of polls
