-- Remembers, for each device and meter, the last error number that a message to the operator
-- explained. A message is repeated only if the number changes.
use Rattle.std.specs.Prelude.{◌≡◌, ◌==◌, ℕ, Bool, true, false, ◌&&◌, List, [], ◌∷◌, ◌++◌, position, slice_get, slice_set, Option, Some, None, if◌then◌else◌}
use Rattle.std.specs.Str.{bytes_eq}
use Rattle.run_http.specs.declared.status.advice.reported.ReportedNumber.{ReportedNumber}
use Rattle.run_http.specs.declared.status.advice.reported.Topic.{Topic}
use Rattle.run_http.specs.declared.status.advice.reported.Topic.TheVariants.{Connection, Round, Meter}

-- A different number for each topic of a message: a device's connection, its polling round, or a
-- meter. Two topics are equal exactly if their numbers are equal.
abbrev pub topic_number : Topic → ℕ
topic_number Connection = 1
topic_number Round = 2
topic_number Meter = 3

-- An entry of the list of reported error numbers: a topic, a device or meter, and the error number
-- in the latest message about it.
abbrev pub reported_number : Topic → (name : Option (List ℕ)) → (number : ℕ) → ReportedNumber
reported_number topic name number = record { topic = topic; name = name; number = number }

-- True if two optional names are equal. Two missing names are also equal.
abbrev pub is_same_name : Option (List ℕ) → Option (List ℕ) → Bool
is_same_name None None = true
is_same_name None (Some b) = false
is_same_name (Some a) None = false
is_same_name (Some a) (Some b) = bytes_eq a b

-- True if two entries of the list of reported error numbers have the same topic and the same device
-- or meter.
abbrev pub are_of_same : ReportedNumber → ReportedNumber → Bool
are_of_same a b = (topic_number a.topic == topic_number b.topic) && is_same_name a.name b.name

-- The index of the entry, in the list of reported error numbers, with the same topic and the same
-- device or meter as the entry `reported`.
abbrev pub place_of : ReportedNumber → List ReportedNumber → Option ℕ
place_of reported numbers = position (λ one. are_of_same one reported) numbers

-- True if the error number of a device or meter differs from the last reported one, so a message is
-- due. False if no number was reported before.
abbrev pub is_other : Option ReportedNumber → (number : ℕ) → Bool
is_other None number = false
is_other (Some before) number = if before.number == number then false else true

-- The list of the last error number that was reported for each device or meter. If `other` is true
-- (the number has changed), `reported` replaces the entry at the index `place`.
abbrev pub changed_to : (other : Bool) → (place : ℕ) → ReportedNumber → List ReportedNumber
    → List ReportedNumber
changed_to true place reported numbers = slice_set numbers place reported
changed_to false place reported numbers = numbers

-- States that the entry at the index `place` of the list of reported error numbers gets the new
-- number. `is_reported` is true if the new number differs from the old number and must be reported.
abbrev pub Changes : (place : ℕ) → ReportedNumber → (old new : List ReportedNumber) → (is_reported : Bool)
    → Type 0
Changes place reported old new is_reported =
    (is_reported ≡ is_other (slice_get old place) reported.number)
    × (new ≡ changed_to is_reported place reported old)

-- The list of reported error numbers. If `room` is true (the list has room, and memory suffices),
-- `reported` is added as its last entry.
abbrev pub pushed : (room : Bool) → ReportedNumber → List ReportedNumber → List ReportedNumber
pushed true reported numbers = numbers ++ reported ∷ []
pushed false reported numbers = numbers

-- States that an entry is added to the list of reported error numbers, if there is room and memory.
-- `is_reported` is true if the entry was added, and its number must be reported.
abbrev pub Adds : ReportedNumber → (old new : List ReportedNumber) → (is_reported : Bool) → Type 0
Adds reported old new is_reported = new ≡ pushed is_reported reported old

-- States that the entry at the given index of the list of reported error numbers gets the new
-- number. Without an index, an entry with the number is added to the list.
abbrev pub ReportsNumberAt : (place : Option ℕ) → ReportedNumber → (old new : List ReportedNumber)
    → (is_reported : Bool) → Type 0
ReportsNumberAt None reported old new is_reported = Adds reported old new is_reported
ReportsNumberAt (Some place) reported old new is_reported = Changes place reported old new is_reported

-- States that `is_reported` says whether to report the error number of a device or meter. If
-- `is_reported` is true, the last reported number on the same topic was different or missing.
abbrev pub ReportsNumber : ReportedNumber → (old new : List ReportedNumber) → (is_reported : Bool) → Type 0
ReportsNumber reported old new is_reported = ReportsNumberAt (place_of reported old) reported old new is_reported

-- The entry of the list of reported error numbers for a device or meter that has no problem to
-- report. The error number of the entry is 0.
abbrev pub nothing_of : Topic → (name : Option (List ℕ)) → ReportedNumber
nothing_of topic name = reported_number topic name 0

-- States that, in the list of reported error numbers, the number of the entry at the index `place`
-- becomes 0. Without an index, the list is unchanged.
abbrev pub ForgetsAt : (place : Option ℕ) → ReportedNumber → (old new : List ReportedNumber) → Type 0
ForgetsAt None none old new = new ≡ old
ForgetsAt (Some place) none old new = (changed : Bool) × Changes place none old new changed

-- States that, in the list of reported error numbers, the entry with this topic and this device or
-- meter, if there is one, gets the number 0. The next problem of the device or meter is then
-- reported again.
abbrev pub Forgets : Topic → (name : Option (List ℕ)) → (old new : List ReportedNumber) → Type 0
Forgets topic name old new =
    ForgetsAt (place_of (nothing_of topic name) old) (nothing_of topic name) old new
