-- The faults of a polling round, and how much text was printed and how many Modbus frames were sent
-- before each fault.
use Rattle.std.specs.Prelude.{ℕ, Bool, true, false, List, Option, Result, Ok, Err}
use Rattle.std.specs.Io.KnownBytes.{Appends}
use Rattle.sun_points.specs.Writing.{GotPart}
use Rattle.office_program.specs.declared.fault.RoundFault.{RoundFault}
use Rattle.office_program.specs.declared.fault.RoundFault.TheVariants.{Refused, Link, Output, TurnsUsed}

-- The numeric code of a fault of a polling round, from 1.
abbrev pub fault_number : RoundFault → ℕ
fault_number (Refused why) = 1
fault_number Link = 2
fault_number Output = 3
fault_number TurnsUsed = 4

-- True if the result of a polling round, or of a part of it, is a failure of the link (the
-- connection to the device).
abbrev pub is_link_fault : {X : Type 0} → Result X RoundFault → Bool
is_link_fault (Ok x) = false
is_link_fault (Err (Refused why)) = false
is_link_fault (Err Link) = true
is_link_fault (Err Output) = false
is_link_fault (Err TurnsUsed) = false

-- States that the text was printed completely. If the result is a failed write of the output
-- (`Output`), states that the text was printed completely or in part.
abbrev pub IsPrinted : {X : Type 0} → Result X RoundFault → (text : List ℕ)
    → (old new : Option (List ℕ)) → Type 0
IsPrinted (Ok x) text old new = Appends old new text
IsPrinted (Err (Refused why)) text old new = Appends old new text
IsPrinted (Err Link) text old new = Appends old new text
IsPrinted (Err Output) text old new = GotPart text old new
IsPrinted (Err TurnsUsed) text old new = Appends old new text

-- States that the Modbus frames were written to the link (the connection to the device) completely.
-- If the link or the output failed, states that the frames were written completely or in part.
--
-- After a failed write of the output, the frames of the latest started Modbus reads were not sent.
abbrev pub AreGiven : {X : Type 0} → Result X RoundFault → (frames : List ℕ)
    → (old new : Option (List ℕ)) → Type 0
AreGiven (Ok x) frames old new = Appends old new frames
AreGiven (Err (Refused why)) frames old new = Appends old new frames
AreGiven (Err Link) frames old new = GotPart frames old new
AreGiven (Err Output) frames old new = GotPart frames old new
AreGiven (Err TurnsUsed) frames old new = Appends old new frames

-- True if the result is a success or a failure of the link (the connection to the device), and no
-- other fault.
abbrev pub OnlyLink : {X : Type 0} → Result X RoundFault → Type 0
OnlyLink (Ok x) = Unit {0}
OnlyLink (Err (Refused why)) = ⊥
OnlyLink (Err Link) = Unit {0}
OnlyLink (Err Output) = ⊥
OnlyLink (Err TurnsUsed) = ⊥

-- True if the result of an action of a polling round is a success, a refusal of the office (the
-- event engine), or a failed write of the output. No fault of the link to the device is allowed.
abbrev pub OfOffice : {X : Type 0} → Result X RoundFault → Type 0
OfOffice (Ok x) = Unit {0}
OfOffice (Err (Refused why)) = Unit {0}
OfOffice (Err Link) = ⊥
OfOffice (Err Output) = Unit {0}
OfOffice (Err TurnsUsed) = ⊥

-- True if the result is not the fault `TurnsUsed`, which means that the polling round used all of
-- its 100,000 reads of the link (the connection to the device).
abbrev pub TakesOn : {X : Type 0} → Result X RoundFault → Type 0
TakesOn (Ok x) = Unit {0}
TakesOn (Err (Refused why)) = Unit {0}
TakesOn (Err Link) = Unit {0}
TakesOn (Err Output) = Unit {0}
TakesOn (Err TurnsUsed) = ⊥
