-- The search for a slot (a device with its connection) by the name of the device.
use Rattle.std.specs.Prelude.{◌≡◌, ℕ, Bool, true, List, Option, Some, None, is_some}
use Rattle.std.specs.List.{position}
use Rattle.office_events.specs.declared.commands.Command.{Command}
use Rattle.office_events.specs.declared.commands.Command.TheVariants as command
use Rattle.office_books.specs.Facts.{is_named}
use Rattle.office_core.specs.declared.sessions.slots.Slot.{Slot}

-- The index of the first slot (a device with its connection) whose device has the name. `None` if
-- no device has the name or if the name is invalid.
abbrev pub place_in : List Slot → Option (List ℕ) → Option ℕ
place_in kept given = position (λ slot. is_named given slot.device.name) kept

-- True if the device of a slot (a device with its connection) has the name.
abbrev pub has_slot : List Slot → Option (List ℕ) → Bool
has_slot kept given = is_some (place_in kept given)

-- True if the command starts no polls, or if its device has a slot (the state of its connection).
abbrev pub StartsOnSlot : List Slot → Command → Type 0
StartsOnSlot kept (command.StartPoll c) = has_slot kept c.device ≡ true
StartsOnSlot kept (command.StartRound c) = has_slot kept c.device ≡ true
StartsOnSlot kept _ = Unit {0}

-- True if the event starts no polls, or if the device of its command has a slot (the state of its
-- connection).
abbrev pub AsksOnSlot : List Slot → Option Command → Type 0
AsksOnSlot kept None = Unit {0}
AsksOnSlot kept (Some c) = StartsOnSlot kept c
