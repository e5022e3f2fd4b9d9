-- The effect of new records on a cache of lookup results: the cached results of other devices and
-- meters are unchanged. A result that a record concerns is updated, or is removed from the cache.
use Rattle.std.specs.Prelude.{◌≡◌, ℕ, false, List, Some, None}
use Rattle.office_events.specs.declared.facts.BookedEntry.{BookedEntry}
use Rattle.office_events.specs.declared.facts.Fact.{Fact}
use Rattle.office_events.specs.declared.facts.Fact.TheVariants as fact
use Rattle.office_events.specs.declared.questions.Installation.{Installation}
use Rattle.office_books.specs.Facts.{same}
use Rattle.office_books.specs.Ranges.{IsSound}
use Rattle.office_books.specs.Steps.{moved_by}
use Rattle.office_books.specs.Sound.{MayEnter}
use Rattle.memory_books.specs.declared.kept.answers.Answers.{Answers}
use Rattle.memory_books.specs.declared.kept.known.Known.{Known}
use Rattle.memory_books.specs.Kept.Answers.{answer_to, Forgets}

-- The effect of a meter entry on the cached states of meters. The state of the entry's meter is
-- advanced by the entry, or removed from the cache. All other states are unchanged.
pub record EntryKeepsAnswers (booked : BookedEntry) (old new : Answers Installation) : Type 0 where
  pub own : (row : Installation) → answer_to new booked.meter ≡ Some row
      → (before : Installation) × (answer_to old booked.meter ≡ Some before)
      × (IsSound before → MayEnter before booked.entry
      → row ≡ moved_by booked.kind booked.entry before)
  pub others : (other : List ℕ) → same booked.meter other ≡ false
      → answer_to new other ≡ answer_to old other

-- True if the cached point lists (the Modbus registers to read) of all devices are unchanged.
abbrev pub SameLists : (old new : Known) → Type 0
SameLists old new = new.lists ≡ old.lists

-- True if the cached lists of accounting registers (named energy counters) in `new` equal those in
-- `old`.
abbrev pub SameRegisters : (old new : Known) → Type 0
SameRegisters old new = new.registers ≡ old.registers

-- True if a change of the cache of lookup results leaves the cached states of meters unchanged.
abbrev pub SameStanding : (old new : Known) → Type 0
SameStanding old new = new.standing ≡ old.standing

-- True if the cached point lists, accounting registers (named energy counters) and states of meters
-- are unchanged.
pub record StaysKept (old new : Known) : Type 0 where
  pub lists : SameLists old new
  pub registers : SameRegisters old new
  pub standing : SameStanding old new

-- The effect of a new record on the cache. A new point list removes the cached point list of its
-- device, and a new accounting register (a named energy counter) removes the cached register list
-- of its device.
--
-- An installation of a meter removes the cached states of all meters, and a void (a cancelled
-- entry) removes that of its meter. An entry advances the cached state of its meter.
abbrev pub Changes : Fact → (old new : Known) → Type 0
Changes (fact.List put) old new =
    Forgets put.device old.lists new.lists × SameRegisters old new × SameStanding old new
Changes (fact.Register register) old new =
    SameLists old new × Forgets register.device old.registers new.registers × SameStanding old new
Changes (fact.Opening opening) old new =
    SameLists old new × SameRegisters old new
    × ((name : List ℕ) → answer_to new.standing name ≡ None)
Changes (fact.Entry booked) old new =
    SameLists old new × SameRegisters old new × EntryKeepsAnswers booked old.standing new.standing
Changes (fact.Void voided) old new =
    SameLists old new × SameRegisters old new × Forgets voided.meter old.standing new.standing
Changes (fact.Device device) old new = StaysKept old new
Changes (fact.Hold held) old new = StaysKept old new
Changes (fact.Poll poll) old new = StaysKept old new
Changes (fact.Outcome ended) old new = StaysKept old new
Changes (fact.Reply reply) old new = StaysKept old new
