-- Defines whether successive database files continue each other, which means that each meter has
-- one history over all files. In each list of meters, the meters of the latest file come first.
use Rattle.std.specs.Prelude.{ℕ, ◌-◌, ◌==◌, nat_lt, nat_le, Bool, true, false, not, ◌&&◌, List, [], ◌∷◌, ◌++◌, take, length, flat_map, Option, Some, None, if◌then◌else◌, bytes_eq, string_bytes}
use Rattle.std.specs.List.{find, list_any}
use Rattle.std.specs.Option.{option_map, option_map_or, option_to_list}
use Rattle.std.specs.Ordering.{int_eq}
use Rattle.energy_core.specs.declared.entries.Last.{Last}
use Rattle.energy_core.specs.declared.limits.TheConstants.{MAX_TOTAL}
use Rattle.table_seals.specs.declared.filed.FiledMeter.{FiledMeter}
use Rattle.table_seals.specs.declared.filed.FiledOffice.{FiledOffice}
use Rattle.table_seals.specs.declared.join_faults.JoinFault.{JoinFault}
use Rattle.table_seals.specs.declared.join_faults.JoinFault.TheVariants.{Closed, Register, Range, Ceiling, Opening, Energy}

-- The data about one database file, or about several successive files. `file` and `zone` are the
-- name and the time zone of the latest file. `meters` has the meters of the latest file first, and
-- then those of earlier files. `latest` is the number of meters in the latest file.
pub record Known : Type 0 where
  pub file : List ℕ
  pub zone : List ℕ
  pub meters : List FiledMeter
  pub latest : ℕ

-- Converts the program's data about database files (`FiledOffice`) to the record `Known` that
-- contracts and proofs use.
abbrev pub known_of : FiledOffice → Known
known_of office = record {
  file = office.file.now;
  zone = string_bytes office.zone;
  meters = office.meters.items;
  latest = office.latest;
}

-- Builds the data about one database file, for the check that the next file continues it, from the
-- file's name, time zone and meters.
abbrev pub known_as : (file zone : List ℕ) → List FiledMeter → Known
known_as file zone meters =
    record { file = file; zone = zone; meters = meters; latest = length meters }

-- Adds the meters of the next database file to the data about the earlier files. The result has the
-- name and the time zone of the next file.
abbrev pub known_with : (known next : Known) → Known
known_with known next = record {
  file = next.file;
  zone = next.zone;
  meters = next.meters ++ known.meters;
  latest = length next.meters;
}

-- Whether the meter has the name `name`.
abbrev pub is_meter : (name : List ℕ) → FiledMeter → Bool
is_meter name meter = bytes_eq (string_bytes meter.meter) name

-- Whether one meter in a list of meters of database files has the name `name`.
abbrev pub has_meter : (name : List ℕ) → List FiledMeter → Bool
has_meter name meters = list_any (is_meter name) meters

-- Whether two counter states have the same raw value, timestamp and scale factor.
abbrev pub is_same : Last → Last → Bool
is_same last other = (last.at == other.at) && (last.raw == other.raw) && int_eq last.sf other.sf

-- The energy that remains of the limit `most`, in mWh, after a meter's total energy is subtracted.
-- A meter of another name than `name` leaves the limit unchanged. None if the total exceeds the
-- limit.
abbrev pub left_after : (most : ℕ) → (name : List ℕ) → FiledMeter → Option ℕ
left_after most name meter =
    if is_meter name meter
    then (if nat_le meter.standing.total most then Some (most - meter.standing.total) else None)
    else Some most

-- Whether all meters with the name `name` together have at most the energy `most`, in mWh.
abbrev pub stay_within : (most : ℕ) → (name : List ℕ) → List FiledMeter → Bool
stay_within most name [] = true
stay_within most name (meter ∷ meters) =
    option_map_or (λ left. stay_within left name meters) (left_after most name meter) false

-- Whether a meter's total energy in the next file and all earlier files is within the limit of one
-- meter.
abbrev pub is_within : (known : List FiledMeter) → (new : FiledMeter) → Bool
is_within known new = stay_within MAX_TOTAL (string_bytes new.meter) (new ∷ known)

-- The first of six rules that the continuation of a meter breaks, or None. By these rules, the
-- earlier meter is open, and has the register, range and ceiling (maximum power) of the new meter.
-- Its last entry equals the new opening (first entry), and its total energy in all files is within
-- the limit of one meter.
abbrev pub fault_between : (within : Bool) → (old new : FiledMeter) → Option JoinFault
fault_between within old new =
    if old.standing.is_ended then Some Closed else
    if not (bytes_eq (string_bytes new.register) (string_bytes old.register))
    then Some Register else
    if not (new.installed.range == old.installed.range) then Some Range else
    if not (new.installed.ceiling == old.installed.ceiling) then Some Ceiling else
    if not (is_same new.installed.opening old.standing.last) then Some Opening else
    if not within then Some Energy else None

-- Whether a new meter overlaps an earlier meter that is assigned to the same accounting register (a
-- named energy counter). Meters overlap if the new meter's opening (first entry) is earlier than
-- the last entry of the earlier meter.
abbrev pub is_beyond : (new old : FiledMeter) → Bool
is_beyond new old =
    bytes_eq (string_bytes old.register) (string_bytes new.register)
    && nat_lt new.installed.opening.at old.standing.last.at

-- A difference by which a database file does not continue the earlier files: its time zone, or a
-- meter that differs, overlaps an earlier meter, or is missing.
pub data Join : Type 0 where
  OtherZone : (old new : Known) → Join
  Differs : JoinFault → (old new : FiledMeter) → Join
  Overlaps : (old new : FiledMeter) → Join
  Missing : (old : FiledMeter) → (file : List ℕ) → Join

-- The differences by which a meter in the next file does not continue the earlier files. If an
-- earlier file has a meter of this name, the meter is compared with the latest such meter.
-- Otherwise the meter is compared with all earlier meters.
abbrev pub joins_by : (known : List FiledMeter) → (new : FiledMeter) → Option FiledMeter
    → List Join
joins_by known new (Some old) =
    option_to_list (option_map (λ fault. Differs fault old new)
    (fault_between (is_within known new) old new))
joins_by known new None =
    option_to_list (option_map (λ old. Overlaps old new) (find (is_beyond new) known))

-- The differences between a meter in the next file and the meter of the same name in the earlier
-- files. The list is empty if the meter continues.
abbrev pub joins_of : (known : List FiledMeter) → (new : FiledMeter) → List Join
joins_of known new = joins_by known new (find (is_meter (string_bytes new.meter)) known)

-- Whether a meter is open in the earlier file, but missing in the next file.
abbrev pub is_missing : (next : List FiledMeter) → (old : FiledMeter) → Bool
is_missing next old =
    not old.standing.is_ended && not (has_meter (string_bytes old.meter) next)

-- A list with one difference if the meter `old` is open in the earlier file, but missing in the
-- next file. Otherwise the list is empty.
abbrev pub missing_of : (next : Known) → (old : FiledMeter) → List Join
missing_of next old = if is_missing next.meters old then Missing old next.file ∷ [] else []

-- A list with one difference if the time zones of two files differ, or an empty list if they are
-- equal.
abbrev pub zone_of : (known next : Known) → List Join
zone_of known next =
    if bytes_eq next.zone known.zone then [] else OtherZone known next ∷ []

-- The differences by which the next file does not continue the meters and the time zone of the
-- earlier files. The next file continues the earlier files if and only if this list is empty.
abbrev pub joins_between : (known next : Known) → List Join
joins_between known next =
    zone_of known next ++ flat_map (joins_of known.meters) next.meters
    ++ flat_map (missing_of next) (take known.latest known.meters)

-- The differences between the next file and the earlier files, or an empty list without earlier
-- files.
abbrev pub joins_after : Option Known → (next : Known) → List Join
joins_after None next = []
joins_after (Some known) next = joins_between known next

-- The collected data about the earlier database files and the next file together: the meters of all
-- files, and the name and the time zone of the next file.
abbrev pub after_next : Option Known → (next : Known) → Known
after_next None next = next
after_next (Some known) next = known_with known next

-- The differences that a check of successive database files finds between each later file and the
-- files before it, for example a meter that does not continue. The oldest file comes first.
abbrev pub joins_of_all : Known → (later : List Known) → List Join
joins_of_all known [] = []
joins_of_all known (next ∷ later) =
    joins_between known next ++ joins_of_all (known_with known next) later
