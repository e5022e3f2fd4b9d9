-- The values of a command's fields, from the members of a JSON object.
use Rattle.std.specs.Prelude.{ℕ, ℤ, pos, negsuc, List, Option, Some, None, codes, is_none, option_and_then, option_map, if◌then◌else◌}
use Rattle.energy_core.specs.declared.limits.TheConstants.{MAX_RANGE}
use Rattle.serde_json.specs.Data.{Data}
use Rattle.serde_json.specs.Find.{get}
use Rattle.office_http.specs.Messages.Commands.Json.Members.{text, whole}
use Rattle.office_events.specs.Names.{named}
use Rattle.office_events.specs.declared.commands.GivenScale.{GivenScale}
use Rattle.office_events.specs.declared.commands.GivenScale.TheVariants.{Fixed, Register}

-- The name in a member of a JSON object. None if the member is no string, or the string is no valid
-- name.
abbrev pub name_in : List ℕ → Data → Option (List ℕ)
name_in member d = option_and_then named (text member d)

-- The value of an optional number, or 0 without a number.
abbrev pub integer_or_zero : Option ℤ → ℤ
integer_or_zero None = pos 0
integer_or_zero (Some n) = n

-- The integer as a natural number, or 0 if the integer is negative.
abbrev pub magnitude : ℤ → ℕ
magnitude (pos n) = n
magnitude (negsuc n) = 0

-- The integer in a member of a JSON object, or 0 if the member is no integer.
abbrev pub integer_in : List ℕ → Data → ℤ
integer_in member d = integer_or_zero (whole member d)

-- The number in a member of a JSON object, or 0 if the member is negative or no integer.
abbrev pub natural_in : List ℕ → Data → ℕ
natural_in member d = magnitude (integer_in member d)

-- The number in an optional member of a JSON object: None if the member is no integer, and 0 if it
-- is negative.
abbrev pub optional_in : List ℕ → Data → Option ℕ
optional_in member d = option_map magnitude (whole member d)

-- The range of a meter's counter (how many values it has). It is 2^32 if the JSON body that
-- installs the meter gives no range.
abbrev pub or_full_range : Option ℕ → ℕ
or_full_range None = MAX_RANGE
or_full_range (Some range) = range

-- The scale of an accounting register (energy counter): the exponent in `fixed`, or the Modbus
-- address in `scale_at` from which the exponent is read.
abbrev pub scale_in : Data → GivenScale
scale_in d =
    if is_none (get (codes "fixed") d) then Register (natural_in (codes "scale_at") d)
    else Fixed (integer_in (codes "fixed") d)
