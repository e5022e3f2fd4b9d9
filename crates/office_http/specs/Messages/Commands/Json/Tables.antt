-- The members of each command's JSON body. Members that are not listed are ignored.
use Rattle.std.specs.Prelude.{Bool, ◌&&◌, ◌||◌, List, [], ◌∷◌, is_none, is_some, Option, codes}
use Rattle.serde_json.specs.Data.{Data}
use Rattle.serde_json.specs.Find.{get}
use Rattle.office_http.specs.declared.messages.commands.json.body.BodyFault.{BodyFault}
use Rattle.office_http.specs.Messages.Commands.Json.Members.{Member, Text, Whole, Natural, Optional, fault_in, have_kinds, have_negative, is_below_zero, whole}

-- The fault of a JSON object that must have the listed members, or None if the object has no fault.
abbrev pub fault_of : List Member → Data → Option BodyFault
fault_of members d = fault_in (have_kinds members d) (have_negative members d)

-- The required members of the body that adds a device.
abbrev pub device_members : List Member
device_members =
    record { name = codes "name"; want = Text }
    ∷ record { name = codes "unit"; want = Natural }
    ∷ record { name = codes "timeout"; want = Natural }
    ∷ record { name = codes "window"; want = Natural }
    ∷ []

-- The required members of the body that adds an accounting register (energy counter). The body also
-- has the register's scale: exactly one of `fixed` and `scale_at`.
abbrev pub register_members : List Member
register_members =
    record { name = codes "name"; want = Text }
    ∷ record { name = codes "device"; want = Text }
    ∷ record { name = codes "function"; want = Natural }
    ∷ record { name = codes "address"; want = Natural }
    ∷ []

-- True if exactly one of the members `fixed` and `scale_at` exists, and its value is an integer.
abbrev pub has_scale : Data → Bool
has_scale d =
    (is_some (whole (codes "fixed") d) && is_none (get (codes "scale_at") d))
    || (is_none (get (codes "fixed") d) && is_some (whole (codes "scale_at") d))

-- The fault of the power of ten in a JSON body that adds an accounting register (a named energy
-- counter). The body must have either the integer `fixed` or the address `scale_at`, not negative.
abbrev pub scale_fault : Data → Option BodyFault
scale_fault d = fault_in (has_scale d) (is_below_zero (whole (codes "scale_at") d))

-- The fault of a body that adds an accounting register (a named energy counter).
abbrev pub register_fault : Data → Option BodyFault
register_fault d =
    fault_in (have_kinds register_members d && has_scale d)
    (have_negative register_members d || is_below_zero (whole (codes "scale_at") d))

-- The members of the body that installs a meter. Only `range` is optional.
abbrev pub install_members : List Member
install_members =
    record { name = codes "meter"; want = Text }
    ∷ record { name = codes "raw"; want = Natural }
    ∷ record { name = codes "sf"; want = Whole }
    ∷ record { name = codes "ceiling"; want = Natural }
    ∷ record { name = codes "range"; want = Optional }
    ∷ []

-- The members of the body that exchanges a meter: the last reading of the old meter, and the new
-- meter.
abbrev pub exchange_members : List Member
exchange_members =
    record { name = codes "last"; want = Natural }
    ∷ record { name = codes "rolls"; want = Natural }
    ∷ install_members

-- The required members of the body that records a reset of a meter's counter.
abbrev pub reset_members : List Member
reset_members =
    record { name = codes "before"; want = Natural }
    ∷ record { name = codes "after"; want = Natural }
    ∷ []

-- The required members of the body that records a change of a meter's scale.
abbrev pub rescale_members : List Member
rescale_members =
    record { name = codes "before"; want = Natural }
    ∷ record { name = codes "after"; want = Natural }
    ∷ record { name = codes "sf"; want = Whole }
    ∷ []

-- The members of the body that enters a reading by hand. Only `at` is optional.
abbrev pub manual_members : List Member
manual_members =
    record { name = codes "raw"; want = Natural }
    ∷ record { name = codes "rolls"; want = Natural }
    ∷ record { name = codes "at"; want = Optional }
    ∷ []

-- The required members of the body that closes a meter.
abbrev pub close_members : List Member
close_members =
    record { name = codes "raw"; want = Natural }
    ∷ record { name = codes "rolls"; want = Natural }
    ∷ []

-- The required member of the body that voids (cancels) a meter entry: the entry's sequence number.
abbrev pub void_members : List Member
void_members = record { name = codes "place"; want = Natural } ∷ []
