-- Converts the scale in a JSON body to the scale of a command.
use Rattle.office_http.specs.declared.messages.commands.json.devices.Scale.{Scale}
use Rattle.office_http.specs.declared.messages.commands.json.devices.Scale.TheVariants.{Fixed, At}
use Rattle.office_events.specs.declared.commands.GivenScale.{GivenScale}
use Rattle.office_events.specs.declared.commands.GivenScale.TheVariants as given

-- The source of an accounting register's scale exponent (a fixed number,
-- or a Modbus address of the device), converted from the command's JSON body.
abbrev pub scale_seen : Scale → GivenScale
scale_seen (Fixed sf) = given.Fixed sf
scale_seen (At address) = given.Register address
