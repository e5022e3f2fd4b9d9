-- The values that the program reads from the JSON body of each command.
use Rattle.std.specs.Prelude.{◌≡◌, pos, Some, codes, option_map}
use Rattle.serde_json.specs.Data.{Data}
use Rattle.office_http.specs.Messages.Commands.Json.Members.{text, whole}
use Rattle.office_http.specs.declared.messages.commands.json.devices.DeviceBody.{DeviceBody}
use Rattle.office_http.specs.declared.messages.commands.json.devices.RegisterBody.{RegisterBody}
use Rattle.office_http.specs.declared.messages.commands.json.devices.Scale.{Scale}
use Rattle.office_http.specs.declared.messages.commands.json.devices.Scale.TheVariants.{Fixed, At}
use Rattle.office_http.specs.declared.messages.commands.json.meters.InstallBody.{InstallBody}
use Rattle.office_http.specs.declared.messages.commands.json.meters.ExchangeBody.{ExchangeBody}
use Rattle.office_http.specs.declared.messages.commands.json.meters.ResetBody.{ResetBody}
use Rattle.office_http.specs.declared.messages.commands.json.meters.RescaleBody.{RescaleBody}
use Rattle.office_http.specs.declared.messages.commands.json.readings.ManualBody.{ManualBody}
use Rattle.office_http.specs.declared.messages.commands.json.readings.CloseBody.{CloseBody}
use Rattle.office_http.specs.declared.messages.commands.json.readings.VoidBody.{VoidBody}

-- True if the parsed device has the values of the JSON object `d`.
pub record IsDevice (d : Data) (body : DeviceBody) : Type 0 where
  pub name : text (codes "name") d ≡ Some body.name.now
  pub unit : whole (codes "unit") d ≡ Some (pos body.unit)
  pub timeout : whole (codes "timeout") d ≡ Some (pos body.timeout)
  pub window : whole (codes "window") d ≡ Some (pos body.window)

-- True if the parsed scale has the value of the member `fixed` or `scale_at` of the JSON object.
abbrev pub IsScale : Data → Scale → Type 0
IsScale d (Fixed scale) = whole (codes "fixed") d ≡ Some scale
IsScale d (At address) = whole (codes "scale_at") d ≡ Some (pos address)

-- True if the parsed accounting register (a named energy counter) has the values of the JSON object
-- `d`.
pub record IsRegister (d : Data) (body : RegisterBody) : Type 0 where
  pub name : text (codes "name") d ≡ Some body.name.now
  pub device : text (codes "device") d ≡ Some body.device.now
  pub function : whole (codes "function") d ≡ Some (pos body.function)
  pub address : whole (codes "address") d ≡ Some (pos body.address)
  pub scale : IsScale d body.scale

-- True if the parsed meter installation has the values of the JSON object `d`.
pub record IsInstall (d : Data) (body : InstallBody) : Type 0 where
  pub meter : text (codes "meter") d ≡ Some body.meter.now
  pub raw : whole (codes "raw") d ≡ Some (pos body.raw)
  pub sf : whole (codes "sf") d ≡ Some body.sf
  pub ceiling : whole (codes "ceiling") d ≡ Some (pos body.ceiling)
  pub range : whole (codes "range") d ≡ option_map (λ n. pos n) body.range

-- True if the parsed replacement of a meter has the values of the JSON object `d`.
pub record IsExchange (d : Data) (body : ExchangeBody) : Type 0 where
  pub last : whole (codes "last") d ≡ Some (pos body.last)
  pub rolls : whole (codes "rolls") d ≡ Some (pos body.rolls)
  pub install : IsInstall d body.install

-- True if the parsed counter reset has the values of the JSON object `d`.
pub record IsReset (d : Data) (body : ResetBody) : Type 0 where
  pub before : whole (codes "before") d ≡ Some (pos body.before)
  pub after : whole (codes "after") d ≡ Some (pos body.after)

-- True if the parsed change of a meter's scale has the values of the JSON object `d`.
pub record IsRescale (d : Data) (body : RescaleBody) : Type 0 where
  pub before : whole (codes "before") d ≡ Some (pos body.before)
  pub after : whole (codes "after") d ≡ Some (pos body.after)
  pub sf : whole (codes "sf") d ≡ Some body.sf

-- True if the parsed reading by hand has the values of the JSON object `d`.
pub record IsManual (d : Data) (body : ManualBody) : Type 0 where
  pub raw : whole (codes "raw") d ≡ Some (pos body.raw)
  pub rolls : whole (codes "rolls") d ≡ Some (pos body.rolls)
  pub moment : whole (codes "at") d ≡ option_map (λ n. pos n) body.at

-- True if the parsed closing of a meter has the values of the JSON object `d`.
pub record IsClose (d : Data) (body : CloseBody) : Type 0 where
  pub raw : whole (codes "raw") d ≡ Some (pos body.raw)
  pub rolls : whole (codes "rolls") d ≡ Some (pos body.rolls)

-- True if the parsed command cancels the meter entry whose sequence number is in the JSON object
-- `d`.
pub record IsVoid (d : Data) (body : VoidBody) : Type 0 where
  pub place : whole (codes "place") d ≡ Some (pos body.place)
