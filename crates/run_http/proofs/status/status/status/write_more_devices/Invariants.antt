use Rattle.std.proofs.Common.{◌≡◌, drop}
use Rattle.run_http.specs.Status.Status.StatusText as text
use Rattle.run_http.proofs.status.status.status.write_more_devices.Given as goal

abbrev pub invariant-loop-device : goal.invariant-loop-device
invariant-loop-device l = text.with_more_devices l.text.items (drop l.device-index l.devices) ≡ text.with_more_devices l.initial.text.items l.devices
