use Rattle.std.proofs.Common.{◌≡◌, drop}
use Rattle.run_http.specs.Texts.MetricsText as text
use Rattle.run_http.proofs.texts.metrics.write_moments.Given as goal

abbrev pub invariant-loop-device : goal.invariant-loop-device
invariant-loop-device l = text.with_moments l.text.items (drop l.device-index l.devices) ≡ text.with_moments l.initial.text.items l.devices
