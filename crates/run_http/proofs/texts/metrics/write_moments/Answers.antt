use Rattle.std.proofs.Common.{refl, arith, List, ℕ}
use Rattle.run_http.specs.declared.status.status.status.DeviceState.{DeviceState}
use Rattle.run_http.specs.Texts.MetricsText as text
use Rattle.office_events.proofs.Loops.{all_on, one_on}
use Rattle.run_http.proofs.texts.metrics.write_moments.Goals as goal

pub loop-device-preserved : goal.loop-device-preserved
loop-device-preserved c =
    one_on (λ (devices : List DeviceState) (before : List ℕ). text.with_moments before devices) (λ device before. text.with_moment before device device.latest) (λ x xs t. refl) c.args.devices.now
    c.loop-device.device-index c.device-item.result c.loop-device.text.items c.write_moment.new.text.items _ c.loop-device-test.true c.device-item.is c.loop-device.invariant c.in_ok-write_moment.ensures

pub returns : goal.returns
returns c =
    all_on (λ (devices : List DeviceState) (before : List ℕ). text.with_moments before devices) (λ t. refl) c.args.devices.now c.loop-device.device-index
    c.loop-device.text.items _ (omega arith) c.loop-device.invariant
