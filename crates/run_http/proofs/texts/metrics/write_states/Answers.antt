use Rattle.std.proofs.Common.{refl, arith, ◌∙◌, ap, List, ℕ}
use Rattle.run_http.specs.declared.status.status.status.DeviceState.{DeviceState}
use Rattle.std.specs.Prelude.{codes}
use Rattle.run_http.specs.Status.Status.StatusText.{with_name}
use Rattle.run_http.specs.Texts.MetricsText as text
use Rattle.office_events.proofs.Loops.{all_on, one_on}
use Rattle.run_http.proofs.texts.metrics.write_states.Goals as goal

pub loop-device-preserved : goal.loop-device-preserved
loop-device-preserved c =
    one_on (λ (devices : List DeviceState) (before : List ℕ). text.with_states before devices) (λ device before. text.with_state (with_name before (codes "\nsunreg_device_connected{device=\"") device) device.connected) (λ x xs t. refl) c.args.devices.now
    c.loop-device.device-index c.device-item.result c.loop-device.text.items c.write_state.new.text.items _ c.loop-device-test.true c.device-item.is c.loop-device.invariant (c.in_ok-write_state.ensures ∙ ap (λ t. text.with_state t c.device-item.result.connected) c.in_ok-append_name.ensures)

pub returns : goal.returns
returns c =
    all_on (λ (devices : List DeviceState) (before : List ℕ). text.with_states before devices) (λ t. refl) c.args.devices.now c.loop-device.device-index
    c.loop-device.text.items _ (omega arith) c.loop-device.invariant
