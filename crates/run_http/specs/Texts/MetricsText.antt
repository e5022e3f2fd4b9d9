-- The text of `/metrics`: counts, devices and open meters, in Prometheus's text format, version
-- 0.0.4. Each definition appends to a text.
use Rattle.std.specs.Prelude.{ℕ, Bool, true, false, List, [], ◌∷◌, ◌++◌, Option, Some, None, codes, decimal, slice_index}
use Rattle.run_http.specs.declared.status.status.counts.Counts.{Counts}
use Rattle.run_http.specs.declared.status.status.status.DeviceState.{DeviceState}
use Rattle.office_core.specs.declared.site.SiteRow.{SiteRow}
use Rattle.run_http.specs.Texts.EnergyLines.{with_meters}
use Rattle.run_http.specs.Texts.Families.{family_text}
use Rattle.run_http.specs.declared.texts.families.MetricKind.TheVariants.{Counter, Gauge}
use Rattle.run_http.specs.Status.Status.StatusText.{with_name}

-- The metric with the number of ended polls, by outcome.
abbrev pub with_outcomes : List ℕ → Counts → List ℕ
with_outcomes text counts =
    text
    ++ family_text (codes "sunreg_polls_total") (codes "Polls that ended, by outcome.") Counter
    ++ codes "\nsunreg_polls_total{outcome=\"answered\"} " ++ decimal counts.answered
    ++ codes "\nsunreg_polls_total{outcome=\"exception\"} " ++ decimal counts.exceptions
    ++ codes "\nsunreg_polls_total{outcome=\"silent\"} " ++ decimal counts.silent
    ++ codes "\nsunreg_polls_total{outcome=\"malformed\"} " ++ decimal counts.malformed
    ++ codes "\nsunreg_polls_total{outcome=\"lost\"} " ++ decimal counts.lost

-- The metrics with the numbers of accepted readings and of refused events.
abbrev pub with_readings : List ℕ → Counts → List ℕ
with_readings text counts =
    text ++ codes "\n"
    ++ family_text (codes "sunreg_readings_total") (codes "Readings that were accepted.") Counter
    ++ codes "\nsunreg_readings_total " ++ decimal counts.readings ++ codes "\n"
    ++ family_text (codes "sunreg_refusals_total")
    (codes "Events of devices that the office refused.") Counter
    ++ codes "\nsunreg_refusals_total " ++ decimal counts.refusals

-- The metric with the number of rejected readings, by cause.
abbrev pub with_causes : List ℕ → List ℕ → List ℕ
with_causes text held =
    text ++ codes "\n"
    ++ family_text (codes "sunreg_held_readings_total")
    (codes "Readings that were held, by cause.") Counter
    ++ codes "\nsunreg_held_readings_total{cause=\"not_accumulated\"} "
    ++ decimal (slice_index held 0)
    ++ codes "\nsunreg_held_readings_total{cause=\"scale_changed\"} "
    ++ decimal (slice_index held 1)
    ++ codes "\nsunreg_held_readings_total{cause=\"not_later\"} " ++ decimal (slice_index held 2)
    ++ codes "\nsunreg_held_readings_total{cause=\"span_too_long\"} "
    ++ decimal (slice_index held 3)
    ++ codes "\nsunreg_held_readings_total{cause=\"gap_too_long\"} " ++ decimal (slice_index held 4)
    ++ codes "\nsunreg_held_readings_total{cause=\"too_fast\"} " ++ decimal (slice_index held 5)
    ++ codes "\nsunreg_held_readings_total{cause=\"total_full\"} " ++ decimal (slice_index held 6)
    ++ codes "\nsunreg_held_readings_total{cause=\"not_below_range\"} "
    ++ decimal (slice_index held 7)

-- The value of the metric that says whether a device is connected: 1 or 0.
abbrev pub with_state : List ℕ → Bool → List ℕ
with_state text true = text ++ codes "\"} 1"
with_state text false = text ++ codes "\"} 0"

-- The metric lines that say for each device whether it is connected.
abbrev pub with_states : List ℕ → List DeviceState → List ℕ
with_states text [] = text
with_states text (device ∷ devices) =
    with_states (with_state (with_name text (codes "\nsunreg_device_connected{device=\"") device)
    device.connected) devices

-- The metric line with the time of a device's latest reading. A device without a reading has no
-- line.
abbrev pub with_moment : List ℕ → DeviceState → Option ℕ → List ℕ
with_moment text device None = text
with_moment text device (Some moment) =
    with_name text (codes "\nsunreg_last_reading_timestamp_seconds{device=\"") device
    ++ codes "\"} " ++ decimal moment

-- The metric lines with the time of each device's latest reading. A device without a reading has no
-- line.
abbrev pub with_moments : List ℕ → List DeviceState → List ℕ
with_moments text [] = text
with_moments text (device ∷ devices) = with_moments (with_moment text device device.latest) devices

-- The metrics of the devices: whether they are connected, and the times of their latest readings.
abbrev pub with_devices : List ℕ → List DeviceState → List ℕ
with_devices text devices =
    with_moments
    (with_states
    (text ++ codes "\n"
    ++ family_text (codes "sunreg_device_connected")
    (codes "Whether a round of a device goes on.") Gauge) devices
    ++ codes "\n"
    ++ family_text (codes "sunreg_last_reading_timestamp_seconds")
    (codes "When the latest reading of a device was accepted.") Gauge)
    devices
    ++ codes "\n"

-- The complete text of `/metrics`.
abbrev pub with_metrics : List ℕ → Counts → List DeviceState → List SiteRow → List ℕ
with_metrics text counts devices rows =
    with_meters
    (with_devices (with_causes (with_readings (with_outcomes text counts) counts) counts.held)
    devices)
    rows
