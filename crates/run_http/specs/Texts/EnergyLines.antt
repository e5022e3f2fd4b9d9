-- The energy of the open meters as metrics, in Prometheus's text format, version 0.0.4. Each
-- definition from `with_label` on appends to a text.
use Rattle.std.specs.Prelude.{ℕ, ◌==◌, negsuc, List, [], ◌∷◌, ◌++◌, Option, Some, None, codes, decimal, if◌then◌else◌}
use Rattle.std.specs.List.{flat_map}
use Rattle.sun_points.specs.Decimal.{magnitude_text}
use Rattle.office_events.specs.declared.questions.Installation.{Installation}
use Rattle.office_core.specs.declared.site.SiteRow.{SiteRow}
use Rattle.run_http.specs.Texts.Families.{family_text}
use Rattle.run_http.specs.declared.texts.families.MetricKind.TheVariants.{Counter, Gauge}

-- A byte of a Prometheus label's value, escaped if it is a backslash (92), a quote (34) or a line
-- feed (10).
abbrev pub label_byte : ℕ → List ℕ
label_byte byte =
    if byte == 92 then codes "\\\\"
    else if byte == 34 then codes "\\\""
    else if byte == 10 then codes "\\n"
    else byte ∷ []

-- The value of a Prometheus label, with its bytes escaped.
abbrev pub label_text : List ℕ → List ℕ
label_text value = flat_map label_byte value

-- A text with the text `before` and the value of a Prometheus label appended.
abbrev pub with_label : List ℕ → (before value : List ℕ) → List ℕ
with_label text before value = text ++ before ++ label_text value

-- The labels of a metric for one meter: meter, register and device.
abbrev pub with_labels : List ℕ → (before : List ℕ) → SiteRow → Installation → List ℕ
with_labels text before row meter =
    with_label (with_label (with_label text before meter.opening.meter)
    (codes "\",register=\"") row.register.name)
    (codes "\",device=\"") row.register.device

-- The total energy of a meter as a metric in Wh. The store has the energy in mWh, so the value has
-- three decimals.
abbrev pub with_energy : List ℕ → SiteRow → Installation → List ℕ
with_energy text row meter =
    with_labels text (codes "\nsunreg_energy_watthours_total{meter=\"") row meter
    ++ codes "\"} " ++ magnitude_text meter.total (negsuc 2)

-- The time of the last valid (not voided) entry of a meter, as a metric.
abbrev pub with_entry : List ℕ → SiteRow → Installation → List ℕ
with_entry text row meter =
    with_labels text (codes "\nsunreg_last_entry_timestamp_seconds{meter=\"") row meter
    ++ codes "\"} " ++ decimal meter.last.at

-- The energy metric of the latest meter of an accounting register (a named energy counter), if the
-- meter is open. A register without an open meter has no line.
abbrev pub with_energy_of : List ℕ → SiteRow → Option Installation → List ℕ
with_energy_of text row None = text
with_energy_of text row (Some meter) = if meter.ended then text else with_energy text row meter

-- The metric with the time of the last entry of an accounting register's
-- latest meter, if the meter is open. A register without an open meter has no line.
abbrev pub with_entry_of : List ℕ → SiteRow → Option Installation → List ℕ
with_entry_of text row None = text
with_entry_of text row (Some meter) = if meter.ended then text else with_entry text row meter

-- The metric lines with the energy of each open meter.
abbrev pub with_energies : List ℕ → List SiteRow → List ℕ
with_energies text [] = text
with_energies text (row ∷ rows) = with_energies (with_energy_of text row row.meter) rows

-- The metric lines with the time of the last entry of each open meter.
abbrev pub with_entries : List ℕ → List SiteRow → List ℕ
with_entries text [] = text
with_entries text (row ∷ rows) = with_entries (with_entry_of text row row.meter) rows

-- The two metrics of the open meters: their energy, and the time of their last entry.
abbrev pub with_meters : List ℕ → List SiteRow → List ℕ
with_meters text rows =
    with_entries
    (with_energies
    (text ++ family_text (codes "sunreg_energy_watthours_total")
    (codes "Energy of a meter that is open.") Counter) rows
    ++ codes "\n"
    ++ family_text (codes "sunreg_last_entry_timestamp_seconds")
    (codes "Moment of the last entry of a meter.") Gauge)
    rows
    ++ codes "\n"
