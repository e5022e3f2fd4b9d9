-- The JSON of `/status`: counts and device states. Each definition appends to a text.
use Rattle.std.specs.Prelude.{ℕ, Bool, true, false, List, [], ◌∷◌, ◌++◌, Option, Some, None, codes, decimal, slice_index}
use Rattle.run_http.specs.Status.Status.LackingText.{with_lacks}
use Rattle.run_http.specs.declared.status.advice.lacks.DeviceLack.{DeviceLack}
use Rattle.run_http.specs.declared.status.status.counts.Counts.{Counts}
use Rattle.run_http.specs.declared.status.status.status.DeviceState.{DeviceState}

-- A text with the text `before` and a device's name appended. JSON need not escape names, which
-- consist of letters, digits, `_` and `-`.
abbrev pub with_name_of : List ℕ → (before : List ℕ) → Option (List ℕ) → List ℕ
with_name_of text before None = text ++ before
with_name_of text before (Some name) = text ++ before ++ name

-- A text with the text `before` and the name of a device appended.
abbrev pub with_name : List ℕ → (before : List ℕ) → DeviceState → List ℕ
with_name text before device = with_name_of text before device.name

-- The JSON member that says whether the device is connected.
abbrev pub with_connected : List ℕ → Bool → List ℕ
with_connected text true = text ++ codes "\",\"connected\":true"
with_connected text false = text ++ codes "\",\"connected\":false"

-- The JSON member for the timestamp of the device's latest accepted reading; `null` if there is
-- none.
abbrev pub with_latest : List ℕ → Option ℕ → List ℕ
with_latest text None = text ++ codes ",\"last_reading\":null"
with_latest text (Some moment) = text ++ codes ",\"last_reading\":" ++ decimal moment

-- The JSON of one device's state, which is appended after the text `before`.
abbrev pub with_device : (before : List ℕ) → List ℕ → DeviceState → List ℕ
with_device before text device =
    with_latest (with_connected (with_name text before device) device.connected) device.latest
    ++ codes "}"

-- The JSON of device states, each with a comma before it.
abbrev pub with_more_devices : List ℕ → List DeviceState → List ℕ
with_more_devices text [] = text
with_more_devices text (device ∷ devices) =
    with_more_devices (with_device (codes ",{\"name\":\"") text device) devices

-- The JSON of all device states, with commas between them.
abbrev pub with_devices : List ℕ → List DeviceState → List ℕ
with_devices text [] = text
with_devices text (device ∷ devices) =
    with_more_devices (with_device (codes "{\"name\":\"") text device) devices

-- The JSON members with the numbers of ended polls, by outcome, and the JSON member with the number
-- of accepted readings.
abbrev pub with_polls : List ℕ → Counts → List ℕ
with_polls text counts =
    text ++ codes "],\"polls\":{\"answered\":" ++ decimal counts.answered ++ codes ",\"exception\":"
    ++ decimal counts.exceptions
    ++ codes ",\"silent\":" ++ decimal counts.silent ++ codes ",\"malformed\":"
    ++ decimal counts.malformed
    ++ codes ",\"lost\":" ++ decimal counts.lost ++ codes "},\"readings\":"
    ++ decimal counts.readings

-- The JSON member that counts rejected readings by cause.
abbrev pub with_held : List ℕ → List ℕ → List ℕ
with_held text held =
    text ++ codes ",\"held\":{\"not_accumulated\":" ++ decimal (slice_index held 0)
    ++ codes ",\"scale_changed\":" ++ decimal (slice_index held 1)
    ++ codes ",\"not_later\":" ++ decimal (slice_index held 2) ++ codes ",\"span_too_long\":"
    ++ decimal (slice_index held 3)
    ++ codes ",\"gap_too_long\":" ++ decimal (slice_index held 4) ++ codes ",\"too_fast\":"
    ++ decimal (slice_index held 5)
    ++ codes ",\"total_full\":" ++ decimal (slice_index held 6) ++ codes ",\"not_below_range\":"
    ++ decimal (slice_index held 7)

-- The JSON of all device states and all counts of `/status`.
abbrev pub with_counts : List ℕ → Counts → List DeviceState → List ℕ
with_counts text counts devices =
    with_held (with_polls (with_devices (text ++ codes "{\"devices\":[") devices) counts)
    counts.held
    ++ codes "},\"refusals\":" ++ decimal counts.refusals

-- The complete JSON of `/status`.
abbrev pub with_status : List ℕ → Counts → List DeviceState → List DeviceLack → List ℕ
with_status text counts devices lacks =
    with_lacks (with_counts text counts devices) lacks ++ codes "}\n"
