-- The JSON of what is missing for devices (such as a point list), in `/status`. Each definition
-- appends to a text.
use Rattle.std.specs.Prelude.{ℕ, List, [], ◌∷◌, ◌++◌, Option, Some, None, codes}
use Rattle.office_events.specs.declared.facts.Register.{Register}
use Rattle.run_http.specs.declared.status.advice.lacks.DeviceLack.{DeviceLack}
use Rattle.run_http.specs.declared.status.advice.lacks.Lack.{Lack}
use Rattle.run_http.specs.declared.status.advice.lacks.Lack.TheVariants.{NoDevice, NoList, NoRegister, NotInList, NoMeter}

-- A text with the text `before` and a name appended. Without a name, only `before` is appended.
abbrev pub with_name : (before text : List ℕ) → Option (List ℕ) → List ℕ
with_name before text None = text ++ before
with_name before text (Some name) = text ++ before ++ name

-- Appends two texts to a given text: first `before`, then the name of the device for which
-- something is missing in the store.
abbrev pub with_device : (before text : List ℕ) → DeviceLack → List ℕ
with_device before text lack = with_name before text lack.device

-- A text with the text `before`, the name of an accounting register (a named energy counter), and
-- the end of its JSON object appended.
abbrev pub with_register : (before text : List ℕ) → Register → List ℕ
with_register before text register = text ++ before ++ register.name ++ codes "\"}"

-- The JSON of one thing that is missing for a device, with the accounting register (a named energy
-- counter) that it concerns, if any.
abbrev pub with_what : (text : List ℕ) → Lack → List ℕ
with_what text NoDevice = text ++ codes "\",\"lack\":\"no_device\"}"
with_what text NoList = text ++ codes "\",\"lack\":\"no_list\"}"
with_what text NoRegister = text ++ codes "\",\"lack\":\"no_register\"}"
with_what text (NotInList register) =
    with_register (codes "\",\"lack\":\"not_in_list\",\"register\":\"") text register
with_what text (NoMeter register) =
    with_register (codes "\",\"lack\":\"no_meter\",\"register\":\"") text register

-- The JSON of a device and one thing that is missing for it, such as a point list.
abbrev pub with_lack : (before text : List ℕ) → DeviceLack → List ℕ
with_lack before text lack = with_what (with_device before text lack) lack.lack

-- The JSON of devices and what is missing for them, each with a comma before it.
abbrev pub with_more_lacks : (text : List ℕ) → List DeviceLack → List ℕ
with_more_lacks text [] = text
with_more_lacks text (lack ∷ lacks) =
    with_more_lacks (with_lack (codes ",{\"device\":\"") text lack) lacks

-- The JSON of devices and what is missing for them, with commas between them.
abbrev pub with_each : (text : List ℕ) → List DeviceLack → List ℕ
with_each text [] = text
with_each text (lack ∷ lacks) = with_more_lacks (with_lack (codes "{\"device\":\"") text lack) lacks

-- The JSON member `lacks` of `/status`: what is missing for devices in the store, such as a point
-- list.
abbrev pub with_lacks : (text : List ℕ) → List DeviceLack → List ℕ
with_lacks text lacks = with_each (text ++ codes ",\"lacks\":[") lacks ++ codes "]"
