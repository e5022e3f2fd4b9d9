-- The JSON of `/site`: the accounting registers (named energy counters) and their meters. Each
-- definition appends to a text.
use Rattle.std.specs.Prelude.{ℕ, List, [], ◌∷◌, ◌++◌, Option, Some, None, codes, decimal}
use Rattle.std.specs.Fmt.{signed_decimal}
use Rattle.office_events.specs.declared.questions.Installation.{Installation}
use Rattle.office_core.specs.declared.site.SiteRow.{SiteRow}
use Rattle.office_http.specs.Messages.Rows.{bool_text}
use Rattle.run_http.specs.declared.texts.site.SiteLine.{SiteLine}

-- The last valid (not voided) entry of a meter, as JSON members.
abbrev pub with_last : List ℕ → Installation → List ℕ
with_last text row =
    text ++ codes "\",\"at\":" ++ decimal row.last.at ++ codes ",\"last\":" ++ decimal row.last.raw
    ++ codes ",\"sf\":" ++ signed_decimal row.last.sf

-- The JSON member with the part of a meter's energy that earlier database files of the store
-- recorded, in mWh, as a string of digits. The member is missing if the earlier files do not have
-- the meter.
abbrev pub with_earlier : List ℕ → Option ℕ → List ℕ
with_earlier text None = text
with_earlier text (Some mwh) = text ++ codes "\",\"earlier\":\"" ++ decimal mwh

-- The total energy of a meter in mWh, as a string of digits, and whether the meter was closed.
abbrev pub with_total : List ℕ → Installation → (earlier : Option ℕ) → List ℕ
with_total text row earlier =
    with_earlier (text ++ codes ",\"total\":\"" ++ decimal row.total) earlier
    ++ codes "\",\"ended\":" ++ bool_text row.ended

-- The latest meter of an accounting register (a named energy counter) as JSON, or `null` if there
-- is none. Names consist of letters, digits, `_` and `-`, so JSON need not escape them.
abbrev pub with_meter : List ℕ → Option Installation → (earlier : Option ℕ) → List ℕ
with_meter text None earlier = text ++ codes "\",\"meter\":null"
with_meter text (Some row) earlier =
    with_total (with_last (text ++ codes "\",\"meter\":\"" ++ row.opening.meter) row) row earlier

-- The device and the name of an accounting register (a named energy counter), as JSON members.
abbrev pub with_register : (before : List ℕ) → List ℕ → SiteRow → List ℕ
with_register before text row =
    text ++ before ++ row.register.device
    ++ codes "\",\"register\":\"" ++ row.register.name

-- An accounting register (a named energy counter) with its latest meter, as JSON.
abbrev pub with_line : (before : List ℕ) → List ℕ → SiteLine → List ℕ
with_line before text line =
    with_meter (with_register before text line.row) line.row.meter line.earlier ++ codes "}"

-- Accounting registers as JSON, each with a comma before it.
abbrev pub with_more_lines : List ℕ → List SiteLine → List ℕ
with_more_lines text [] = text
with_more_lines text (line ∷ lines) =
    with_more_lines (with_line (codes ",{\"device\":\"") text line) lines

-- All accounting registers (named energy counters) as JSON, with commas between them.
abbrev pub with_lines : List ℕ → List SiteLine → List ℕ
with_lines text [] = text
with_lines text (line ∷ lines) =
    with_more_lines (with_line (codes "{\"device\":\"") text line) lines

-- The complete JSON of `/site`: the time of the query, and the accounting registers (named energy
-- counters) with their latest meters.
abbrev pub with_site : List ℕ → (at : ℕ) → List SiteLine → List ℕ
with_site text at lines =
    with_lines (text ++ codes "{\"at\":" ++ decimal at ++ codes ",\"registers\":[") lines
    ++ codes "]}\n"
