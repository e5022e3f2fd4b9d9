-- An energy report that is streamed row by row as an HTTP response.
use Rattle.std.specs.Prelude.{◌≡◌, ◌<◌, ◌+◌, ◌++◌, ◌==◌, ℕ, min, if◌then◌else◌, List, [], ◌∷◌, flat_map, Option, Some, None, Result, Ok, Err}
use Rattle.office_http.specs.Messages.Sending.Replies.{text_head}
use Rattle.office_http.specs.Messages.Sending.Sending.{Outgoing, Puts}
use Rattle.office_events.specs.declared.refusals.Refusal.{Refusal}
use Rattle.interval_core.specs.Lines.{end_line}
use Rattle.office_http.specs.Messages.Replies.{refused, reply_bytes}

-- The model of a report: its response writer, and the number of rows that were written.
pub record Report : Type 0 where
  pub out : Outgoing
  pub count : ℕ

-- A count of a report's rows, which stops at 2^64 - 1.
abbrev pub counted : ℕ → ℕ
counted count = min count 18446744073709551615

-- The head of the HTTP response if no row of the report was written yet, otherwise no bytes.
abbrev pub head_before : (count : ℕ) → List ℕ
head_before count = if count == 0 then text_head else []

-- True if a line was appended to the report. If the line is the first line, then the head of the
-- response was written before it.
pub record PutsLine (line : List ℕ) (old new : Report) : Type 0 where
  pub puts : Puts old.out new.out (head_before old.count ++ line)
  pub count : new.count ≡ counted (old.count + 1)

-- The head of a report's HTTP response and the lines of the report's rows. Without rows, the text
-- is empty.
abbrev pub rows_begun : {T : Type 0} → (line : T → List ℕ) → List T → List ℕ
rows_begun line [] = []
rows_begun line (row ∷ rows) = text_head ++ flat_map line (row ∷ rows)

-- States how a report ends: with the number of its rows if the query succeeds. If the query is
-- refused before the first row, the refusal becomes the complete response. A refusal after a row
-- cuts the response off.
abbrev pub EndsReport : Report → Result (Unit {0}) Refusal → Outgoing → Option Refusal → Type 0
EndsReport report (Ok x) out cut =
    Puts report.out out (head_before report.count ++ end_line report.count) × (cut ≡ None)
EndsReport report (Err why) out cut =
    (report.count ≡ 0 → Puts report.out out (reply_bytes (refused why)) × (cut ≡ None))
    × (0 < report.count → (out ≡ report.out) × (cut ≡ Some why))
