-- Defines the rows of a point list's CSV text, as the crate `csv` reads them.
use Rattle.std.specs.Prelude.{ℕ, List}
use Rattle.csv.specs.Reading.{default_config, records, strip_bom}

-- All records of a CSV text, after an optional byte order mark. A blank line is not a record.
abbrev pub csv_rows : List ℕ → List (List (List ℕ))
csv_rows bytes = records default_config (strip_bom bytes)
