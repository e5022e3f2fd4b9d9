use Rattle.std.proofs.Common.{◌≡◌, Some, false, map, take}
use Rattle.csv.specs.Records.{fields_of}
use Rattle.csv.specs.Writing.{default_writer, fields_written, has_written, text_written, writer_setup}
use Rattle.point_list.specs.RowTexts.{rows_text}
use Rattle.point_list.proofs.row_texts.text_of_rows.Given as goal

abbrev pub invariant-loop-row : goal.invariant-loop-row
invariant-loop-row l =
    (writer_setup l.writer ≡ default_writer) × (fields_written l.writer ≡ 0) × (has_written l.writer ≡ false)
    × (text_written (λ w. Some w.items) l.writer ≡ Some (rows_text (map fields_of (take l.row-index l.rows))))
