-- The JSON body of the response to a faulty point list. A point list is CSV text that lists the
-- Modbus registers of a device that the program polls.
use Rattle.std.specs.Prelude.{ℕ, List, [], ◌∷◌, ◌++◌, codes, decimal}
use Rattle.point_list.specs.declared.fault.FaultyRow.{FaultyRow}
use Rattle.point_list.specs.Faults.{fault_number}

-- The JSON of a faulty row: the row's number in the point list, and the numeric code of its fault.
abbrev pub row_text : FaultyRow → List ℕ
row_text faulty =
    codes "[" ++ decimal faulty.row ++ codes "," ++ decimal (fault_number faulty.fault) ++ codes "]"

-- The JSON of the faulty rows of a point list, each as `[ROW,FAULT]` with a comma before it.
abbrev pub more_rows : List FaultyRow → List ℕ
more_rows [] = []
more_rows (faulty ∷ rows) = codes "," ++ row_text faulty ++ more_rows rows

-- The JSON of faulty rows, with commas between them.
abbrev pub rows_text : List FaultyRow → List ℕ
rows_text [] = []
rows_text (faulty ∷ rows) = row_text faulty ++ more_rows rows

-- The body of the response to a point list with faulty rows.
abbrev pub faults_text : List FaultyRow → List ℕ
faults_text rows = codes "{\"faults\":[" ++ rows_text rows ++ codes "]}"
