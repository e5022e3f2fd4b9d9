use Rattle.std.proofs.Common.{◌≡◌, ◌++◌, take}
use Rattle.std.specs.List.{flat_map}
use Rattle.table_seals.specs.Texts.{month_line_of}
use Rattle.table_seals.proofs.texts.write_months.Given as goal

abbrev pub invariant-loop-month : goal.invariant-loop-month
invariant-loop-month l = l.text.items ≡ l.initial.text.items ++ flat_map (month_line_of l.meter) (take l.month-index l.months)
