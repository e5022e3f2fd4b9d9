-- Lemmas about a range of addresses in a table of Modbus values: cutting the range at the table's
-- end selects the same values, and writing zeros sets all values of the range to 0.
use Rattle.std.proofs.Common.{◌≡◌, ◌∙◌, ℕ, Bool, Option, Some, List, ap, sym, min, length, take, drop, replicate}
use Rattle.std.proofs.Math.Seq.{paste}
use Rattle.std.proofs.lemmas.List.{take_min, drop_min, length-replicate}
use Rattle.std.proofs.lemmas.List.Edits.{paste_all}
use Rattle.std.specs.List.{list_any}
use Rattle.mb_device.specs.Areas.{begun_from}

pub cut : (f : Option ℕ → Bool) (table : List (Option ℕ)) (start count : ℕ) → list_any f (take (min count (length (drop (min start (length table)) table))) (drop (min start (length table)) table)) ≡ list_any f (take count (drop start table))
cut f table start count = ap (list_any f) (take_min count (drop (min start (length table)) table) ∙ ap (take count) (drop_min start table))

pub pasted : (table : List (Option ℕ)) (start count : ℕ) → paste table start (replicate count (Some 0)) count ≡ begun_from table start count
pasted table start count = paste_all table start (replicate count (Some 0)) count (sym (length-replicate count (Some 0)))
