use Rattle.std.proofs.Common.{◌≡◌, ℕ, ◌<◌, length, slice_index_or, None}
use Rattle.mb_device.specs.Areas.{first_value}
use Rattle.mb_device.proofs.bank.begin_table.Given as goal

abbrev pub invariant-loop-address : goal.invariant-loop-address
invariant-loop-address l =
    (length l.table.items ≡ l.address) × ((k : ℕ) → k < l.address → slice_index_or l.table.items k None ≡ first_value l.areas l.kind k)
