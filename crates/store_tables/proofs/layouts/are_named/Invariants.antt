use Rattle.std.proofs.Common.{◌≡◌, take, map, length}
use Rattle.sqlite.specs.Table.{Table}
use Rattle.store_tables.proofs.layouts.are_named.Given as goal

abbrev pub invariant-loop-at : goal.invariant-loop-at
invariant-loop-at l = (length l.tables ≡ length l.names) × (take l.at (map (λ (t : Table). t.name) l.tables) ≡ take l.at (map (λ name. name.now) l.names))
