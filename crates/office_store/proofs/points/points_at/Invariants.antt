use Rattle.std.proofs.Common.{◌≡◌, ℕ, List, map, take}
use Rattle.std.specs.List.{All}
use Rattle.store_tables.specs.Devices.Rows.{IsSoundPoint, listed_at}
use Rattle.office_store.specs.Rows.{placed_on, listed}
use Rattle.office_store.proofs.points.points_at.Given as goal

abbrev pub invariant-loop-index : goal.invariant-loop-index
invariant-loop-index l = record {
  listed : (device : List ℕ) → map (listed_at device) l.rows.items ≡ placed_on (listed device) 0 (take l.index l.points);
  sound : All (λ p. IsSoundPoint p.row) l.rows.items;
}
