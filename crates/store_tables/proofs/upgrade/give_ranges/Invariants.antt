use Rattle.std.proofs.Common.{◌≡◌, take, Ok}
use Rattle.sqlite.specs.declared.error.Error.{Error}
use Rattle.sqlite.specs.Held.{state}
use Rattle.store_tables.specs.Steps.{Steps}
use Rattle.store_tables.specs.Upgrade.{GivesRanges}
use Rattle.store_tables.proofs.upgrade.give_ranges.Given as goal

abbrev pub invariant-loop-row : goal.invariant-loop-row
invariant-loop-row g l =
    (l.tx.conn.ghost_name ≡ l.fn.tx.conn.ghost_name)
    × Steps {X = Unit {0}} {E = Error} (state g.S.Store l.fn.tx.conn.now) (state g.S.Store l.tx.conn.now) (Ok tt) (GivesRanges (take l.row-index l.meters))
