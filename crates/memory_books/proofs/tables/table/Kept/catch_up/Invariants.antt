use Rattle.std.proofs.Common.{◌≡◌, length, ◌-◌}
use Rattle.office_books.specs.Lawful.{AreLawful}
use Rattle.memory_books.specs.Tables.Growing.{HasCome, latest_first}
use Rattle.memory_books.proofs.tables.table.Kept.catch_up.Given as goal

abbrev pub invariant-loop-self : goal.invariant-loop-self
invariant-loop-self g l = record {
  come : AreLawful (latest_first l.facts) → HasCome g.T.Table.says l.fn.self l.facts → HasCome g.T.Table.says l.self l.facts;
  kind : g.T.Table.kind l.self.table ≡ g.T.Table.kind l.fn.self.table;
}

abbrev pub decreases-loop-self : goal.decreases-loop-self
decreases-loop-self g l = length l.facts - l.self.count
