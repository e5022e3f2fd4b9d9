use Rattle.std.proofs.Common.{refl, ◌∙◌}
use Rattle.memory_books.proofs.TablesLemmas.Coming.{come_on}
use Rattle.memory_books.proofs.tables.table.Kept.catch_up.Goals as goal

pub loop-self-preserved : goal.loop-self-preserved
loop-self-preserved g c = record {
  come = λ lawful come.
      come_on g.T.Table.says c.loop-self.self _ c.args.facts.now c.index-facts-self.result lawful (c.loop-self.invariant.come lawful come)
      c.loop-self-test.true c.index-facts-self.is refl c.in_ok-apply_record.ensures.ok;
  kind = c.in_ok-apply_record.ensures.kind ∙ c.loop-self.invariant.kind;
}
