use Rattle.std.proofs.Common.{◌≡◌, true, false}
use Rattle.store_tables.proofs.Names.{apart, agree}
use Rattle.store_tables.proofs.layouts.are_named.Goals as goal

pub returns-then-ne : goal.returns-then-ne
returns-then-ne c = (
  λ none. absurd (let e : false ≡ true = none in cc),
  λ all. absurd (apart c.args.tables.now c.args.names.now c.loop-at.at c.index-tables-at.result _ c.as_slice.result.now c.as_bytes.result.now c.loop-at-test.true c.loop-at.invariant.0 c.index-tables-at.is c.as_slice.ensures c.as_bytes.ensures.value c.if-ne.ensures all),
)

pub loop-at-preserved : goal.loop-at-preserved
loop-at-preserved c = (
  c.loop-at.invariant.0,
  agree c.args.tables.now c.args.names.now c.loop-at.at c.index-tables-at.result _ c.as_slice.result.now c.as_bytes.result.now c.loop-at-test.true c.loop-at.invariant.0 c.index-tables-at.is c.as_slice.ensures c.as_bytes.ensures.value c.if-ne.ensures
      c.loop-at.invariant.1,
)
