use Rattle.std.proofs.Common.{◌+◌, refl, arith}
use Rattle.table_audit.specs.Names.{unreadable_row}
use Rattle.table_audit.proofs.NamesFound.{each_more, each_done}
use Rattle.table_audit.proofs.names.append_unreadable.Goals as goal

pub loop-index-preserved : goal.loop-index-preserved
loop-index-preserved c =
    each_more (unreadable_row c.args.table) c.args.rows.now c.loop-index.index (c.loop-index.index + 1) c.index-rows-index.result c.loop-index.found.items c.append_unreadable_row.new.found.items _
    (omega arith) c.index-rows-index.is refl c.loop-index.invariant c.in_ok-append_unreadable_row.ensures

pub returns : goal.returns
returns c = each_done (unreadable_row c.args.table) c.args.rows.now c.loop-index.index c.loop-index.found.items _ (omega arith) c.loop-index.invariant
