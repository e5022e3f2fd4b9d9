use Rattle.std.proofs.Common.{◌∙◌, Some, None}
use Rattle.sun_chain.specs.Tables.{table_of}
use Rattle.sun_chain.proofs.Finds.{scale-found}
use Rattle.sun_chain.proofs.tables.scale_name.Goals as goal

pub returns-in-None : goal.returns-in-None
returns-in-None c = scale-found c.table-entries.result.now (table_of c.args.id) c.args.name.now None c.table-entries.ensures c.in-None.ensures

pub returns-in-None-scale : goal.returns-in-None-scale
returns-in-None-scale c =
    let there = scale-found c.table-entries.result.now (table_of c.args.id) c.args.name.now (Some c.in-Some.scaled.now) c.table-entries.ensures c.in-Some.ensures in
    rw c.in-None-scale.is at there

pub returns-in-Some-scale : goal.returns-in-Some-scale
returns-in-Some-scale c =
    let there = scale-found c.table-entries.result.now (table_of c.args.id) c.args.name.now (Some c.in-Some.scaled.now) c.table-entries.ensures c.in-Some.ensures in
    c.name_at.ensures ∙ (rw c.in-Some-scale.is at there)
