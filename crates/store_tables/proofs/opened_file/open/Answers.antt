use Rattle.std.proofs.Common.{◌∙◌, not, ap}
use Rattle.sqlite.specs.Effect.{Database}
use Rattle.sqlite.specs.Held.{state}
use Rattle.store_tables.specs.declared.open_faults.OpenFault.TheVariants.{NotOurs}
use Rattle.store_tables.specs.Layouts.{names_of}
use Rattle.store_tables.proofs.Brought.{untouched}
use Rattle.store_tables.proofs.opened_file.open.Goals as goal

pub returns-in-None-clause-reported : goal.returns-in-None-clause-reported
returns-in-None-clause-reported g c clean settled is_open layout content has m marked =
    let quiet = c.is_autocommit.ensures.settled (c.is_autocommit.ensures.value ∙ ap not settled) is_open in
    absurd (c.in-None.ensures.none layout (ap names_of (c.schema.ensures.value ∙ (ap (λ (d : Database). d.schema) quiet ∙ has.schema))))

pub returns-in-None-clause-opened : goal.returns-in-None-clause-opened
returns-in-None-clause-opened g c clean layout zone content file = untouched layout zone content (state g.S.Store c.args.conn.now) NotOurs

pub returns-in-Some-clause-reported : goal.returns-in-Some-clause-reported
returns-in-Some-clause-reported g c clean settled is_open layout content has m marked = c.open_as.ensures.reported clean is_open layout content has m marked
