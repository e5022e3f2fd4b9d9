use Rattle.std.proofs.Common.{Some, None, sym}
use Rattle.sun_chain.proofs.Finds.{name-found}
use Rattle.sun_chain.proofs.tables.name_at.Goals as goal

pub returns-in-Some : goal.returns-in-Some
returns-in-Some c = sym (name-found c.args.entries.now c.args.offset (Some c.in-Some.entry.now) c.in-Some.ensures)

pub returns-in-None : goal.returns-in-None
returns-in-None c = sym (name-found c.args.entries.now c.args.offset None c.in-None.ensures)
