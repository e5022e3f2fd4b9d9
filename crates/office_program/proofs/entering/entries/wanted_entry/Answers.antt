use Rattle.office_program.proofs.EnteringLemmas.Entries.{command_wanted, list_wanted}
use Rattle.office_program.proofs.entering.entries.wanted_entry.Goals as goal

pub returns-in-Command : goal.returns-in-Command
returns-in-Command c =
    command_wanted c.args.caller c.args.line.now c.in-Ok.request c.in-Command.number c.in-Command.command c.args.want c.in-Command.is c.in-Ok.ensures

pub returns-in-List : goal.returns-in-List
returns-in-List c =
    list_wanted c.args.caller c.args.line.now c.in-Ok.request c.as_slice.result.now c.in-List.number c.in-List.list c.args.want c.list_entry.result c.in-List.is
    c.in-Ok.ensures c.as_slice.ensures c.list_entry.ensures
