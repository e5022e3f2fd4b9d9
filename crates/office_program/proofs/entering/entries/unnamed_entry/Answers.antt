use Rattle.office_program.proofs.EnteringLemmas.Entries.{counter_reads, script_reads_on}
use Rattle.office_program.proofs.entering.entries.unnamed_entry.Goals as goal

pub returns-in-Some : goal.returns-in-Some
returns-in-Some c = counter_reads c.args.caller c.args.line.now c.in-Some.read c.read_entry.result c.in-Some.ensures c.read_entry.ensures

pub returns-in-None : goal.returns-in-None
returns-in-None c = script_reads_on c.args.caller c.args.line.now c.script_entry.result c.in-None.ensures c.script_entry.ensures
