use Rattle.std.proofs.Common.{sym}
use Rattle.office_program.specs.Entering.FileLines.{seen_line}
use Rattle.script_text.specs.LineWords.Words.{words_of}
use Rattle.office_program.specs.Entering.Lines.{reporting_of}
use Rattle.office_program.proofs.EnteringLemmas.Entries.{named_reads, unnamed_reads}
use Rattle.office_program.proofs.EnteringLemmas.FileWords.{none_of, spelled_of}
use Rattle.office_program.proofs.entering.entries.entry_in.Goals as goal

pub returns-in-Some : goal.returns-in-Some
returns-in-Some g c =
    named_reads (reporting_of g.F.NamedFiles c.args.files.now) c.args.caller c.args.line.now (seen_line c.in-Some.named) c.file_entry.result
    (spelled_of (words_of c.args.line.now) (seen_line c.in-Some.named) (sym c.in-Some.ensures)) c.file_entry.ensures

pub returns-in-None : goal.returns-in-None
returns-in-None g c =
    unnamed_reads (reporting_of g.F.NamedFiles c.args.files.now) c.args.caller c.args.line.now c.unnamed_entry.result
    (none_of (words_of c.args.line.now) c.in-None.ensures) c.unnamed_entry.ensures
