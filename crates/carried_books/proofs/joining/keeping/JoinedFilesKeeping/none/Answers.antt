use Rattle.office_core.specs.DayRange.{span_of}
use Rattle.carried_books.proofs.joining.keeping.JoinedFilesKeeping.none.Goals as goal

pub returns : goal.returns
returns c = λ register. c.no_files.ensures (span_of c.args._range) register
