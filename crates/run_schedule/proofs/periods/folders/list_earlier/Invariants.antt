use Rattle.std.proofs.Common.{drop}
use Rattle.run_schedule.specs.Periods.Folders.{texts_in}
use Rattle.run_schedule.proofs.FolderLemmas.{Completes}
use Rattle.run_schedule.proofs.periods.folders.list_earlier.Given as goal

abbrev pub invariant-loop-name : goal.invariant-loop-name
invariant-loop-name l =
    Completes l.file l.length l.current (texts_in l.names) (texts_in l.texts.items) (texts_in (drop l.name-index l.names))
