use Rattle.store_tables.specs.Polls.Rows.{poll_shown, IsStarted, IsSoundStarted}
use Rattle.office_store.specs.Finding.Reading.{IsPollOf}
use Rattle.office_store.specs.Finding.Sound.{IsReadablePoll}
use Rattle.office_store.proofs.FindingLemmas.ReadRows.{reads_then, poll_found}
use Rattle.office_store.proofs.finding.poll_rows.poll_in.Goals as goal

pub returns : goal.returns
returns c =
    reads_then c.args.row.now poll_shown IsStarted IsPollOf IsSoundStarted IsReadablePoll c.in_ok-found.found c.poll_from.result c.in_ok-found.ensures.read
    (poll_found c.in_ok-found.found c.poll_from.result c.poll_from.ensures.numbers c.poll_from.ensures.fault)
