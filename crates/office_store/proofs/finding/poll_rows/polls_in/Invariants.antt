use Rattle.store_tables.specs.Polls.Rows.{poll_shown}
use Rattle.office_store.specs.Finding.Reading.{IsPollOf}
use Rattle.office_store.proofs.FindingLemmas.ReadRows.{HasReadSome}
use Rattle.office_store.proofs.finding.poll_rows.polls_in.Given as goal

abbrev pub invariant-loop-row : goal.invariant-loop-row
invariant-loop-row l = HasReadSome l.rows.items poll_shown IsPollOf l.row-index l.polls.items
