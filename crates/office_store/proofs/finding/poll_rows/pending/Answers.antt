use Rattle.std.proofs.Common.{map}
use Rattle.office_books.specs.Facts.{pending_in}
use Rattle.office_store.specs.Rows.{started}
use Rattle.store_tables.specs.Polls.Rows.{poll_shown}
use Rattle.office_store.specs.Finding.Reading.{IsPollOf}
use Rattle.office_store.specs.Finding.Sound.{IsReadablePoll}
use Rattle.office_store.proofs.FindingLemmas.Found.{rows_read}
use Rattle.office_store.proofs.FindingLemmas.Facts.{pending_read, pending_sound}
use Rattle.office_store.proofs.finding.poll_rows.pending.Goals as goal

pub returns : goal.returns
returns g c =
    rows_read g.S.Store c.args.conn.now c.waiting.new.conn c.in_ok-rows.rows c.in_ok-rows.rows.items poll_shown IsPollOf IsReadablePoll (λ v. v.items) c.polls_in.result (λ facts. map started (pending_in facts)) _ _ _ _
    c.in_ok-rows.ensures c.polls_in.ensures (λ facts are. are) pending_sound (λ facts v are each. pending_read facts v.items each)
