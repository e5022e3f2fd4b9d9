use Rattle.std.proofs.Common.{map}
use Rattle.office_books.specs.Facts.{polls_in}
use Rattle.sqlite_keyed.proofs.ListLemmas.{all_weaker}
use Rattle.office_store.specs.Rows.{started}
use Rattle.store_tables.specs.Polls.Trees.{polls}
use Rattle.store_tables.specs.Polls.Rows.{poll_columns, IsSoundStarted}
use Rattle.office_store.specs.Finding.Sound.{IsReadablePoll}
use Rattle.office_store.proofs.FindingLemmas.Looking.{looked_up}
use Rattle.office_store.proofs.FindingLemmas.Found.{less_reported}
use Rattle.office_store.proofs.finding.poll_rows.row_at.Goals as goal

pub returns-clause-finds : goal.returns-clause-finds
returns-clause-finds g c =
    less_reported g.S.Store c.args.conn.now c.poll_at.new.conn c.poll_at.result _ _ _
    (λ facts sound. all_weaker IsReadablePoll IsSoundStarted (λ p is. is.row) (map started (polls_in facts)) sound)
    (looked_up g.S.Store c.args.conn.now c.check_open.new.conn (record { mode = c.in_ok-check_open.ensures.autocommit; opened = c.in_ok-check_open.ensures.opened; kept = c.in_ok-check_open.ensures.kept; survives = c.in_ok-check_open.ensures.survives })
    c.poll_at.new.conn polls poll_columns IsSoundStarted c.poll_at.result _ c.poll_at.ensures.finds (λ facts. map started (polls_in facts)) (λ zone facts content are. are.polls))
