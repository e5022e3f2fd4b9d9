use Rattle.std.proofs.Common.{Some, None, Ok, Err, map, arith}
use Rattle.office_books.specs.Facts.{polls_in}
use Rattle.sqlite_keyed.proofs.ListLemmas.{all_weaker}
use Rattle.office_store.specs.Rows.{started}
use Rattle.store_tables.specs.Polls.Trees.{polls}
use Rattle.store_tables.specs.Polls.Rows.{poll_columns, IsSoundStarted}
use Rattle.office_store.specs.Finding.Sound.{IsReadablePoll}
use Rattle.office_store.proofs.FindingLemmas.Looking.{looked_up}
use Rattle.office_store.proofs.FindingLemmas.Found.{answered, become, passed_on}
use Rattle.office_store.proofs.FindingLemmas.Facts.{polls_counted}
use Rattle.office_store.proofs.finding.poll_rows.poll_count.Goals as goal

pub returns-in_err-last_poll : goal.returns-in_err-last_poll
returns-in_err-last_poll g c =
    passed_on g.S.Store c.args.conn.now c.last_poll.new.conn c.in_err-last_poll.field-0.0 c.from_residual-in_err-last_poll.result _ _ _ _
    (looked_up g.S.Store c.args.conn.now c.check_open.new.conn (record { mode = c.in_ok-check_open.ensures.autocommit; opened = c.in_ok-check_open.ensures.opened; kept = c.in_ok-check_open.ensures.kept; survives = c.in_ok-check_open.ensures.survives })
    c.last_poll.new.conn polls poll_columns IsSoundStarted (Err c.in_err-last_poll.field-0.0) _ c.in_err-last_poll.ensures.finds (λ facts. map started (polls_in facts)) (λ zone facts content are. are.polls))
    (λ facts sound. all_weaker IsReadablePoll IsSoundStarted (λ p is. is.row) (map started (polls_in facts)) sound) c.from_residual-in_err-last_poll.ensures.1

pub returns-in-None : goal.returns-in-None
returns-in-None g c =
    answered g.S.Store c.args.conn.now c.last_poll.new.conn None 0 _ _ _ _
    (become g.S.Store c.args.conn.now c.last_poll.new.conn _ None _ _ c.in-None.is
    (looked_up g.S.Store c.args.conn.now c.check_open.new.conn (record { mode = c.in_ok-check_open.ensures.autocommit; opened = c.in_ok-check_open.ensures.opened; kept = c.in_ok-check_open.ensures.kept; survives = c.in_ok-check_open.ensures.survives })
    c.last_poll.new.conn polls poll_columns IsSoundStarted (Ok c.in_ok-last_poll.field-0) _ c.in_ok-last_poll.ensures.finds (λ facts. map started (polls_in facts)) (λ zone facts content are. are.polls)))
    (λ facts h. let count = polls_counted facts None h.0 h.1 in omega (arith, count))

pub returns-in-Some : goal.returns-in-Some
returns-in-Some g c =
    answered g.S.Store c.args.conn.now c.last_poll.new.conn (Some c.in-Some.number) c.in-Some.number _ _ _ _
    (become g.S.Store c.args.conn.now c.last_poll.new.conn _ (Some c.in-Some.number) _ _ c.in-Some.is
    (looked_up g.S.Store c.args.conn.now c.check_open.new.conn (record { mode = c.in_ok-check_open.ensures.autocommit; opened = c.in_ok-check_open.ensures.opened; kept = c.in_ok-check_open.ensures.kept; survives = c.in_ok-check_open.ensures.survives })
    c.last_poll.new.conn polls poll_columns IsSoundStarted (Ok c.in_ok-last_poll.field-0) _ c.in_ok-last_poll.ensures.finds (λ facts. map started (polls_in facts)) (λ zone facts content are. are.polls)))
    (λ facts h. let count = polls_counted facts (Some c.in-Some.number) h.0 h.1 in omega (arith, count))
