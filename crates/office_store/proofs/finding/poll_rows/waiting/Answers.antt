use Rattle.std.proofs.Common.{map}
use Rattle.office_books.specs.Facts.{polls_in, ended_in}
use Rattle.office_store.specs.Rows.{started, outcome_row}
use Rattle.office_store.proofs.FindingLemmas.Facts.{pending_shown}
use Rattle.office_store.proofs.FindingLemmas.Looking.{asked, not_asked}
use Rattle.office_store.proofs.finding.poll_rows.waiting.Goals as goal

pub returns-in_err-pending_rows : goal.returns-in_err-pending_rows
returns-in_err-pending_rows g c =
    not_asked g.S.Store c.args.conn.now c.check_open.new.conn (record { mode = c.in_ok-check_open.ensures.autocommit; opened = c.in_ok-check_open.ensures.opened; kept = c.in_ok-check_open.ensures.kept; survives = c.in_ok-check_open.ensures.survives })
    c.pending_rows.new.conn c.in_err-pending_rows.ensures.asks c.in_err-pending_rows.field-0.0 c.from_residual-in_err-pending_rows.result _ _
    (λ clean content has zone facts are. c.in_err-pending_rows.ensures.shows clean content has (map started (polls_in facts)) are.polls (map outcome_row (ended_in facts)) are.outcomes) c.from_residual-in_err-pending_rows.ensures.1

pub returns : goal.returns
returns g c =
    asked g.S.Store c.args.conn.now c.check_open.new.conn (record { mode = c.in_ok-check_open.ensures.autocommit; opened = c.in_ok-check_open.ensures.opened; kept = c.in_ok-check_open.ensures.kept; survives = c.in_ok-check_open.ensures.survives })
    c.pending_rows.new.conn c.in_ok-pending_rows.ensures.asks c.in_ok-pending_rows.field-0 _ _
    (λ clean content has zone facts are.
    pending_shown facts c.in_ok-pending_rows.field-0.items are.lawful
    (c.in_ok-pending_rows.ensures.shows clean content has (map started (polls_in facts)) are.polls (map outcome_row (ended_in facts)) are.outcomes))
