use Rattle.std.proofs.Common.{map}
use Rattle.office_books.specs.Facts.{replies_in}
use Rattle.office_store.specs.Rows.{kept}
use Rattle.store_tables.specs.Polls.Trees.{replies}
use Rattle.store_tables.specs.Polls.Rows.{reply_columns, IsSoundKept}
use Rattle.office_store.proofs.FindingLemmas.Looking.{looked_up}
use Rattle.office_store.proofs.finding.kept.row_of.Goals as goal

pub returns : goal.returns
returns g c =
    looked_up g.S.Store c.args.conn.now c.check_open.new.conn (record { mode = c.in_ok-check_open.ensures.autocommit; opened = c.in_ok-check_open.ensures.opened; kept = c.in_ok-check_open.ensures.kept; survives = c.in_ok-check_open.ensures.survives })
    c.repeat_of.new.conn replies reply_columns IsSoundKept c.repeat_of.result _ c.repeat_of.ensures (λ facts. map kept (replies_in facts)) (λ zone facts content are. are.replies)
