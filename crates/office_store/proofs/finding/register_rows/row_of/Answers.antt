use Rattle.office_books.specs.Facts.{registers_in}
use Rattle.sqlite_keyed.proofs.ListLemmas.{all_weaker}
use Rattle.office_store.specs.Rows.{placed, registered}
use Rattle.store_tables.specs.Devices.Trees.{registers}
use Rattle.store_tables.specs.Devices.Rows.{register_columns, IsSoundRegistered}
use Rattle.office_store.specs.Finding.Sound.{IsReadableRegister}
use Rattle.office_store.proofs.FindingLemmas.Looking.{looked_up}
use Rattle.office_store.proofs.FindingLemmas.Found.{less_reported}
use Rattle.office_store.proofs.finding.register_rows.row_of.Goals as goal

pub returns : goal.returns
returns g c =
    less_reported g.S.Store c.args.conn.now c.register_of.new.conn c.register_of.result _ _ _
    (λ facts sound. all_weaker IsReadableRegister IsSoundRegistered (λ r is. is.row) (placed registered (registers_in facts)) sound)
    (looked_up g.S.Store c.args.conn.now c.check_open.new.conn (record { mode = c.in_ok-check_open.ensures.autocommit; opened = c.in_ok-check_open.ensures.opened; kept = c.in_ok-check_open.ensures.kept; survives = c.in_ok-check_open.ensures.survives })
    c.register_of.new.conn registers register_columns IsSoundRegistered c.register_of.result _ c.register_of.ensures.finds (λ facts. placed registered (registers_in facts)) (λ zone facts content are. are.registers))
