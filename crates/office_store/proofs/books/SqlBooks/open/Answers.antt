use Rattle.std.proofs.Common.{◌∙◌}
use Rattle.office_store.proofs.Opened.{holds_again, keeps_file, was_idle}
use Rattle.office_store.proofs.books.SqlBooks.open.Goals as goal

pub returns-in-Ok-clause-again : goal.returns-in-Ok-clause-again
returns-in-Ok-clause-again g c zone facts file =
    holds_again c.opened_files_keep_theirs.ensures g.S.Store zone c.args.connection c.open.new.conn c.in-Ok.ensures.clean facts c.in-Ok.zone
    (λ trees. g.met.S.Store.settled c.open.new.conn.store trees) file (λ clean layout content. c.in-Ok.ensures.opened clean layout zone content)

pub returns-in-Err-clause-yet : goal.returns-in-Err-clause-yet
returns-in-Err-clause-yet g c zone facts file =
    keeps_file c.opened_files_keep_theirs.ensures g.S.Store zone c.args.connection c.open.new.conn c.in-Err.ensures.clean facts c.in-Err.fault
    file (λ clean layout content. c.in-Err.ensures.opened clean layout zone content)

pub invariant_of-result : goal.invariant_of-result
invariant_of-result g c = record { idle = c.in-Ok.ensures.autocommit ∙ was_idle c.args.connection.in_transaction c.in-Ok.zone _ c.in-Ok.ensures.busy }
