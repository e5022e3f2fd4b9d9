use Rattle.std.proofs.Common.{◌∙◌}
use Rattle.office_store.proofs.Opened.{holds_none}
use Rattle.office_store.proofs.books.SqlBooks.create.Goals as goal

pub returns-in-Ok-clause-none : goal.returns-in-Ok-clause-none
returns-in-Ok-clause-none g c =
    holds_none c.new_files_have_none.ensures g.S.Store c.args.zone.now c.args.connection c.create.new.conn c.in-Ok.zone
    (λ trees. g.met.S.Store.settled c.create.new.conn.store trees) (c.in-Ok.ensures.blank (λ is. absurd (cc))).1 c.in-Ok.ensures.does

pub invariant_of-result : goal.invariant_of-result
invariant_of-result g c = record { idle = c.in-Ok.ensures.autocommit ∙ (c.in-Ok.ensures.blank (λ is. absurd (cc))).0 }
