use Rattle.std.proofs.Common.{Some, None, ap, ◌∙◌}
use Rattle.office_books.specs.Plans.{read_count_of}
use Rattle.office_store.proofs.FindingLemmas.Found.{answered, become}
use Rattle.office_store.proofs.finding.point_lists.read_count.Goals as goal

pub returns-in-Some : goal.returns-in-Some
returns-in-Some g c =
    answered g.S.Store c.args.conn.now c.list.new.conn (Some c.in-Some.list) (Some c.read_count.result) _ _ _ _
    (become g.S.Store c.args.conn.now c.list.new.conn _ (Some c.in-Some.list) _ _ c.in-Some.is c.in_ok-list.ensures)
    (λ facts h. c.read_count.ensures ∙ ap read_count_of h)

pub returns-in-None : goal.returns-in-None
returns-in-None g c =
    answered g.S.Store c.args.conn.now c.list.new.conn None None _ _ _ _ (become g.S.Store c.args.conn.now c.list.new.conn _ None _ _ c.in-None.is c.in_ok-list.ensures)
    (λ facts h. ap read_count_of h)
