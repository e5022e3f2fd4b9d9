use Rattle.std.proofs.Common.{rules}
use Rattle.carried_books.proofs.CarryingLemmas.Sorting.{in_order}
use Rattle.carried_books.proofs.carrying.openings.in_order.Goals as goal

pub returns-clause-ordered : goal.returns-clause-ordered
returns-clause-ordered c i j d below within =
    in_order c.sort_by_key.new.self.items c.in_ok-sort_by_key.ensures.sorted (λ a r q k. search rules) i j d below within
