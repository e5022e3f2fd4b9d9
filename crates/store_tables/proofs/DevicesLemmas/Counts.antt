-- Proof that a query without LIMIT returns as many rows as the table has rows that pass the query's
-- test.
use Rattle.std.proofs.Common.{◌≡◌, Bool, List, length, filter, ap, ◌∙◌}
use Rattle.std.proofs.lemmas.List.{length-map}
use Rattle.std.proofs.lemmas.List.Sorted.{length_permutation}
use Rattle.sqlite.specs.Order.{Row}
use Rattle.store_tables.specs.Asking.{Shows}

pub counted : {X : Type 0} (passes : X → Bool) (Later : X → X → Type 0) (shown : X → Row) (rows : List X) (answer : List Row) → Shows passes Later shown rows answer → length answer ≡ length (filter passes rows)
counted passes Later shown rows answer h = ap length h.2 ∙ (length-map h.0 shown ∙ length_permutation _ _ h.1.all)
