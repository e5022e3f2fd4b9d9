use Rattle.std.proofs.Common.{◌≡◌, ◌∙◌, ◌⊎◌, ◌<◌, ap, get_or, inl, inr, rules, sym}
use Rattle.std.proofs.lemmas.Bool.{false≢true}
use Rattle.read_plan.specs.declared.run.Run.{Run}
use Rattle.mb_wire.specs.Spans.{code_of}
use Rattle.read_plan.specs.Plans.{EndsBefore}
use Rattle.read_plan.proofs.OrderLemmas.{key_cmp-less, key_of, sorted-far}
use Rattle.read_plan.proofs.order.by_end.Goals as goal

by-key : (a b : Run) → EndsBefore a b → let x = key_of (λ r. r.end) a in let y = key_of (λ r. r.end) b in (x.0 < y.0) ⊎ ((x.0 ≡ y.0) × (x.1 < y.1)) ⊎ ((x.0 ≡ y.0) × (x.1 ≡ y.1) × (x.2 < y.2))
by-key a b (inl l) = inl l
by-key a b (inr (inl h)) = inr (inl (ap code_of h.0, h.1))
by-key a b (inr (inr h)) = inr (inr (ap code_of h.0.function, h.0.area, h.1))

pub returns-clause-ordered : goal.returns-clause-ordered
returns-clause-ordered c i j d below within less =
    let xs = c.sort_by_key.new.self.items in
    let far = sorted-far (λ r. r.end) xs c.in_ok-sort_by_key.ensures.sorted (λ a r q k. search rules) i j d below within in
    let a = get_or xs j d in
    let b = get_or xs i d in
    false≢true (sym far ∙ key_cmp-less (key_of (λ r. r.end) a) (key_of (λ r. r.end) b) (by-key a b less))
