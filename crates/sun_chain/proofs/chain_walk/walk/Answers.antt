use Rattle.std.proofs.Common.{◌<◌, ◌∙◌, length, arith}
use Rattle.std.proofs.lemmas.Result.{err_from_is_err_and}
use Rattle.sun_chain.proofs.Chains.{fails_after, follow_inside, lawful_more}
use Rattle.sun_chain.proofs.chain_walk.walk.Goals as goal

pub returns-in_err-model-clause-fails : goal.returns-in_err-model-clause-fails
returns-in_err-model-clause-fails c =
    let p = err_from_is_err_and c.from_residual.result c.from_residual.ensures.1 in
    rw (p.1, p.2) (fails_after _ _ _ _ _ _ c.loop-models.invariant (c.len.ensures ∙ c.loop-models.models.ok.0) c.in_err-model.ensures.lack)

pub loop-models-preserved : goal.loop-models-preserved
loop-models-preserved c =
    let found = rw c.in-Some-2.is at c.in_ok-model.ensures.stands in
    let pushed = rw (c.is_err.ensures.negation, c.if-is_err.false) at c.push.ensures.items in
    let few : length c.loop-models.models.items < 64 = omega (arith, found.2, c.len.ensures, c.loop-models.models.ok.0) in
    rw (pushed, c.next-address.ensures) (lawful_more _ _ _ _ _ c.loop-models.invariant found.0 found.1 few)

pub invariant_of-result : goal.invariant_of-result
invariant_of-result c = record { few = c.loop-models.invariant.few; inside = follow_inside _ _ _ _ c.loop-models.invariant.follow }
