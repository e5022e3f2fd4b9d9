use Rattle.office_core.proofs.SettlingLemmas.Overlays.{Laws, one_fact_more}
use Rattle.office_core.proofs.settling.following.with_facts.Goals as goal

pub loop-fact-preserved : goal.loop-fact-preserved
loop-fact-preserved c =
    let laws : Laws = record {
      names = c.names_are_distinct.ensures;
      kept = c.meters_are_kept.ensures;
      accepted = c.accepted_is_entered.ensures;
      booked = c.entered_is_booked.ensures;
      go_on = c.accounts_go_on.ensures;
    } in (
      c.with_fact-following.ensures.sound,
      one_fact_more laws _ _ c.loop-fact.fact-index _ _ c.fact-item.result c.loop-fact-test.true c.fact-item.is c.loop-fact.invariant.0
          c.loop-fact.invariant.1 c.with_fact-following.ensures.with_it,
    )
