use Rattle.std.proofs.Common.{refl}
use Rattle.office_running.proofs.Going.{looked_last, looked_stand}
use Rattle.office_running.proofs.lacking.lacks_in.Goals as goal

pub loop-site-init : goal.loop-site-init
loop-site-init g c = record { stands = λ past stands. stands; lasts = record { clean = λ clean. clean; zone = refl } }

pub loop-site-preserved : goal.loop-site-preserved
loop-site-preserved g c = record {
  stands = λ past stands. looked_stand _ _ _ past c.add_of_site.ensures (c.loop-site.invariant.stands past) stands;
  lasts = looked_last _ _ _ c.add_of_site.ensures c.loop-site.invariant.lasts;
}

pub returns-clause-stands : goal.returns-clause-stands
returns-clause-stands g c = c.loop-site.invariant.stands

pub returns-clause-lasts : goal.returns-clause-lasts
returns-clause-lasts g c = c.loop-site.invariant.lasts
