use Rattle.std.proofs.Common.{refl, arith, List, ℕ}
use Rattle.run_http.specs.declared.status.advice.lacks.DeviceLack.{DeviceLack}
use Rattle.std.specs.Prelude.{codes}
use Rattle.run_http.specs.Status.Status.LackingText as text
use Rattle.office_events.proofs.Loops.{all_on, one_on}
use Rattle.run_http.proofs.status.status.lacking.write_more_lacks.Goals as goal

pub loop-lack-preserved : goal.loop-lack-preserved
loop-lack-preserved c =
    one_on (λ (lacks : List DeviceLack) (before : List ℕ). text.with_more_lacks before lacks) (λ lack before. text.with_lack (codes ",{\"device\":\"") before lack) (λ x xs t. refl) c.args.lacks.now
    c.loop-lack.lack-index c.lack-item.result c.loop-lack.text.items c.write_lack.new.text.items _ c.loop-lack-test.true c.lack-item.is c.loop-lack.invariant c.in_ok-write_lack.ensures

pub returns : goal.returns
returns c =
    all_on (λ (lacks : List DeviceLack) (before : List ℕ). text.with_more_lacks before lacks) (λ t. refl) c.args.lacks.now c.loop-lack.lack-index
    c.loop-lack.text.items _ (omega arith) c.loop-lack.invariant
