use Rattle.poll_core.proofs.Afterwards.{over_nobody, over_nothing}
use Rattle.poll_core.proofs.laws.over_for_good.Goals as goal

pub returns : goal.returns
returns c = record {
  nobody = λ t w es over. over_nobody t w es over.0 over.1;
  nothing = λ t w es e over. over_nothing t w es e over.0 over.1;
}
