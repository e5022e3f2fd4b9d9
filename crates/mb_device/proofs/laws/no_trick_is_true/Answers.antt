use Rattle.mb_device.proofs.Putting.{no_tricks-carried, no_tricks-going, no_tricks-sent, past-carried, past-sent}
use Rattle.mb_device.proofs.laws.no_trick_is_true.Goals as goal

pub returns-clause-sent : goal.returns-clause-sent
returns-clause-sent c = no_tricks-sent

pub returns-clause-carried : goal.returns-clause-carried
returns-clause-carried c = no_tricks-carried

pub returns-clause-going : goal.returns-clause-going
returns-clause-going c = no_tricks-going

pub returns-clause-past : goal.returns-clause-past
returns-clause-past c = past-sent

pub returns-clause-past_carried : goal.returns-clause-past_carried
returns-clause-past_carried c = past-carried
