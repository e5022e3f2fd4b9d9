use Rattle.std.proofs.Common.{inr}
use Rattle.office_program.proofs.Overs.{is_broken_off, is_round}
use Rattle.office_program.proofs.Wholes.{counts_failures, reported_used}
use Rattle.office_program.proofs.round.poll_to_end.Goals as goal

pub returns-in-Ok-clause-polls : goal.returns-in-Ok-clause-polls
returns-in-Ok-clause-polls g c = λ device past begun from fed going wired is clean.
    let so = c.in-Ok.ensures.steps device past begun from fed going wired is clean in
    is_round g.B.Books.ledger device past begun _ from _ c.poll_connected.new.office so.0 c.poll_connected.new.progress so.1.0 so.1.1 so.1.2

pub returns-in-Err-clause-polls : goal.returns-in-Err-clause-polls
returns-in-Err-clause-polls g c = λ device past begun from fed going wired is clean.
    let so = c.in-Err.ensures.steps device past begun from fed going wired is (c.close.ensures.lasts.clean clean) in
    inr (is_broken_off g.B.Books.ledger device past begun _ _ from _ c.poll_connected.new.office c.close.new.office so.0 c.poll_connected.new.progress c.in-Err.fault c.close.result
    so.1.0 so.1.1 (c.close.ensures.closes device past begun so.0 so.1.0 clean))

pub returns-in-Err-clause-used : goal.returns-in-Err-clause-used
returns-in-Err-clause-used g c = λ is. c.in-Err.ensures.used (reported_used c.in-Err.fault c.close.result c.close.ensures.reported is)

pub returns-in-Err-clause-failures : goal.returns-in-Err-clause-failures
returns-in-Err-clause-failures g c = counts_failures c.in-Err.fault c.close.result _ _ c.in-Err.ensures.failures c.close.ensures.reported
