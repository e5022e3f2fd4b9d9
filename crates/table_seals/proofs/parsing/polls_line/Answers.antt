use Rattle.std.proofs.Common.{◌∙◌}
use Rattle.table_seals.proofs.FollowingPolls.{polls_opened}
use Rattle.table_seals.proofs.parsing.polls_line.Goals as goal

pub returns-in-None-clause-reads : goal.returns-in-None-clause-reads
returns-in-None-clause-reads c = λ seal rest fit is. c.in-None.ensures.reads seal.count _ fit.count_fits (is ∙ polls_opened seal rest)

pub returns-in-None-digest-clause-reads : goal.returns-in-None-digest-clause-reads
returns-in-None-digest-clause-reads c =
    λ seal rest fit is.
    let one = c.in-Some.ensures.reads seal.count _ fit.count_fits (is ∙ polls_opened seal rest) in
    c.in-None-digest.ensures.reads seal.digest _ fit.digest_long fit.digest_bytes one.1

pub returns-clause-reads : goal.returns-clause-reads
returns-clause-reads c =
    λ seal rest fit is.
    let one = c.in-Some.ensures.reads seal.count _ fit.count_fits (is ∙ polls_opened seal rest) in
    let two = c.in-Some-digest.ensures.reads seal.digest _ fit.digest_long fit.digest_bytes one.1 in
    (record { count = one.0; digest = two.0 }, two.1)
