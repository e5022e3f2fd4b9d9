use Rattle.std.proofs.Common.{◌++◌}
use Rattle.std.specs.List.{flat_map}
use Rattle.table_seals.specs.Texts.{pending_line}
use Rattle.table_seals.proofs.FollowingPolls.{polls_first, pending_then}
use Rattle.table_seals.proofs.FollowingPolls.{same_polls}
use Rattle.table_seals.proofs.parsing.polls.Goals as goal

pub returns-in-None : goal.returns-in-None
returns-in-None c =
    λ seal rest is. c.in-None.ensures.reads seal (flat_map pending_line seal.pending ++ rest) is.fit (polls_first seal rest c.args.text.now is)

pub returns : goal.returns
returns c =
    λ seal rest is.
    let one = c.in-Some.ensures.reads seal (flat_map pending_line seal.pending ++ rest) is.fit (polls_first seal rest c.args.text.now is) in
    let two = c.in_ok-pending.ensures seal.pending rest (pending_then seal rest c.args.text.now c.in-Some.found.1.now is one.1) in
    same_polls c.in-Some.found.0.count c.in-Some.found.0.digest c.in_ok-pending.pending.items seal one.0.count one.0.digest two
