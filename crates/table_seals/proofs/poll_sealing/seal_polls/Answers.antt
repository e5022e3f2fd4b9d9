use Rattle.table_seals.proofs.PollFound.{seals_found}
use Rattle.table_seals.proofs.poll_sealing.seal_polls.Goals as goal

pub returns : goal.returns
returns g c = seals_found g.S.Store c.args.conn.now c.digest_polls.new.conn c.digest_polls.result c.digest_polls.ensures.bound c.digest_polls.ensures.finds
