use Rattle.mb_wire.specs.Requests.{query_of}
use Rattle.mb_wire.specs.Replies.{answer_bytes, answer_of}
use Rattle.mb_wire.proofs.Answering.{spells_own, spells_reads}
use Rattle.mb_wire.proofs.Lawful.{fitting_query}
use Rattle.mb_wire.proofs.replies.encode_reply.Goals as goal

pub returns-clause-spelled : goal.returns-clause-spelled
returns-clause-spelled c =
    let query = query_of c.args.request.now in
    let answer = answer_of c.args.reply.now in
    rw c.write_reply.ensures.written
    (spells_own query answer (fitting_query c.args.request.now c.args.reply.now c.requires))

pub returns-clause-reads_back : goal.returns-clause-reads_back
returns-clause-reads_back c =
    let query = query_of c.args.request.now in
    let answer = answer_of c.args.reply.now in
    rw c.write_reply.ensures.written
    (spells_reads query (answer_bytes query answer) answer
    (spells_own query answer (fitting_query c.args.request.now c.args.reply.now c.requires)))
