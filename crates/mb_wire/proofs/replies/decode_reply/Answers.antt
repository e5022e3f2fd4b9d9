use Rattle.std.proofs.Common.{sym, arith}
use Rattle.mb_wire.specs.Bytes.{AreBytes}
use Rattle.mb_wire.specs.Requests.{query_of}
use Rattle.mb_wire.specs.Replies.{answer_from}
use Rattle.mb_wire.proofs.Answering.{faultless_spells, spells_cleared}
use Rattle.mb_wire.proofs.replies.decode_reply.Goals as goal

pub returns-in-None-clause-writes_back : goal.returns-in-None-clause-writes_back
returns-in-None-clause-writes_back c =
    let pdu = c.args.pdu.now in
    let query = query_of c.args.request.now in
    let bytes : AreBytes pdu = λ place. omega (arith, c.type_inv.pdu place) in
    rw c.read_reply.ensures.value (spells_cleared query pdu (answer_from query pdu) bytes (faultless_spells query pdu bytes (sym c.in-None.ensures)))
