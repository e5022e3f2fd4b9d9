use Rattle.std.proofs.Common.{sym, arith}
use Rattle.mb_wire.specs.Bytes.{AreBytes}
use Rattle.mb_wire.specs.RequestFaults.{query_from}
use Rattle.mb_wire.proofs.Asking.{faultless, faultless_spells, spells_cleared}
use Rattle.mb_wire.proofs.request_decoder.decode_request.Goals as goal

pub returns-in-None-clause-writes_back : goal.returns-in-None-clause-writes_back
returns-in-None-clause-writes_back c =
    let pdu = c.args.pdu.now in
    let bytes : AreBytes pdu = λ place. omega (arith, c.type_inv.pdu place) in
    rw c.read_request.ensures.value (spells_cleared pdu (query_from pdu) bytes (faultless_spells pdu bytes (faultless pdu (sym c.in-None.ensures))))
