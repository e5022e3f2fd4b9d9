use Rattle.std.proofs.Common.{arith}
use Rattle.std.proofs.lemmas.List.{take_rest}
use Rattle.mb_wire.specs.Bytes.{AreBytes}
use Rattle.mb_wire.proofs.Asking.{faultless, registers_lawful}
use Rattle.mb_wire.proofs.request_decoder.read_registers.Goals as goal

pub returns-clause-lawful : goal.returns-clause-lawful
returns-clause-lawful c =
    let pdu = c.args.pdu.now in
    let bytes : AreBytes pdu = λ place. omega (arith, c.type_inv.pdu place) in
    simp (take_rest pdu 6) (registers_lawful pdu bytes c.requires.function (faultless pdu c.requires.fault))
