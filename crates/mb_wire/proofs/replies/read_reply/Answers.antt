use Rattle.std.proofs.Common.{◌≡◌, ◌*◌, sym, ap, ◌∙◌, false}
use Rattle.std.proofs.lemmas.List.{take_rest}
use Rattle.mb_wire.specs.Requests.{query_of}
use Rattle.mb_wire.specs.Replies.{is_exception, wanted_by}
use Rattle.mb_wire.specs.declared.requests.Wanted.TheVariants.{Registers}
use Rattle.mb_wire.proofs.Answering.{registers_fit}
use Rattle.mb_wire.proofs.replies.read_reply.Goals as goal

pub returns-in-Registers-clause-answers : goal.returns-in-Registers-clause-answers
returns-in-Registers-clause-answers c =
    let pdu = c.args.pdu.now in
    let query = query_of c.args.request.now in
    let plain : is_exception query pdu ≡ false = sym c.says_exception.ensures ∙ c.if-says_exception.false in
    let wanted : wanted_by query ≡ Registers c.in-Registers.field-0 = sym c.wanted.ensures ∙ c.in-Registers.is in
    let fit = registers_fit query pdu c.in-Registers.field-0 c.requires plain wanted in
    simp (take_rest pdu 2) (wanted ∙ ap Registers (sym fit.0), fit.1 ∙ ap (λ n. 2 * n) (sym fit.0))
