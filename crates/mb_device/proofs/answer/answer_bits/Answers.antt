use Rattle.std.proofs.Common.{◌≡◌, ◌∙◌, true, map, ap, sym}
use Rattle.std.proofs.lemmas.Bool.{cond-true}
use Rattle.mb_wire.specs.Requests.{query_of}
use Rattle.mb_wire.specs.Replies.{Bits, Exception, answer_bytes}
use Rattle.mb_device.specs.Device.{is_kept_on}
use Rattle.mb_device.specs.Maps.{are_there, values_at}
use Rattle.mb_device.proofs.Gathering.{bits_are, length-values_at, slice_is, there_fits}
use Rattle.mb_device.proofs.answer.answer_bits.Goals as goal

pub returns-then-has_all-clause-written : goal.returns-then-has_all-clause-written
returns-then-has_all-clause-written c =
    let table = c.args.table.now in
    let query = query_of c.args.request.now in
    let values = values_at table c.args.address c.args.quantity in
    let there : are_there table c.args.address c.args.quantity ≡ true = sym c.has_all.ensures ∙ c.if-has_all.true in
    let fits = there_fits table c.args.address c.args.quantity there in
    let same = slice_is table c.from-first.result c.from.result c.args.address c.args.quantity c.from-first.ensures c.from.ensures in
    let bits = bits_are c.args.quantity _ _ values same (length-values_at table c.args.address c.args.quantity fits) c.pack_coils-count.ensures.written in
    c.encode_reply.ensures.written
    ∙ ap (λ bs. answer_bytes query (Bits bs)) bits
    ∙ ap (answer_bytes query) (sym (cond-true (are_there table c.args.address c.args.quantity) (Bits (map is_kept_on values)) (Exception 2) there))
