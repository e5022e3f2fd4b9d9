use Rattle.std.proofs.Common.{◌≡◌, ◌∙◌, true, map, ap, sym}
use Rattle.std.proofs.lemmas.Bool.{cond-true}
use Rattle.mb_wire.specs.Requests.{query_of}
use Rattle.mb_wire.specs.Replies.{Words, Exception, answer_bytes}
use Rattle.mb_device.specs.Device.{kept_value}
use Rattle.mb_device.specs.Maps.{are_there, values_at}
use Rattle.mb_device.proofs.Gathering.{length-values_at, slice_is, there_fits, words_are, words_fit}
use Rattle.mb_device.proofs.answer.answer_words.Goals as goal

pub encode_reply-requires : goal.encode_reply-requires
encode_reply-requires c =
    let table = c.args.table.now in
    let there : are_there table c.args.address c.args.quantity ≡ true = sym c.has_all.ensures ∙ c.if-has_all.true in
    let fits = there_fits table c.args.address c.args.quantity there in
    let same = slice_is table c.from-first.result c.from.result c.args.address c.args.quantity c.from-first.ensures c.from.ensures in
    (c.requires.lawful, words_fit (query_of c.args.request.now) c.args.quantity _ _ (values_at table c.args.address c.args.quantity) same c.pack_words-count.ensures.written (length-values_at table c.args.address c.args.quantity fits) c.requires.wanted)

pub returns-then-has_all-clause-written : goal.returns-then-has_all-clause-written
returns-then-has_all-clause-written c =
    let table = c.args.table.now in
    let query = query_of c.args.request.now in
    let values = values_at table c.args.address c.args.quantity in
    let there : are_there table c.args.address c.args.quantity ≡ true = sym c.has_all.ensures ∙ c.if-has_all.true in
    let same = slice_is table c.from-first.result c.from.result c.args.address c.args.quantity c.from-first.ensures c.from.ensures in
    let words = words_are _ _ values same c.pack_words-count.ensures.written in
    c.encode_reply.ensures.written
    ∙ ap (λ ws. answer_bytes query (Words ws)) words
    ∙ ap (answer_bytes query) (sym (cond-true (are_there table c.args.address c.args.quantity) (Words (map kept_value values)) (Exception 2) there))
