use Rattle.std.proofs.Common.{◌≡◌, ◌+◌, ◌*◌, drop, slice_index, Some, arith, sym, ap, ◌∙◌}
use Rattle.std.proofs.lemmas.List.{take_rest}
use Rattle.mb_wire.proofs.Words.{some_word, no_word}
use Rattle.mb_wire.proofs.replies.Reply.word.Goals as goal

pub returns-then-i-bytes : goal.returns-then-i-bytes
returns-then-i-bytes c = let e = some_word c.in-Words.bytes.now c.args.i (omega arith) in
    let g = rw (take_rest c.in-Words.bytes.now (2 * c.args.i)) at c.read_u16.ensures in
    let rest = drop (2 * c.args.i) c.in-Words.bytes.now in
    let number : c.read_u16.result ≡ 256 * slice_index rest 0 + slice_index rest 1 = omega arith in
    rw c.in-Words.is (ap Some number ∙ sym e)

pub returns-else-i-bytes : goal.returns-else-i-bytes
returns-else-i-bytes c = rw c.in-Words.is (sym (no_word c.in-Words.bytes.now c.args.i (omega arith)))
