use Rattle.std.proofs.Common.{◌∙◌, ap, sym, ◌++◌, take, length, arith}
use Rattle.mb_wire.specs.Bytes.{AreBytes, words_of}
use Rattle.mb_wire.proofs.Words.{word_bytes-words_of}
use Rattle.mb_wire.proofs.bytes.append_words.Goals as goal

pub returns-clause-written : goal.returns-clause-written
returns-clause-written c =
    let bytes : AreBytes c.args.bytes.now = λ place. omega (arith, c.type_inv.bytes place) in
    c.append.ensures.written
    ∙ ap (λ xs. take c.args.end c.args.out.now ++ xs) (sym (word_bytes-words_of (length (words_of c.args.bytes.now)) c.args.bytes.now bytes c.requires.bytes))
