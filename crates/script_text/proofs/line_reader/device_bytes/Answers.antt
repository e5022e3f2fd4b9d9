use Rattle.std.proofs.Common.{refl}
use Rattle.script_text.proofs.Pieces.{piece_said}
use Rattle.script_text.proofs.line_reader.device_bytes.Goals as goal

pub returns-in_err-bytes-clause-memory : goal.returns-in_err-bytes-clause-memory
returns-in_err-bytes-clause-memory c = λ err.
    piece_said c.args.words.now c.next_name.new.words c.next_word.new.self c.in-Some.device c.in-Some-next_word.hex.now
    c.in-Some.ensures c.in-Some-next_word.ensures c.in-Some-end_of_words.ensures (c.in_err-bytes.ensures.memory refl)
