use Rattle.std.proofs.Common.{sym}
use Rattle.mb_wire.proofs.Words.{length-words_of}
use Rattle.mb_wire.proofs.requests.count_words.Goals as goal

pub returns : goal.returns
returns c = sym (length-words_of c.args.bytes.now)
