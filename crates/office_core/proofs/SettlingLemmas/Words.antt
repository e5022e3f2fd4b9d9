-- Lemma about a Modbus response: the register value at an index is the same in two lookups, and is
-- 0 if the response has no value at that index.
use Rattle.std.proofs.Common.{◌≡◌, ℕ, get_or, refl}
use Rattle.std.specs.Option.{unwrap_or}
use Rattle.std.proofs.lemmas.Option.{unwrap_or-slice_get}
use Rattle.mb_wire.specs.Replies.{Answer, Bits, Words, Echo, Exception, word_at}
use Rattle.poll_core.specs.Settling.{words_in}

-- If an index is past the last register value of a response, then the value at the index is 0.
pub word_or_none : (answer : Answer) (i : ℕ) → unwrap_or (word_at answer i) 0 ≡ get_or (words_in answer) i 0
word_or_none (Bits bits) i = refl
word_or_none (Words words) i = unwrap_or-slice_get words i 0
word_or_none Echo i = refl
word_or_none (Exception code) i = refl
