use Rattle.std.proofs.Common.{◌≡◌, Ok, length}
use Rattle.hex.specs.Hex.{encode_lower, decode_sized}
use Rattle.table_seals.proofs.Words.{hex_word, decoded}
use Rattle.table_seals.proofs.parsing.digest.Goals as goal

pub returns-in-Ok-clause-reads : goal.returns-in-Ok-clause-reads
returns-in-Ok-clause-reads c =
    λ all rest long bytes is.
    let one = c.in-Some.ensures.reads (encode_lower all) rest (hex_word all bytes) is in
    let read : decode_sized c.in-Some.word.now (length c.args.bytes.now) ≡ Ok all = decoded c.in-Some.word.now all (length c.args.bytes.now) one.0 c.requires.long long bytes in
    let reported = rw read at c.decode_to_slice.ensures.value in
    (reported.1, one.1)

pub returns-in-Err-clause-reads : goal.returns-in-Err-clause-reads
returns-in-Err-clause-reads c =
    λ all rest long bytes is.
    let one = c.in-Some.ensures.reads (encode_lower all) rest (hex_word all bytes) is in
    let read : decode_sized c.in-Some.word.now (length c.args.bytes.now) ≡ Ok all = decoded c.in-Some.word.now all (length c.args.bytes.now) one.0 c.requires.long long bytes in
    let reported = rw read at c.decode_to_slice.ensures.value in
    let done : c.decode_to_slice.result ≡ Ok tt = reported.0 in
    absurd (cc)

pub returns-in-None-clause-reads : goal.returns-in-None-clause-reads
returns-in-None-clause-reads c =
    λ all rest long bytes is. c.in-None.ensures.reads (encode_lower all) rest (hex_word all bytes) is
