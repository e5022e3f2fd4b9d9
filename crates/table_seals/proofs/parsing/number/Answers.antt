use Rattle.std.proofs.Common.{◌≡◌, Ok}
use Rattle.std.specs.Prelude.{decimal}
use Rattle.std.proofs.lemmas.Fmt.{parse-decimal}
use Rattle.table_seals.proofs.Words.{decimal_word}
use Rattle.table_seals.proofs.parsing.number.Goals as goal

pub returns-in-Ok-clause-reads : goal.returns-in-Ok-clause-reads
returns-in-Ok-clause-reads c =
    λ n rest fits is.
    let one = c.in-Some.ensures.reads (decimal n) rest (decimal_word n fits) is in
    let parsed : c.parse.result ≡ Ok n = parse-decimal 64 n c.in-Some.word.now c.parse.result fits fits one.0 c.parse.ensures.value.0 in
    (cc, one.1)

pub returns-in-Err-clause-reads : goal.returns-in-Err-clause-reads
returns-in-Err-clause-reads c =
    λ n rest fits is.
    let one = c.in-Some.ensures.reads (decimal n) rest (decimal_word n fits) is in
    let parsed : c.parse.result ≡ Ok n = parse-decimal 64 n c.in-Some.word.now c.parse.result fits fits one.0 c.parse.ensures.value.0 in
    absurd (cc)

pub returns-in-None-clause-reads : goal.returns-in-None-clause-reads
returns-in-None-clause-reads c = λ n rest fits is. c.in-None.ensures.reads (decimal n) rest (decimal_word n fits) is
