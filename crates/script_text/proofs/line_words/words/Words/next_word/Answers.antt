use Rattle.std.proofs.Common.{◌≡◌, ap}
use Rattle.std.specs.Prelude.{option_copied}
use Rattle.script_text.specs.LineWords.Words.{words_left, words_of}
use Rattle.script_text.proofs.LineWordsLemmas.Breaks.{words_first, words_last}
use Rattle.script_text.proofs.line_words.words.Words.next_word.Goals as goal

pub returns-in-Some : goal.returns-in-Some
returns-in-Some c =
    let left : words_left (option_copied c.self.inside.rest) ≡ words_of c.in_ok-rest.rest.now = ap (λ rest. words_left (option_copied rest)) c.in_ok-rest.was in
    let first = words_first c.in_ok-rest.rest.now c.in-Some.at c.in-Some.ensures in
    cc

pub returns-in-None : goal.returns-in-None
returns-in-None c =
    let left : words_left (option_copied c.self.inside.rest) ≡ words_of c.in_ok-rest.rest.now = ap (λ rest. words_left (option_copied rest)) c.in_ok-rest.was in
    let last = words_last c.in_ok-rest.rest.now c.in-None.ensures in
    cc
