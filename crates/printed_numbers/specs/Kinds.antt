-- The kinds of numeric codes that the program prints, and the word that the program prints before a
-- code of each kind.
use Rattle.std.specs.Prelude.{ℕ, List, [], ◌∷◌, Option, codes}
use Rattle.std.specs.List.{find}
use Rattle.std.specs.Str.{bytes_eq}
use Rattle.printed_numbers.specs.declared.kind.Kind.{Kind}
use Rattle.printed_numbers.specs.declared.kind.Kind.TheVariants.{Refused, Held, Lost, Malformed, Exception, RowFault, ChainFault, HttpFault, Status}

-- The word that the program prints before a numeric code of the given kind.
abbrev pub word_of : Kind → List ℕ
word_of Refused = codes "refused"
word_of Held = codes "held"
word_of Lost = codes "lost"
word_of Malformed = codes "malformed"
word_of Exception = codes "exception"
word_of RowFault = codes "fault"
word_of ChainFault = codes "fault"
word_of HttpFault = codes "fault"
word_of Status = codes "status"

-- All kinds of printed numeric codes, in the order in which `kind_named` searches them for a word.
abbrev pub kinds : List Kind
kinds =
    Refused ∷ Held ∷ Lost ∷ Malformed ∷ Exception ∷ RowFault ∷ ChainFault ∷ HttpFault ∷ Status ∷ []

-- The first kind of printed numeric codes in `kinds` that has the given word, or None.
abbrev pub kind_named : List ℕ → Option Kind
kind_named word = find (λ kind. bytes_eq word (word_of kind)) kinds
