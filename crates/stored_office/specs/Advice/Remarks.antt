-- Defines which lines that a round printed need an explanation, and what the explanations are. A
-- round is one poll for each read of a device's plan.
use Rattle.std.specs.Prelude.{◌≡◌, ℕ, nat_lt, Bool, true, false, List, [], ◌∷◌, Option, Some, None, codes, if◌then◌else◌}
use Rattle.std.specs.Str.{bytes_eq}
use Rattle.printed_numbers.specs.Numbers.{has_number}
use Rattle.printed_numbers.specs.declared.kind.Kind.{Kind}
use Rattle.printed_numbers.specs.declared.kind.Kind.TheVariants as kind
use Rattle.run_http.specs.Status.Advice.Sentences.{MeansAfter, with_subject}
use Rattle.script_text.specs.LineWords.Fields.{AnyName, Number, first_value, end_of_words, ◌>>=◌}
use Rattle.stored_office.specs.declared.advice.remarks.Remark.{Remark}
use Rattle.stored_office.specs.declared.advice.remarks.Remark.TheVariants.{Refused, Held}

-- The number as a numeric code of 32 bits, or None if the number is 2^32 or greater.
abbrev pub small : ℕ → Option ℕ
small number = if nat_lt number 4294967296 then Some number else None

-- The words of a line after the first word, if the first word is `wanted`. Otherwise None.
abbrev pub exactly : (wanted : List ℕ) → List (List ℕ) → Option (List (List ℕ))
exactly wanted [] = None
exactly wanted (word ∷ words) = if bytes_eq word wanted then Some words else None

-- The refusal with the numeric code N in the words `refused N`. None for other words.
abbrev pub refusal_of : (words : List (List ℕ)) → Option Remark
refusal_of words =
    exactly (codes "refused") words >>= λ rest.
    first_value Number rest >>= λ number.
    end_of_words number.1 >>= λ none.
    small number.0 >>= λ n.
    Some (Refused n)

-- The rejected reading of the meter METER, with the numeric code N, in the words `held METER RAW
-- cause N`. None for other words.
abbrev pub hold_of : (words : List (List ℕ)) → Option Remark
hold_of words =
    exactly (codes "held") words >>= λ rest.
    first_value AnyName rest >>= λ meter.
    first_value Number meter.1 >>= λ raw.
    exactly (codes "cause") raw.1 >>= λ following.
    first_value Number following >>= λ number.
    end_of_words number.1 >>= λ none.
    meter.0 >>= λ name.
    small number.0 >>= λ n.
    Some (Held name n)

abbrev pub or_hold : Option Remark → Option Remark → Option Remark
or_hold (Some remark) held = Some remark
or_hold None held = held

-- The refusal or the rejected reading in the words of a printed line. None for any other line.
abbrev pub remark_of : (words : List (List ℕ)) → Option Remark
remark_of words = or_hold (refusal_of words) (hold_of words)

-- States that a line with the meaning and the remedy of a printed numeric code is appended to a
-- text, if `known` is true (the code has a meaning). Otherwise states that nothing is appended.
abbrev pub MeansIf : (known : Bool) → (subject : Option (List ℕ)) → Kind → (before : List ℕ)
    → (number : ℕ) → (old new : List ℕ) → Type 0
MeansIf true subject k before number old new =
    MeansAfter k number before (with_subject subject old) new
MeansIf false subject k before number old new = new ≡ old

-- States that the explanation of a printed numeric code is appended to a text. If the kind `k` of
-- codes (refusals or rejected readings) has no such code, states that nothing is appended.
abbrev pub MayMean : (subject : Option (List ℕ)) → Kind → (before : List ℕ) → (number : ℕ)
    → (old new : List ℕ) → Type 0
MayMean subject k before number old new =
    MeansIf (has_number k number) subject k before number old new

-- States that the explanation of a refusal or rejected reading, if its code has an explanation, is
-- appended to a text. The explanation names the refusal's device or the reading's meter.
abbrev pub Says : (device : Option (List ℕ)) → Remark → (old new : List ℕ) → Type 0
Says device (Refused number) old new = MayMean device kind.Refused (codes ": ") number old new
Says device (Held meter number) old new =
    MayMean (Some meter) kind.Held (codes ": reading rejected: ") number old new
