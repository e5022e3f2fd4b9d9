-- Defines the result of writing a text to a writer, and the bytes that the writer received, if the
-- writer reports them.
use Rattle.std.specs.Prelude.{◌≡◌, ◌≢◌, ℕ, List, [], ◌++◌, Ok, Err, IfErr, IsOk}
use Rattle.std.specs.Io.KnownBytes.{Appends}
use Rattle.std.specs.IoError.{error_kind}
use Rattle.std.specs.declared.io.Error.{Error}
use Rattle.std.specs.declared.io.ErrorKind.TheVariants.{Interrupted}
use Rattle.std.specs.declared.option.Option.{Option}
use Rattle.std.specs.declared.result.Result.{Result}

-- True if the writer received a first part of the text, possibly none or all of it.
abbrev pub GotPart : List ℕ → Option (List ℕ) → Option (List ℕ) → Type 0
GotPart text old new = (part unwritten : List ℕ) × (text ≡ part ++ unwritten) × Appends old new part

-- States that the writer received the complete text if the result is `Ok`, and a first part of the
-- text if the result is `Err`.
abbrev pub GotText : {X E : Type 0} → Result X E → List ℕ → Option (List ℕ) → Option (List ℕ)
    → Type 0
GotText (Ok done) text old new = Appends old new text
GotText (Err error) text old new = GotPart text old new

-- The effects of writing a text. Writing an empty text always succeeds. Interrupted writes are
-- retried, so the result is never `Interrupted`.
pub record TakesText {X : Type 0} (result : Result X Error) (text : List ℕ)
    (old new : Option (List ℕ)) : Type 0 where
  pub bytes : GotText result text old new
  pub nothing : text ≡ [] → IsOk result
  pub made_again : IfErr result (λ error. error_kind error ≢ Interrupted)
