-- Lemmas on splitting a line into words at spaces. The first word is the text before the first
-- space, and the other words are in the text after it.
use Rattle.std.proofs.Common.{◌≡◌, ◌+◌, ◌-◌, ◌<◌, ℕ, List, [], ◌∷◌, Some, None, length, take, drop, ◌==◌, arith}
use Rattle.std.specs.Prelude.{position}
use Rattle.std.specs.List.{position_or_len}
use Rattle.std.proofs.lemmas.Grind.{common_steps}
use Rattle.std.proofs.lemmas.List.Splits.{slice_split_first, slice_split_none}
use Rattle.std.proofs.lemmas.List.Sums.{fails_before_first}
use Rattle.std.proofs.lemmas.List.Sums.{prefix_len-le-length}
use Rattle.std.specs.Prelude.{not}
use Rattle.script_text.specs.LineWords.Words.{words_of}

pub words_first : (line : List ℕ) (at : ℕ) → Some at ≡ position (λ byte. byte == 32) line
    → words_of line ≡ take at line ∷ words_of (take (length line - (at + 1)) (drop (at + 1) line))
words_first line at found =
    let here : position_or_len (λ byte. byte == 32) line ≡ at = grind (arith, common_steps) in
    let inside : position_or_len (λ byte. byte == 32) line < length line = grind (arith, common_steps) in
    let split = slice_split_first (λ (byte : ℕ). byte == 32) line 0 inside in
    let rest : take (length line - (at + 1)) (drop (at + 1) line) ≡ drop (at + 1) line = grind (arith, common_steps) in
    rw (rest, ← here) split

pub words_last : (line : List ℕ) → None ≡ position (λ byte. byte == 32) line → words_of line ≡ line ∷ []
words_last line none =
    let most = prefix_len-le-length (λ (byte : ℕ). not (byte == 32)) line in
    let past : position_or_len (λ byte. byte == 32) line ≡ length line = grind (arith, common_steps) in
    slice_split_none (λ (byte : ℕ). byte == 32) line (λ k d inside. fails_before_first (λ (byte : ℕ). byte == 32) line k d (omega arith))
