-- Lemmas about adding 16-bit words at an address to the image of a device's Modbus registers.
use Rattle.std.proofs.Common.{◌≡◌, ◌+◌, ◌≤◌, ℕ, List, Some, length, ◌∙◌, sym, ap, arith}
use Rattle.std.proofs.lemmas.Grind.{common_steps}
use Rattle.std.specs.Prelude.{option_and_then}
use Rattle.sun_chain.specs.Image.{Words, add_words}
use Rattle.sunspec_text.specs.Chains.ImageLines.{Put, write_of, words_after, words_after_put}

pub all_words : (a b : Words) → ((at : ℕ) → a at ≡ b at) → a ≡ b
all_words a b same = λ i. λ at. same at i

write_inside : (word : Words) (put : Put) → put.address + length put.words ≤ 65536
    → words_after_put word put ≡ Some (add_words word put.address put.words)
write_inside word put inside = grind (arith, common_steps)

pub write_done : (word later : Words) (line : List ℕ) (put : Put) → Some put ≡ write_of line → put.address + length put.words ≤ 65536
    → ((at : ℕ) → later at ≡ add_words word put.address put.words at) → words_after word line ≡ Some later
write_done word later line put said inside same =
    ap (option_and_then (words_after_put word)) (sym said) ∙ write_inside word put inside ∙ ap Some (sym (all_words later (add_words word put.address put.words) same))
