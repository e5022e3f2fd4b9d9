-- Lemmas: a buffer that is filled by consecutive reads has exactly the bytes that the client's
-- connection delivered in these reads.
use Rattle.std.proofs.Common.{◌≡◌, ◌∙◌, ℕ, ◌+◌, ◌≤◌, List, ◌++◌, length, take, refl, sym, ap, subst, arith}
use Rattle.std.proofs.lemmas.List.{length-take-le, take-take}
use Rattle.std.proofs.lemmas.Slice.{take-put_mid}
use Rattle.std.proofs.Math.Seq.{take-append-add}
use borrow.Rule.Slice.PartMut.{put_mid}
use Rattle.std.specs.Io.KnownBytes.{Consumes}
use Rattle.std.specs.declared.option.Option.{Option}
use Rattle.mb_wire.specs.Links.{TakeConsumes, TakesAtMost}
use Rattle.mb_wire.specs.declared.link.Took.{Took}
use Rattle.mb_wire.specs.declared.link.Took.TheVariants.{Bytes}
use Rattle.std.specs.Prelude.{Ok}

pub written : (a k n : ℕ) (xs ys : List ℕ) → a ≤ length xs → n ≤ length ys → take (a + n) (put_mid a k xs ys) ≡ take a xs ++ take n ys
written a k n xs ys inside few =
    let front : length (take a xs) ≡ a = length-take-le a xs inside in
    let le : a + n ≤ a + length ys = omega arith in
    sym (take-take (a + n) (a + length ys) (put_mid a k xs ys) le)
    ∙ ap (take (a + n)) (take-put_mid a k xs ys (a + length ys) refl inside)
    ∙ ap (λ m. take (m + n) (take a xs ++ ys)) (sym front)
    ∙ take-append-add (take a xs) ys n

-- A read that returns `n` bytes consumes the first `n` bytes of the available input `piece`.
pub took_bytes : (before after : Option (List ℕ)) (piece : List ℕ) (took : Took) (n : ℕ) → TakeConsumes before after (Ok took) piece → took ≡ Bytes n → Consumes before after (take n piece)
took_bytes before after piece took n h is = subst (λ t. TakeConsumes before after (Ok t) piece) is h

pub took_few : (piece : List ℕ) (took : Took) (n : ℕ) → TakesAtMost (Ok took) piece → took ≡ Bytes n → n ≤ length piece
took_few piece took n h is = (subst (λ t. TakesAtMost (Ok t) piece) is h).0
