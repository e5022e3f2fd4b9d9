-- Lemmas: bytes that are sent over a link (a byte connection) in several writes satisfy the
-- contract of one write of all bytes.
use Rattle.std.proofs.Common.{◌≡◌, ℕ, ◌-◌, List, ◌++◌, length, take, drop, Option, Result, Ok, Err, sym, ap, ◌∙◌, subst, arith, append_assoc, length-append}
use Rattle.std.specs.Io.KnownBytes.{Appends}
use Rattle.std.proofs.KnownBytes.{Appends-trans}
use Rattle.std.proofs.lemmas.List.{take-append-drop, take_rest}
use Rattle.mb_wire.specs.Links.{Gives, GivesPart}

-- The bytes from index `n` to the end of the list, as a slice.
abbrev pub from : ℕ → List ℕ → List ℕ
from n bytes = take (length bytes - n) (drop n bytes)

pub whole_again : (n : ℕ) (bytes : List ℕ) → take n bytes ++ from n bytes ≡ bytes
whole_again n bytes = ap (λ t. take n bytes ++ t) (take_rest bytes n) ∙ take-append-drop n bytes

-- Suppose that a link (a byte connection) accepted all bytes of `first`, and `next` was then
-- written. Both writes together satisfy the contract of one write of `first ++ next`.
pub Gives-both : {X E : Type 0} (result : Result X E) (a b c : Option (List ℕ)) (first next : List ℕ) → Appends a b first → Gives result b c next → Gives result a c (first ++ next)
Gives-both (Ok x) a b c first next given gives = Appends-trans a b c _ _ given gives
Gives-both (Err e) a b c first next given gives =
    record {
      part = first ++ gives.part;
      unsent = gives.unsent;
      left = gives.left;
      whole = ap (λ t. first ++ t) gives.whole ∙ sym (append_assoc first gives.part gives.unsent);
      given = Appends-trans a b c _ _ given gives.given;
    }

-- Suppose that a link (a byte connection) accepted the first `n` bytes of a list, and the remaining
-- bytes were then written. Both writes together satisfy the contract of one write of the list.
pub Gives-then : {X E : Type 0} (result : Result X E) (a b c : Option (List ℕ)) (bytes : List ℕ) (n : ℕ) → Appends a b (take n bytes) → Gives result b c (from n bytes) → Gives result a c bytes
Gives-then result a b c bytes n first next =
    subst (Gives result a c) (whole_again n bytes) (Gives-both result a b c (take n bytes) (from n bytes) first next)

-- If a link (a byte connection) accepted only a part of some bytes, then it accepted only a part of
-- any longer list that begins with these bytes.
pub GivesPart-before : (a b : Option (List ℕ)) (first next : List ℕ) → GivesPart a b first → GivesPart a b (first ++ next)
GivesPart-before a b first next gives =
    record {
      part = gives.part;
      unsent = gives.unsent ++ next;
      left = omega (arith, gives.left, length-append gives.unsent next);
      whole = ap (λ t. t ++ next) gives.whole ∙ append_assoc gives.part gives.unsent next;
      given = gives.given;
    }
