-- Lemmas: the limits of one main loop iteration bound the number, the bytes and the duration of its
-- HTTP responses.
use Rattle.std.proofs.Common.{◌≡◌, ℕ, ◌+◌, ◌-◌, ◌<◌, zero, suc, Bool, true, false, List, [], ◌∷◌, length, refl, arith}
use Rattle.std.specs.Prelude.{◌==◌, ◌||◌, sum_by}
use Rattle.std.proofs.lemmas.List.Sums.{sum_by-cons}
use Rattle.run_schedule.specs.HttpClients.TurnShares.{AreFew, MayReply, left_after}

-- If earlier responses use `part` of a limit, and one response uses `one` more, then the limit
-- minus both remains.
less : (left one all part total : ℕ) → left ≡ all - part → total ≡ one + part → left - one ≡ all - total
less left one all part total same more = omega (arith, same, more)

left_requests : (replies : List (ℕ × ℕ)) → (left_after replies).requests ≡ 64 - length replies
left_requests [] = refl
left_requests (one ∷ earlier) =
    let more : length (one ∷ earlier) ≡ 1 + length earlier = omega arith in
    less (left_after earlier).requests 1 64 (length earlier) (length (one ∷ earlier)) (left_requests earlier) more

left_bytes : (replies : List (ℕ × ℕ)) → (left_after replies).bytes ≡ 262144 - sum_by (λ (reply : ℕ × ℕ). reply.0) replies
left_bytes [] = refl
left_bytes (one ∷ earlier) =
    less (left_after earlier).bytes one.0 262144 (sum_by (λ (reply : ℕ × ℕ). reply.0) earlier) (sum_by (λ (reply : ℕ × ℕ). reply.0) (one ∷ earlier))
    (left_bytes earlier) (sum_by-cons (λ (reply : ℕ × ℕ). reply.0) one earlier)

left_milliseconds : (replies : List (ℕ × ℕ)) → (left_after replies).milliseconds ≡ 20 - sum_by (λ (reply : ℕ × ℕ). reply.1) replies
left_milliseconds [] = refl
left_milliseconds (one ∷ earlier) =
    less (left_after earlier).milliseconds one.1 20 (sum_by (λ (reply : ℕ × ℕ). reply.1) earlier) (sum_by (λ (reply : ℕ × ℕ). reply.1) (one ∷ earlier))
    (left_milliseconds earlier) (sum_by-cons (λ (reply : ℕ × ℕ). reply.1) one earlier)

-- If a limit of the main loop's iteration is not used up, then the responses so far used less than
-- the limit.
below : (left all part : ℕ) → left ≡ all - part → 0 < left → part < all
below left all part same some = omega (arith, same, some)

none_of : (a b c : Bool) → (a || b || c) ≡ false → (a ≡ false) × (b ≡ false) × (c ≡ false)
none_of false false false is = (refl, refl, refl)
none_of true b c is = absurd (cc)
none_of false true c is = absurd (cc)
none_of false false true is = absurd (cc)

some_of : (n : ℕ) → (n == 0) ≡ false → 0 < n
some_of zero is = absurd (cc)
some_of (suc n) is = omega arith

pub are_few : (replies : List (ℕ × ℕ)) → MayReply replies → AreFew replies
are_few [] may = tt
are_few (one ∷ earlier) may =
    let none = none_of ((left_after earlier).requests == 0) ((left_after earlier).bytes == 0) ((left_after earlier).milliseconds == 0) may.0 in (
      below (left_after earlier).requests 64 (length earlier) (left_requests earlier) (some_of (left_after earlier).requests none.0),
      below (left_after earlier).bytes 262144 _ (left_bytes earlier) (some_of (left_after earlier).bytes none.1),
      below (left_after earlier).milliseconds 20 _ (left_milliseconds earlier) (some_of (left_after earlier).milliseconds none.2),
    )
