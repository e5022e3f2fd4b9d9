-- Lemmas about bytes written in several parts to a link, the connection to a device.
use Rattle.std.proofs.Common.{ℕ, List, [], ◌++◌, Option, None, Some, Result, Ok, Err, sym, ap, ◌∙◌, append-nil, append_assoc}
use Rattle.std.proofs.KnownBytes.{Appends-trans, Appends-kept}
use Rattle.std.specs.Io.KnownBytes.{Appends, Keeps}
use Rattle.mb_wire.specs.Links.{Gives}
use Rattle.sun_points.specs.Writing.{GotPart, GotText}

pub part_after : (a b c : Option (List ℕ)) (x y : List ℕ) → Appends a b x → GotPart y b c → GotPart (x ++ y) a c
part_after a b c x y first second = (
  x ++ second.0,
  second.1,
  ap (λ (more : List ℕ). x ++ more) second.2 ∙ sym (append_assoc x second.0 second.1),
  Appends-trans a b c x second.0 first second.3,
)

-- If a link received all of `x`, and then all or a part of `y`, it received all or a part of the
-- concatenated bytes.
pub got_both : {X E : Type 0} (result : Result X E) (a b c : Option (List ℕ)) (x y : List ℕ) → Appends a b x → GotText result y b c → GotText result (x ++ y) a c
got_both (Ok done) a b c x y first second = Appends-trans a b c x y first second
got_both (Err error) a b c x y first second = part_after a b c x y first second

-- A failed write to a link to a device sends a first part of the bytes (possibly none), and any
-- other write sends all bytes.
pub got_of : {X E : Type 0} (result : Result X E) (a b : Option (List ℕ)) (bytes : List ℕ) → Gives result a b bytes → GotText result bytes a b
got_of (Ok done) a b bytes gives = gives
got_of (Err error) a b bytes gives = (gives.part, gives.unsent, gives.whole, gives.given)

pub kept_nothing : (a b : Option (List ℕ)) → Keeps a b → Appends a b []
kept_nothing None b kept = tt
kept_nothing (Some xs) None kept = absurd kept
kept_nothing (Some xs) (Some ys) kept = kept ∙ sym (append-nil xs)

-- If nothing more is written to a link to a device, then the bytes that the link received are
-- unchanged.
pub got_kept : {X E : Type 0} (result : Result X E) (a b c : Option (List ℕ)) (x : List ℕ) → Appends a b x → Keeps b c → GotText result x a c
got_kept (Ok done) a b c x got kept = Appends-kept a b c x got kept
got_kept (Err error) a b c x got kept = (x, [], sym (append-nil x), Appends-kept a b c x got kept)
