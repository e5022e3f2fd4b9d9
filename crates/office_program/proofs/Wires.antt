-- Lemmas on the bytes that two consecutive calls read from a link (a connection to a device) or
-- write to the link, if one of the calls moves no byte.
use Rattle.std.proofs.Common.{◌≡◌, ℕ, List, [], ◌++◌, Option, sym, ap, ◌∙◌, append-nil, subst}
use Rattle.std.proofs.KnownBytes.{Consumes-kept, Consumes-nil}
use Rattle.std.specs.Io.KnownBytes.{Appends, Consumes, Keeps}
use Rattle.mb_wire.specs.Links.{GivesPart}
use Rattle.sun_points.specs.Writing.{GotPart}

pub appends_nothing : (a b : Option (List ℕ)) (x y : List ℕ) → Appends a b x → y ≡ [] → Appends a b (x ++ y)
appends_nothing a b x y got none = subst (Appends a b) (sym (ap (λ z. x ++ z) none ∙ append-nil x)) got

pub consumes_nothing : (a b : Option (List ℕ)) (x y : List ℕ) → Consumes a b x → y ≡ [] → Consumes a b (x ++ y)
consumes_nothing a b x y got none = subst (Consumes a b) (sym (ap (λ z. x ++ z) none ∙ append-nil x)) got

-- If a write to a link (a connection to a device) did not complete, then it wrote a part of the
-- bytes.
pub part_given : (a b : Option (List ℕ)) (bytes : List ℕ) → GivesPart a b bytes → GotPart bytes a b
part_given a b bytes gives = (gives.part, gives.unsent, gives.whole, gives.given)

-- If all bytes of a text were written, then a beginning of the text was written (`GotPart`).
pub part_of_all : (a b : Option (List ℕ)) (x : List ℕ) → Appends a b x → GotPart x a b
part_of_all a b x got = (x, [], sym (append-nil x), got)

-- If a read of a link (a connection to a device) leaves the link's remaining bytes unchanged, then
-- the read has returned no bytes.
pub kept_none : (a b : Option (List ℕ)) → Keeps a b → Consumes a b []
kept_none a b h = Consumes-kept a a b [] (Consumes-nil a) h
