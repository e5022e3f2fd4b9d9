-- Lemmas on the result (a value or an error) of creating a store in a database.
use Rattle.std.proofs.Common.{◌≡◌, Result, Ok, Err, ap}

-- The result of creating a store can't be both a value and an error.
pub not_both : {Z E : Type 0} (zone : Z) (fault : E) → Ok zone ≡ Err fault → ⊥
not_both zone fault both = cc

-- If two errors are equal as error results of one type (`Result Z E`), then they are also equal as
-- error results with another value type (`Result Y E`).
pub same_fault : {Z Y E : Type 0} (reported meant : E) → (let r : Result Z E = Err reported in r) ≡ Err meant
    → (let r : Result Y E = Err reported in r) ≡ Err meant
same_fault {Y = Y} {E = E} reported meant same =
    let is : reported ≡ meant = cc in
    ap (λ e. let r : Result Y E = Err e in r) is
