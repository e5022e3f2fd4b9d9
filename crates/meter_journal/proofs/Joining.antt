-- Lemmas: merging shares (energies of single quarter hours) into interval rows one by one gives the
-- same rows as merging the complete list of shares.
use Rattle.std.proofs.Common.{◌≡◌, ℕ, zero, suc, ◌+◌, ◌<◌, ◌≤◌, ◌==◌, Bool, true, false, cond, List, [], ◌∷◌, ◌++◌, length, get_or, set, refl, sym, ap, ◌∙◌, arith, eq-eqb}
use Rattle.std.proofs.lemmas.Bool.{cond-true, cond-false, eqb-true}
use Rattle.std.proofs.lemmas.Bool.Decides.{nat_tests}
use Rattle.std.proofs.lemmas.List.Sums.{sum_by-cons}
use Rattle.energy_core.specs.declared.entries.Entry.{Entry}
use Rattle.energy_core.specs.Account.{step_to, energy_of as energy_to, AllFollow}
use Rattle.interval_core.specs.declared.shares.Share.{Share}
use Rattle.interval_core.specs.Share.{shares_of}
use Rattle.interval_core.specs.Account.{SharesAddUp, energy_of}
use Rattle.meter_journal.specs.declared.lines.Installed.{Installed}
use Rattle.meter_journal.specs.Books.{last_after, total_after, steps_after}
use Rattle.meter_journal.specs.Intervals.{joined, with_shares, rows_of_steps}
use Rattle.meter_journal.proofs.Voiding.{whole_with}
use Rattle.meter_journal.proofs.Merging.{Above, Rising}

different : (a b : ℕ) → a < b → a == b ≡ false
different a b lt = grind (arith, nat_tests, lt)

-- If a share (the energy of a quarter hour) is in the interval of the last row, then it is merged
-- into that row.
pub joined_same : (rows : List Share) (n : ℕ) (row share : Share) → length rows ≡ suc n → get_or rows n row ≡ row → row.start ≡ share.start
    → set rows n (record { start = row.start; mwh = row.mwh + share.mwh }) ≡ with_shares rows (share ∷ [])
joined_same [] n row share long is at = absurd (omega (arith, long))
joined_same (first ∷ []) zero row share long is at =
    ap (λ (r : Share). record { start = r.start; mwh = r.mwh + share.mwh } ∷ []) (sym is)
    ∙ sym (cond-true _ _ _ (eq-eqb first.start share.start (ap (λ (r : Share). r.start) is ∙ at)))
joined_same (first ∷ []) (suc n) row share long is at = absurd (omega (arith, long))
joined_same (first ∷ next ∷ rows) zero row share long is at = absurd (omega (arith, long))
joined_same (first ∷ next ∷ rows) (suc n) row share long is at =
    ap (λ rs. first ∷ rs) (joined_same (next ∷ rows) n row share (omega (arith, long)) is at)

-- If a share (the energy of a quarter hour) is not in the interval of the last row, then it becomes
-- a new row.
pub joined_other : (rows : List Share) (n : ℕ) (row share : Share) → length rows ≡ suc n → get_or rows n row ≡ row → row.start == share.start ≡ false
    → rows ++ share ∷ [] ≡ with_shares rows (share ∷ [])
joined_other [] n row share long is at = absurd (omega (arith, long))
joined_other (first ∷ []) zero row share long is at = sym (cond-false _ _ _ (ap (λ (r : Share). r.start == share.start) is ∙ at))
joined_other (first ∷ []) (suc n) row share long is at = absurd (omega (arith, long))
joined_other (first ∷ next ∷ rows) zero row share long is at = absurd (omega (arith, long))
joined_other (first ∷ next ∷ rows) (suc n) row share long is at =
    ap (λ rs. first ∷ rs) (joined_other (next ∷ rows) n row share (omega (arith, long)) is at)

pub joined_none : (rows : List Share) (share : Share) → length rows ≤ 0 → rows ++ share ∷ [] ≡ with_shares rows (share ∷ [])
joined_none [] share le = refl
joined_none (row ∷ rows) share le = absurd (omega (arith, le))

-- The interval rows that result if the shares (energies of quarter hours) of a list are merged into
-- given interval rows one by one.

abbrev pub joined_all : List Share → List Share → List Share
joined_all rows [] = rows
joined_all rows (share ∷ shares) = joined_all (with_shares rows (share ∷ [])) shares

no_shares : (rows : List Share) → with_shares rows [] ≡ rows
no_shares [] = refl
no_shares (row ∷ []) = refl
no_shares (row ∷ next ∷ rows) = ap (λ rs. row ∷ rs) (no_shares (next ∷ rows))

-- Shares (energies of quarter hours) that start after an interval row are appended to this row
-- unchanged.
after_row : (row : Share) (shares : List Share) → Above row.start shares → joined row shares ≡ row ∷ shares
after_row row [] h = refl
after_row row (share ∷ shares) h = cond-false _ _ _ (different row.start share.start h.0)

some_rows : (rows : List Share) (share : Share) → 0 < length (with_shares rows (share ∷ []))
some_rows [] share = omega arith
some_rows (row ∷ []) share = some_joined (row.start == share.start)
  where
    some_joined : (b : Bool) → 0 < length (cond b (record { start = row.start; mwh = row.mwh + share.mwh } ∷ []) (row ∷ share ∷ []))
    some_joined true = omega arith
    some_joined false = omega arith
some_rows (row ∷ next ∷ rows) share = omega arith

ahead : (row : Share) (rows shares : List Share) → 0 < length rows → with_shares (row ∷ rows) shares ≡ row ∷ with_shares rows shares
ahead row [] shares h = absurd (omega (arith, h))
ahead row (next ∷ rows) shares h = refl

same_start : (row share : Share) (shares : List Share) → row.start ≡ share.start → Above share.start shares → Above row.start shares
same_start row share [] is h = tt
same_start row share (next ∷ shares) is h = (omega (arith, is, h.0), same_start row share shares is h.1)

joined_first : (row share : Share) (shares : List Share) (b : Bool) → row.start == share.start ≡ b → Rising (share ∷ shares)
    → with_shares (cond b (record { start = row.start; mwh = row.mwh + share.mwh } ∷ []) (row ∷ share ∷ [])) shares
    ≡ cond b (record { start = row.start; mwh = row.mwh + share.mwh } ∷ shares) (row ∷ share ∷ shares)
joined_first row share shares true e rising =
    let is : row.start ≡ share.start = eqb-true row.start share.start e in
    after_row (record { start = row.start; mwh = row.mwh + share.mwh }) shares (same_start row share shares is rising.0)
joined_first row share shares false e rising = ap (λ rs. row ∷ rs) (after_row share shares rising.0)

one_by_one : (rows : List Share) (share : Share) (shares : List Share) → Rising (share ∷ shares)
    → with_shares (with_shares rows (share ∷ [])) shares ≡ with_shares rows (share ∷ shares)
one_by_one [] share shares rising = after_row share shares rising.0
one_by_one (row ∷ []) share shares rising = joined_first row share shares (row.start == share.start) refl rising
one_by_one (row ∷ next ∷ rows) share shares rising =
    ahead row (with_shares (next ∷ rows) (share ∷ [])) shares (some_rows (next ∷ rows) share)
    ∙ ap (λ rs. row ∷ rs) (one_by_one (next ∷ rows) share shares rising)

pub all_joined : (rows shares : List Share) → Rising shares → joined_all rows shares ≡ with_shares rows shares
all_joined rows [] rising = sym (no_shares rows)
all_joined rows (share ∷ shares) rising =
    all_joined (with_shares rows (share ∷ [])) shares rising.1 ∙ one_by_one rows share shares rising

-- Merging the first share of a list (of quarter-hour energies) into a row leaves the total energy
-- of the row and the list unchanged.

joined_sum : (row share : Share) (shares : List Share) (b : Bool)
    → energy_of (cond b (record { start = row.start; mwh = row.mwh + share.mwh } ∷ shares) (row ∷ share ∷ shares)) ≡ energy_of (row ∷ []) + energy_of (share ∷ shares)
joined_sum row share shares true =
    let mwh : Share → ℕ = λ r. r.mwh in
    omega (arith, sum_by-cons mwh (record { start = row.start; mwh = row.mwh + share.mwh }) shares, sum_by-cons mwh row [], sum_by-cons mwh share shares)
joined_sum row share shares false =
    let mwh : Share → ℕ = λ r. r.mwh in omega (arith, sum_by-cons mwh row (share ∷ shares), sum_by-cons mwh row [])

pub merged_sum : (rows shares : List Share) → energy_of (with_shares rows shares) ≡ energy_of rows + energy_of shares
merged_sum [] shares = omega arith
merged_sum (row ∷ []) [] = omega arith
merged_sum (row ∷ []) (share ∷ shares) = joined_sum row share shares (row.start == share.start)
merged_sum (row ∷ next ∷ rows) shares =
    let mwh : Share → ℕ = λ r. r.mwh in
    omega (arith, merged_sum (next ∷ rows) shares, sum_by-cons mwh row (with_shares (next ∷ rows) shares), sum_by-cons mwh row (next ∷ rows))

pub one_more : (rows : List Share) (share : Share) → energy_of (with_shares rows (share ∷ [])) ≡ energy_of rows + share.mwh
one_more rows share =
    let mwh : Share → ℕ = λ r. r.mwh in omega (arith, merged_sum rows (share ∷ []), sum_by-cons mwh share [])

pub first_and_rest : (share : Share) (shares : List Share) → energy_of (share ∷ shares) ≡ share.mwh + energy_of shares
first_and_rest share shares = let mwh : Share → ℕ = λ r. r.mwh in sum_by-cons mwh share shares

-- The interval rows (energies by quarter hour) of the steps between entries add up to the total
-- energy of the entries.
pub energy_is_total : SharesAddUp → (meter : Installed) (es : List Entry) → AllFollow meter.range meter.opening es
    → energy_of (rows_of_steps (steps_after meter es)) ≡ total_after meter es
energy_is_total law meter [] h = omega arith
energy_is_total law meter (e ∷ es) h =
    let step = step_to meter.range (last_after meter es) e in
    let whole : energy_of (shares_of step) ≡ energy_to meter.range (last_after meter es) e = (law step h.0.later).whole in
    omega (arith, merged_sum (rows_of_steps (steps_after meter es)) (shares_of step), whole, energy_is_total law meter es h.1, whole_with meter e es h)
