-- Lemmas: the recorded energy before the start of a quarter hour is bounded by the true energies of
-- a true run (the true counts of an honest meter over time).
use Rattle.std.proofs.Common.{◌≡◌, ℕ, ℤ, ◌+◌, ◌-◌, ◌*◌, ◌%◌, ◌<◌, ◌≤◌, ◌==◌, nat_lt, nat_le, Bool, true, false, cond, if◌then◌else◌, List, [], ◌∷◌, refl, sym, ap, ◌∙◌, inl, inr, arith}
use Rattle.std.proofs.Math.Nat.{add-mul}
use Rattle.std.proofs.lemmas.Bool.{cases_Bool, cond-true, cond-false, eqb-true}
use Rattle.std.proofs.lemmas.Bool.Decides.{nat_tests}
use Rattle.std.proofs.lemmas.List.Sums.{sum_by-cons}
use Rattle.energy_core.specs.declared.entries.Step.{Step}
use Rattle.energy_core.specs.Value.{unit_of}
use Rattle.energy_core.specs.TrueRun.{Item, newest, advance, true_steps, IsTrueRun}
use Rattle.interval_core.specs.declared.shares.Share.{Share}
use Rattle.interval_core.specs.Share.{shares_of}
use Rattle.interval_core.specs.Account.{Touches, SharesAddUp, energy_of}
use Rattle.meter_journal.specs.Intervals.{with_shares, rows_of_steps, energy_before}
use Rattle.meter_journal.specs.Truth.{advance_to, advance_past}
use Rattle.meter_journal.proofs.Merging.{Among, contains_of}

joined_before : (bound : ℕ) (row share : Share) (shares : List Share) (b : Bool) → row.start == share.start ≡ b
    → energy_before bound (cond b (record { start = row.start; mwh = row.mwh + share.mwh } ∷ shares) (row ∷ share ∷ shares))
    ≡ energy_before bound (row ∷ []) + energy_before bound (share ∷ shares)
joined_before bound row share shares true e =
    let is : row.start ≡ share.start = eqb-true row.start share.start e in
    let same : nat_lt share.start bound ≡ nat_lt row.start bound = ap (λ n. nat_lt n bound) (sym is) in
    rw same (elim (cases_Bool (nat_lt row.start bound)) [
      | inl lt ↦ rw lt (omega arith)
      | inr ge ↦ rw ge (omega arith)
    ])
joined_before bound row share shares false e = omega arith

-- Suppose that shares (energies of quarter hours) are merged into interval rows. The energy of the
-- result before any time `bound` is the sum of the energies of the rows and shares before this
-- time.
pub merged_before : (bound : ℕ) (rows shares : List Share)
    → energy_before bound (with_shares rows shares) ≡ energy_before bound rows + energy_before bound shares
merged_before bound [] shares = omega arith
merged_before bound (row ∷ []) [] = omega arith
merged_before bound (row ∷ []) (share ∷ shares) = joined_before bound row share shares (row.start == share.start) refl
merged_before bound (row ∷ next ∷ rows) shares = omega (arith, merged_before bound (next ∷ rows) shares)

part : (b : Bool) (n : ℕ) → cond b n 0 ≤ n
part true n = omega arith
part false n = omega arith

before_most : (bound : ℕ) (rows : List Share) → energy_before bound rows ≤ energy_of rows
before_most bound [] = omega arith
before_most bound (row ∷ rows) =
    omega (arith, part (nat_lt row.start bound) row.mwh, before_most bound rows, sum_by-cons (λ (r : Share). r.mwh) row rows)

before_all : (bound : ℕ) (rows : List Share) → ((s : ℕ) → Among s rows → s < bound) → energy_before bound rows ≡ energy_of rows
before_all bound [] h = refl
before_all bound (row ∷ rows) h =
    let lt : row.start < bound = h row.start (inl refl) in
    let e : nat_lt row.start bound ≡ true = grind (arith, nat_tests, lt) in
    let first : (if nat_lt row.start bound then row.mwh else 0) ≡ row.mwh = cond-true _ _ _ e in
    omega (arith, first, before_all bound rows (λ s there. h s (inr there)), sum_by-cons (λ (r : Share). r.mwh) row rows)

before_none : (bound : ℕ) (rows : List Share) → ((s : ℕ) → Among s rows → bound ≤ s) → energy_before bound rows ≡ 0
before_none bound [] h = refl
before_none bound (row ∷ rows) h =
    let ge : bound ≤ row.start = h row.start (inl refl) in
    let e : nat_lt row.start bound ≡ false = grind (arith, nat_tests, ge) in
    let first : (if nat_lt row.start bound then row.mwh else 0) ≡ 0 = cond-false _ _ _ e in
    omega (arith, first, before_none bound rows (λ s there. h s (inr there)))

touched_among : SharesAddUp → (step : Step) → step.from < step.till → (s : ℕ) → Among s (shares_of step) → Touches step s
touched_among law step h s there = ((law step h).touched s).0 (contains_of s (shares_of step) there)

abbrev share_before : ℕ → Step → ℕ
share_before bound step = energy_before bound (shares_of step)

whole_before : SharesAddUp → (bound : ℕ) (step : Step) → step.from < step.till → step.till ≤ bound → share_before bound step ≡ step.mwh
whole_before law bound step h le =
    before_all bound (shares_of step) (λ s there. let touches = touched_among law step h s there in omega (arith, touches.1, le)) ∙ (law step h).whole

none_before : SharesAddUp → (bound : ℕ) (step : Step) → step.from < step.till → bound % 900 ≡ 0 → bound ≤ step.from → share_before bound step ≡ 0
none_before law bound step h whole le =
    before_none bound (shares_of step) (λ s there. let touches = touched_among law step h s there in omega (arith, touches.0, touches.2, le, whole))

most_before : SharesAddUp → (bound : ℕ) (step : Step) → step.from < step.till → share_before bound step ≤ step.mwh
most_before law bound step h = omega (arith, before_most bound (shares_of step), (law step h).whole)

-- In a true run, which lists the true counts of a meter over time, the latest count is never less
-- than the first count.
later : (ceiling : ℕ) (sf : ℤ) (first : Item) (items : List Item) → IsTrueRun ceiling sf first items → first.count ≤ (newest first items).count
later ceiling sf first [] h = omega arith
later ceiling sf first (b ∷ items) h = omega (arith, h.1, later ceiling sf first items h.3)

advance_on : (u first a b : ℕ) → first ≤ a → a ≤ b → (a - first) * u + (b - a) * u ≡ (b - first) * u
advance_on u first a b p q =
    let s : (a - first) + (b - a) ≡ b - first = omega arith in
    let d : ((a - first) + (b - a)) * u ≡ (a - first) * u + (b - a) * u = add-mul (a - first) (b - a) u in
    sym d ∙ ap (λ n. n * u) s

abbrev rows_before : ℕ → ℤ → Item → List Item → ℕ
rows_before bound sf first items = energy_before bound (rows_of_steps (true_steps sf first items))

none_counted : (u n : ℕ) → (n - n) * u ≡ 0
none_counted u n = let z : n - n ≡ 0 = omega arith in let m : (n - n) * u ≡ 0 * u = ap (λ k. k * u) z in omega arith

-- The energy of a run (a meter's true counts over time) before the time `bound` never exceeds the
-- energy of the complete run. Both energies are equal if the run's latest count is at or before
-- `bound`.
whole_run : SharesAddUp → (ceiling : ℕ) (sf : ℤ) (first : Item) (items : List Item) (bound : ℕ) → IsTrueRun ceiling sf first items
    → (rows_before bound sf first items ≤ advance sf first (newest first items))
    × ((newest first items).at ≤ bound → rows_before bound sf first items ≡ advance sf first (newest first items))
whole_run law ceiling sf first [] bound h =
    let z = none_counted (unit_of sf) first.count in (omega (arith, z), λ le. sym z)
whole_run law ceiling sf first (b ∷ items) bound h =
    let a : Item = newest first items in
    let step : Step = record { from = a.at; till = b.at; mwh = advance sf a b } in
    let rest = whole_run law ceiling sf first items bound h.3 in
    let sum = merged_before bound (rows_of_steps (true_steps sf first items)) (shares_of step) in
    let on = advance_on (unit_of sf) first.count a.count b.count (later ceiling sf first items h.3) h.1 in
    let most = most_before law bound step h.0 in (
      omega (arith, sum, rest.0, most, on),
      λ le. let all = whole_before law bound step h.0 le in let before = rest.1 (omega (arith, le, h.0)) in omega (arith, sum, all, before, on),
    )

-- The recorded energy before an interval's start has two bounds. It is at least the true energy up
-- to the last item (count of an honest meter) at or before this start. It is at most the true
-- energy up to the first item at or after this start.
pub truth_is_spread : SharesAddUp → (ceiling : ℕ) (sf : ℤ) (first : Item) (items : List Item) (bound : ℕ) → IsTrueRun ceiling sf first items
    → bound % 900 ≡ 0
    → (advance_to sf first items bound ≤ rows_before bound sf first items) × (rows_before bound sf first items ≤ advance_past sf first items bound)
truth_is_spread law ceiling sf first [] bound h whole = (omega arith, omega arith)
truth_is_spread law ceiling sf first (b ∷ items) bound h whole =
    let a : Item = newest first items in
    let step : Step = record { from = a.at; till = b.at; mwh = advance sf a b } in
    let rest = truth_is_spread law ceiling sf first items bound h.3 whole in
    let sum = merged_before bound (rows_of_steps (true_steps sf first items)) (shares_of step) in
    let all = whole_run law ceiling sf first (b ∷ items) bound h in (
      elim (cases_Bool (nat_le b.at bound)) [
        | inl e ↦
            let le : b.at ≤ bound = grind (arith, nat_tests, e) in
            let is : advance_to sf first (b ∷ items) bound ≡ advance sf first b = cond-true _ _ _ e in
            let eq = all.1 le in omega (arith, is, eq)
        | inr e ↦
            let is : advance_to sf first (b ∷ items) bound ≡ advance_to sf first items bound = cond-false _ _ _ e in
            omega (arith, is, rest.0, sum)
      ],
      elim (cases_Bool (nat_le bound a.at)) [
        | inl e ↦
            let le : bound ≤ a.at = grind (arith, nat_tests, e) in
            let is : advance_past sf first (b ∷ items) bound ≡ advance_past sf first items bound = cond-true _ _ _ e in
            let none = none_before law bound step h.0 whole le in omega (arith, is, rest.1, sum, none)
        | inr e ↦
            let is : advance_past sf first (b ∷ items) bound ≡ advance sf first b = cond-false _ _ _ e in
            omega (arith, is, all.0)
      ],
    )
