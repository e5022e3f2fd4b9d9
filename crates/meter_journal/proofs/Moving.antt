-- Lemmas: after an entry is voided (cancelled), the interval rows result from subtracting the
-- shares (energies by quarter hour) of removed steps and adding those of added steps.
use Rattle.std.proofs.Common.{◌≡◌, ℕ, ◌+◌, ◌-◌, ◌%◌, ◌<◌, ◌≤◌, ◌==◌, true, false, cond, List, [], ◌∷◌, ◌++◌, refl, sym, ap, subst, ◌∙◌, inl, inr, arith, nat_lt, eq-eqb}
use Rattle.std.specs.Prelude.{All, Contains}
use Rattle.std.specs.List.{filter}
use Rattle.std.proofs.lemmas.Bool.{cases_Bool, cases_lt, cond-true, cond-false, eqb-true}
use Rattle.std.proofs.lemmas.Bool.Decides.{nat_tests}
use Rattle.std.proofs.lemmas.List.Elements.{All-nil, All-cons}
use Rattle.std.proofs.lemmas.List.Sums.{sum_by-cons}
use Rattle.energy_core.specs.declared.entries.Entry.{Entry}
use Rattle.energy_core.specs.declared.entries.Step.{Step}
use Rattle.energy_core.specs.Account.{AllFollow}
use Rattle.interval_core.specs.declared.shares.Share.{Share}
use Rattle.interval_core.specs.Share.{share_at, shares_of}
use Rattle.interval_core.specs.Account.{Touches, SharesAddUp, IsAscending, starts_of, energy_of}
use Rattle.meter_journal.specs.declared.lines.Installed.{Installed}
use Rattle.meter_journal.specs.Books.{last_after, steps_after}
use Rattle.meter_journal.specs.Intervals.{rows_of_steps, with_share, with_each, less, without_share, without_each, all_shares}
use Rattle.meter_journal.specs.Changes.{SharesMoveEnergy}
use Rattle.meter_journal.specs.Voids.{rows_until, AreTherein}
use Rattle.meter_journal.proofs.Chains.{Lies, touched_lies, lies_touched, not_before}
use Rattle.meter_journal.proofs.InTime.{in_time}
use Rattle.meter_journal.proofs.Merging.{Among, Above, Rising, EachIs, HasRows, above_among, each_with, total_at, has_rows, rising_of, each_of, among_of, contains_of, ascending}
use Rattle.meter_journal.proofs.Striking.{weigh, AllBetween, AreMoved}

-- The energy of a share (an energy in one quarter hour) if it starts at `s`, otherwise 0.

abbrev one_at : Share → ℕ → ℕ
one_at share s = cond (s == share.start) share.mwh 0

abbrev pub amount_at : List Share → ℕ → ℕ
amount_at [] s = 0
amount_at (share ∷ shares) s = one_at share s + amount_at shares s

at_itself : (share : Share) (s : ℕ) → s ≡ share.start → one_at share s ≡ share.mwh
at_itself share s is = cond-true _ _ _ (eq-eqb s share.start is)

at_another : (share : Share) (s : ℕ) → s == share.start ≡ false → one_at share s ≡ 0
at_another share s off = cond-false _ _ _ off

differ : (m n : ℕ) → (m ≡ n → ⊥) → m == n ≡ false
differ m n h =
    elim (cases_Bool (m == n)) [
      | inl e ↦ absurd (h (eqb-true m n e))
      | inr e ↦ e
    ]

amount_none : (shares : List Share) (s : ℕ) → (Among s shares → ⊥) → amount_at shares s ≡ 0
amount_none [] s none = refl
amount_none (share ∷ shares) s none =
    let here = at_another share s (differ s share.start (λ e. none (inl (sym e)))) in
    omega (arith, here, amount_none shares s (λ there. none (inr there)))

amount_is : (g : ℕ → ℕ) (shares : List Share) (s : ℕ) → Rising shares → EachIs g shares → Among s shares → amount_at shares s ≡ g s
amount_is g [] s rising each there = absurd there
amount_is g (share ∷ shares) s rising each (inl is) =
    let rest = amount_none shares s (λ there. let lt = above_among share.start s shares rising.0 there in omega (arith, lt, is)) in
    omega (arith, at_itself share s (sym is), rest, each.0, ap g is)
amount_is g (share ∷ shares) s rising each (inr there) =
    let lt = above_among share.start s shares rising.0 there in
    let here = at_another share s (differ s share.start (λ e. omega (arith, lt, e))) in
    omega (arith, here, amount_is g shares s rising.1 each.1 there)

amount_append : (xs ys : List Share) (s : ℕ) → amount_at (xs ++ ys) s ≡ amount_at xs s + amount_at ys s
amount_append [] ys s = omega arith
amount_append (x ∷ xs) ys s = omega (arith, amount_append xs ys s)

-- The shares (energies by quarter hour) of a step that start at `s` add up to the step's energy in
-- the quarter hour from `s`.
amount_of_step : SharesAddUp → (step : Step) (s : ℕ) → step.from < step.till → s % 900 ≡ 0 → amount_at (shares_of step) s ≡ share_at step s
amount_of_step law step s lt whole =
    let spread = law step lt in
    let rising = rising_of (shares_of step) spread.in_order in
    let outside : ((Touches step s) → ⊥) → amount_at (shares_of step) s ≡ 0 =
    λ none. amount_none (shares_of step) s (λ there. none ((spread.touched s).0 (contains_of s (shares_of step) there))) in
    elim (cases_lt s step.till) [
      | inl before ↦ elim (cases_lt step.from (s + 900)) [
        | inl following ↦
            amount_is (share_at step) (shares_of step) s rising (each_of (share_at step) (shares_of step) spread.each)
            (among_of s (shares_of step) ((spread.touched s).1 (whole, before, following)))
        | inr early ↦ outside (λ t. omega (arith, early, t.2)) ∙ sym (spread.outside s (inl early))
      ]
      | inr late ↦ outside (λ t. omega (arith, late, t.1)) ∙ sym (spread.outside s (inr late))
    ]

abbrev at_start : ℕ → Step → ℕ
at_start s step = share_at step s

amount_of_steps : SharesAddUp → (opened last : ℕ) (steps : List Step) (s : ℕ) → AllBetween opened last steps → s % 900 ≡ 0
    → amount_at (all_shares steps) s ≡ weigh (at_start s) steps
amount_of_steps law opened last [] s h whole = refl
amount_of_steps law opened last (step ∷ steps) s h whole =
    omega (
      arith,
      amount_append (shares_of step) (all_shares steps) s,
      amount_of_step law step s h.1 whole,
      amount_of_steps law opened last steps s h.3 whole,
    )

total_is : (steps : List Step) (s : ℕ) → total_at steps s ≡ weigh (at_start s) steps
total_is [] s = refl
total_is (step ∷ steps) s = omega (arith, total_is steps s)

-- If two lists of interval rows (energies by quarter hour) have the same starts, each start in one
-- list is also in the other list.

among_same : (s : ℕ) (rows rows' : List Share) → starts_of rows ≡ starts_of rows' → Among s rows → Among s rows'
among_same s rows rows' is there = among_of s rows' (subst (λ (ns : List ℕ). Contains ns s) is (contains_of s rows there))

rising_same : (rows rows' : List Share) → starts_of rows ≡ starts_of rows' → Rising rows → Rising rows'
rising_same rows rows' is rising = rising_of rows' (subst IsAscending is (ascending rows rising))

each_same : (f g : ℕ → ℕ) (rows : List Share) → ((s : ℕ) → Among s rows → f s ≡ g s) → EachIs f rows → EachIs g rows
each_same f g [] is h = tt
each_same f g (row ∷ rows) is h =
    (h.0 ∙ is row.start (inl refl), each_same f g rows (λ s there. is s (inr there)) h.1)

-- Subtracting a share (the energy of a quarter hour) from a row leaves the start of the row
-- unchanged.

less_start : (share row : Share) → (less share row).start ≡ row.start
less_start share row =
    elim (cases_Bool (row.start == share.start)) [
      | inl e ↦ ap (λ (r : Share). r.start) (cond-true _ _ _ e)
      | inr e ↦ ap (λ (r : Share). r.start) (cond-false _ _ _ e)
    ]

less_mwh : (share row : Share) → (less share row).mwh ≡ row.mwh - one_at share row.start
less_mwh share row =
    elim (cases_Bool (row.start == share.start)) [
      | inl e ↦
          let here : (less share row).mwh ≡ row.mwh - share.mwh = ap (λ (r : Share). r.mwh) (cond-true _ _ _ e) in
          let one : one_at share row.start ≡ share.mwh = cond-true _ _ _ e in omega (arith, here, one)
      | inr e ↦
          let here : (less share row).mwh ≡ row.mwh = ap (λ (r : Share). r.mwh) (cond-false _ _ _ e) in
          let none : one_at share row.start ≡ 0 = cond-false _ _ _ e in omega (arith, here, none)
    ]

starts_less : (share : Share) (rows : List Share) → starts_of (without_share share rows) ≡ starts_of rows
starts_less share [] = refl
starts_less share (row ∷ rows) =
    ap (λ s. s ∷ starts_of (without_share share rows)) (less_start share row) ∙ ap (λ ns. row.start ∷ ns) (starts_less share rows)

each_less : (f : ℕ → ℕ) (share : Share) (rows : List Share) → EachIs f rows → EachIs (λ s. f s - one_at share s) (without_share share rows)
each_less f share [] h = tt
each_less f share (row ∷ rows) h =
    let due : f row.start - one_at share row.start ≡ f (less share row).start - one_at share (less share row).start =
    ap (λ s. f s - one_at share s) (sym (less_start share row)) in
    (less_mwh share row ∙ ap (λ n. n - one_at share row.start) h.0 ∙ due, each_less f share rows h.1)

starts_without : (shares rows : List Share) → starts_of (without_each shares rows) ≡ starts_of rows
starts_without [] rows = refl
starts_without (share ∷ shares) rows = starts_without shares (without_share share rows) ∙ starts_less share rows

less_both : (a b c : ℕ) → (a - b) - c ≡ a - (b + c)
less_both a b c = omega arith

each_without : (f : ℕ → ℕ) (shares rows : List Share) → EachIs f rows → EachIs (λ s. f s - amount_at shares s) (without_each shares rows)
each_without f [] rows h = each_same f (λ s. f s - 0) rows (λ s there. omega arith) h
each_without f (share ∷ shares) rows h =
    each_same (λ s. (f s - one_at share s) - amount_at shares s) (λ s. f s - amount_at (share ∷ shares) s)
    (without_each (share ∷ shares) rows) (λ s there. less_both (f s) (one_at share s) (amount_at shares s))
    (each_without (λ s. f s - one_at share s) shares (without_share share rows) (each_less f share rows h))

room : (f : ℕ → ℕ) (share : Share) (rows : List Share) → EachIs f rows → ((s : ℕ) → Among s rows → one_at share s ≤ f s)
    → All (λ row. row.start ≡ share.start → share.mwh ≤ row.mwh) rows
room f share [] h enough = All-nil (λ (row : Share). row.start ≡ share.start → share.mwh ≤ row.mwh)
room f share (row ∷ rows) h enough =
    All-cons (λ (row : Share). row.start ≡ share.start → share.mwh ≤ row.mwh) row rows
    (λ is. omega (arith, at_itself share row.start is, enough row.start (inl refl), h.0))
    (room f share rows h.1 (λ s there. enough s (inr there)))

pub therein : (f : ℕ → ℕ) (shares rows : List Share) → EachIs f rows → ((s : ℕ) → Among s rows → amount_at shares s ≤ f s)
    → AreTherein shares rows
therein f [] rows h enough = tt
therein f (share ∷ shares) rows h enough = (
  room f share rows h (λ s there. omega (arith, enough s there)),
  therein (λ s. f s - one_at share s) shares (without_share share rows) (each_less f share rows h)
      (λ s there. omega (arith, enough s (among_same s (without_share share rows) rows (starts_less share rows) there))),
)

-- If the interval of a share (the energy of a quarter hour) already has a row, adding the share
-- leaves all starts of rows unchanged.

starts_with : (share : Share) (rows : List Share) → Among share.start rows → starts_of (with_share share rows) ≡ starts_of rows
starts_with share [] there = absurd there
starts_with share (row ∷ rows) there =
    elim (cases_Bool (row.start == share.start)) [
      | inl e ↦ ap starts_of (cond-true _ _ _ e)
      | inr e ↦
          let rest : Among share.start rows = elim there [
            | inl is ↦ absurd (let t : true ≡ false = sym (eq-eqb row.start share.start is) ∙ e in cc)
            | inr later ↦ later
          ] in
          ap starts_of (cond-false _ _ _ e) ∙ ap (λ ns. row.start ∷ ns) (starts_with share rows rest)
    ]

each_more : (f : ℕ → ℕ) (share : Share) (rows : List Share) → Rising rows → EachIs f rows → Among share.start rows
    → EachIs (λ s. one_at share s + f s) (with_share share rows)
each_more f share [] rising h there = absurd there
each_more f share (row ∷ rows) rising h there =
    elim (cases_Bool (row.start == share.start)) [
      | inl e ↦
          let is : row.start ≡ share.start = eqb-true row.start share.start e in
          subst (EachIs (λ s. one_at share s + f s)) (sym (cond-true _ _ _ e)) (
            omega (arith, h.0, at_itself share row.start is),
            each_with (one_at share) f rows h.1 (λ t later.
                let lt = above_among row.start t rows rising.0 later in at_another share t (differ t share.start (λ same. omega (arith, lt, same, is)))),
          )
      | inr e ↦
          let rest : Among share.start rows = elim there [
            | inl is ↦ absurd (let t : true ≡ false = sym (eq-eqb row.start share.start is) ∙ e in cc)
            | inr later ↦ later
          ] in
          subst (EachIs (λ s. one_at share s + f s)) (sym (cond-false _ _ _ e)) (
            omega (arith, h.0, at_another share row.start e),
            each_more f share rows rising.1 h.1 rest,
          )
    ]

-- States that the quarter hour of each share (an energy in one quarter hour) has a row in the list
-- of interval rows.
abbrev HaveRows : List Share → List Share → Type 0
HaveRows [] rows = Unit {0}
HaveRows (share ∷ shares) rows = Among share.start rows × HaveRows shares rows

have_same : (shares rows rows' : List Share) → starts_of rows ≡ starts_of rows' → HaveRows shares rows → HaveRows shares rows'
have_same [] rows rows' is h = tt
have_same (share ∷ shares) rows rows' is h = (among_same share.start rows rows' is h.0, have_same shares rows rows' is h.1)

have_append : (xs ys rows : List Share) → HaveRows xs rows → HaveRows ys rows → HaveRows (xs ++ ys) rows
have_append [] ys rows h k = k
have_append (x ∷ xs) ys rows h k = (h.0, have_append xs ys rows h.1 k)

have_all : (shares rows : List Share) → ((s : ℕ) → Among s shares → Among s rows) → HaveRows shares rows
have_all [] rows h = tt
have_all (share ∷ shares) rows h = (h share.start (inl refl), have_all shares rows (λ s there. h s (inr there)))

starts_with_each : (shares rows : List Share) → HaveRows shares rows → starts_of (with_each shares rows) ≡ starts_of rows
starts_with_each [] rows h = refl
starts_with_each (share ∷ shares) rows h =
    let same : starts_of (with_share share rows) ≡ starts_of rows = starts_with share rows h.0 in
    starts_with_each shares (with_share share rows) (have_same shares rows (with_share share rows) (sym same) h.1) ∙ same

each_with_each : (f : ℕ → ℕ) (shares rows : List Share) → Rising rows → EachIs f rows → HaveRows shares rows
    → EachIs (λ s. amount_at shares s + f s) (with_each shares rows)
each_with_each f [] rows rising h have = each_same f (λ s. 0 + f s) rows (λ s there. omega arith) h
each_with_each f (share ∷ shares) rows rising h have =
    let more : List Share = with_share share rows in
    let same : starts_of rows ≡ starts_of more = sym (starts_with share rows have.0) in
    each_same (λ s. amount_at shares s + (one_at share s + f s)) (λ s. amount_at (share ∷ shares) s + f s)
    (with_each shares more) (λ s there. omega arith)
    (each_with_each (λ s. one_at share s + f s) shares more (rising_same rows more same rising) (each_more f share rows rising h have.0)
    (have_same shares rows more same have.1))

-- In a list of interval rows (energies by quarter hour) in order of time, the first row has the
-- earliest start.

least : (row : Share) (rows : List Share) (s : ℕ) → Rising (row ∷ rows) → Among s (row ∷ rows) → row.start ≤ s
least row rows s rising (inl is) = omega (arith, is)
least row rows s rising (inr there) = let lt = above_among row.start s rows rising.0 there in omega (arith, lt)

later : (row : Share) (rows : List Share) (s : ℕ) → row.start < s → Among s (row ∷ rows) → Among s rows
later row rows s lt (inl is) = absurd (omega (arith, lt, is))
later row rows s lt (inr there) = there

same_share : (a b : Share) → a.start ≡ b.start → a.mwh ≡ b.mwh → a ≡ b
same_share a b start mwh =
    ap (λ s. let r : Share = record { start = s; mwh = a.mwh } in r) start ∙ ap (λ n. let r : Share = record { start = b.start; mwh = n } in r) mwh

-- Two lists of interval rows are equal if both are in order, have the same starts, and have the
-- same energy at each start.
pub same_rows : (f : ℕ → ℕ) (xs ys : List Share) → Rising xs → Rising ys → EachIs f xs → EachIs f ys
    → ((s : ℕ) → Among s xs → Among s ys) → ((s : ℕ) → Among s ys → Among s xs) → xs ≡ ys
same_rows f [] [] up up' each each' to from = refl
same_rows f [] (y ∷ ys) up up' each each' to from = absurd (from y.start (inl refl))
same_rows f (x ∷ xs) [] up up' each each' to from = absurd (to x.start (inl refl))
same_rows f (x ∷ xs) (y ∷ ys) up up' each each' to from =
    let start : x.start ≡ y.start =
    omega (arith, least y ys x.start up' (to x.start (inl refl)), least x xs y.start up (from y.start (inl refl))) in
    let first : x ≡ y = same_share x y start (omega (arith, each.0, each'.0, ap f start)) in
    let rest : xs ≡ ys =
    same_rows f xs ys up.1 up'.1 each.1 each'.1
    (λ s there. let lt = above_among x.start s xs up.0 there in later y ys s (omega (arith, lt, start)) (to s (inr there)))
    (λ s there. let lt = above_among y.start s ys up'.0 there in later x xs s (omega (arith, lt, start)) (from s (inr there))) in
    ap (λ r. r ∷ xs) first ∙ ap (λ rs. y ∷ rs) rest

-- The interval rows (energies by quarter hour) that begin before the time `last`.

abbrev before_it : (last : ℕ) → List Share → List Share
before_it last rows = filter (λ row. nat_lt row.start last) rows

lt_true : (m n : ℕ) → nat_lt m n ≡ true → m < n
lt_true m n e = grind (arith, nat_tests, e)

lt_false : (m n : ℕ) → nat_lt m n ≡ false → n ≤ m
lt_false m n e = grind (arith, nat_tests, e)

above_before : (last n : ℕ) (rows : List Share) → Above n rows → Above n (before_it last rows)
above_before last n [] h = tt
above_before last n (row ∷ rows) h =
    elim (cases_Bool (nat_lt row.start last)) [
      | inl e ↦ subst (Above n) (sym (cond-true _ _ _ e)) (h.0, above_before last n rows h.1)
      | inr e ↦ subst (Above n) (sym (cond-false _ _ _ e)) (above_before last n rows h.1)
    ]

rising_before : (last : ℕ) (rows : List Share) → Rising rows → Rising (before_it last rows)
rising_before last [] h = tt
rising_before last (row ∷ rows) h =
    elim (cases_Bool (nat_lt row.start last)) [
      | inl e ↦ subst Rising (sym (cond-true _ _ _ e)) (above_before last row.start rows h.0, rising_before last rows h.1)
      | inr e ↦ subst Rising (sym (cond-false _ _ _ e)) (rising_before last rows h.1)
    ]

each_before : (f : ℕ → ℕ) (last : ℕ) (rows : List Share) → EachIs f rows → EachIs f (before_it last rows)
each_before f last [] h = tt
each_before f last (row ∷ rows) h =
    elim (cases_Bool (nat_lt row.start last)) [
      | inl e ↦ subst (EachIs f) (sym (cond-true _ _ _ e)) (h.0, each_before f last rows h.1)
      | inr e ↦ subst (EachIs f) (sym (cond-false _ _ _ e)) (each_before f last rows h.1)
    ]

among_before : (last s : ℕ) (rows : List Share) → Among s (before_it last rows) → Among s rows × (s < last)
among_before last s [] there = absurd there
among_before last s (row ∷ rows) there =
    elim (cases_Bool (nat_lt row.start last)) [
      | inl e ↦ elim (let kept : Among s (row ∷ before_it last rows) = subst (Among s) (cond-true _ _ _ e) there in kept) [
        | inl is ↦ (inl is, omega (arith, is, lt_true row.start last e))
        | inr rest ↦ let found = among_before last s rows rest in (inr found.0, found.1)
      ]
      | inr e ↦ let found = among_before last s rows (subst (Among s) (cond-false _ _ _ e) there) in (inr found.0, found.1)
    ]

among_kept : (last s : ℕ) (rows : List Share) → Among s rows → s < last → Among s (before_it last rows)
among_kept last s [] there lt = absurd there
among_kept last s (row ∷ rows) there lt =
    elim (cases_Bool (nat_lt row.start last)) [
      | inl e ↦ subst (Among s) (sym (cond-true _ _ _ e)) (elim there [ inl is ↦ inl is | inr rest ↦ inr (among_kept last s rows rest lt) ])
      | inr e ↦
          subst (Among s) (sym (cond-false _ _ _ e)) (elim there [
            | inl is ↦ absurd (omega (arith, lt, is, lt_false row.start last e))
            | inr rest ↦ among_kept last s rows rest lt
          ])
    ]

-- Adding a share (the energy of a quarter hour) to interval rows increases their energy by the
-- energy of the share.

with_energy : (share : Share) (rows : List Share) → energy_of (with_share share rows) ≡ energy_of rows + share.mwh
with_energy share [] = let mwh : Share → ℕ = λ row. row.mwh in omega (arith, sum_by-cons mwh share [])
with_energy share (row ∷ rows) =
    let mwh : Share → ℕ = λ r. r.mwh in
    let first = sum_by-cons mwh row rows in
    elim (cases_Bool (row.start == share.start)) [
      | inl e ↦
          let made : Share = record { start = row.start; mwh = row.mwh + share.mwh } in
          let is : energy_of (with_share share (row ∷ rows)) ≡ energy_of (made ∷ rows) = ap energy_of (cond-true _ _ _ e) in
          omega (arith, is, first, sum_by-cons mwh made rows)
      | inr e ↦
          let is : energy_of (with_share share (row ∷ rows)) ≡ energy_of (row ∷ with_share share rows) = ap energy_of (cond-false _ _ _ e) in
          omega (arith, is, first, sum_by-cons mwh row (with_share share rows), with_energy share rows)
    ]

without_energy : (share : Share) (rows : List Share) → energy_of (without_share share rows) ≤ energy_of rows
without_energy share [] = omega arith
without_energy share (row ∷ rows) =
    let mwh : Share → ℕ = λ r. r.mwh in
    omega (
      arith,
      sum_by-cons mwh row rows,
      sum_by-cons mwh (less share row) (without_share share rows),
      less_mwh share row,
      without_energy share rows,
    )

all_added : (shares rows : List Share) → energy_of (with_each shares rows) ≡ energy_of rows + energy_of shares
all_added [] rows = omega arith
all_added (share ∷ shares) rows =
    let mwh : Share → ℕ = λ r. r.mwh in
    omega (arith, all_added shares (with_share share rows), with_energy share rows, sum_by-cons mwh share shares)

all_taken : (shares rows : List Share) → energy_of (without_each shares rows) ≤ energy_of rows
all_taken [] rows = omega arith
all_taken (share ∷ shares) rows = omega (arith, all_taken shares (without_share share rows), without_energy share rows)

pub shares_move_energy : SharesMoveEnergy
shares_move_energy shares rows = record { added = all_added shares rows; taken = all_taken shares rows }

-- If each quarter hour between `opened` and `last` has an interval row, the quarter hour of each
-- share in this time has one. A share is an energy in one quarter hour.

write_have : SharesAddUp → (opened last : ℕ) (steps : List Step) (rows : List Share) → AllBetween opened last steps
    → ((s : ℕ) → Lies opened last s → Among s rows) → HaveRows (all_shares steps) rows
write_have law opened last [] rows h there = tt
write_have law opened last (step ∷ steps) rows h there =
    let spread = law step h.1 in
    have_append (shares_of step) (all_shares steps) rows
    (have_all (shares_of step) rows (λ s found.
    let t : Touches step s = (spread.touched s).0 (contains_of s (shares_of step) found) in
    there s (record {
      whole = t.0;
      following = omega (arith, t.2, h.0);
      before = omega (arith, t.1, h.2);
      gone_on = omega (arith, h.0, h.1, h.2);
    })))
    (write_have law opened last steps rows h.3 there)

none_there : (rows : List Share) → ((s : ℕ) → Among s rows → ⊥) → rows ≡ []
none_there [] h = refl
none_there (row ∷ rows) h = absurd (h row.start (inl refl))

due_then : (steps steps' out put : ℕ) → steps + put ≡ steps' + out → out ≤ steps → put + (steps - out) ≡ steps'
due_then steps steps' out put is le = omega (arith, is, le)

-- After a void (cancellation of an entry), energies of steps are subtracted from and added to the
-- interval rows (energies by quarter hour). Only the rows that begin before the last valid entry
-- remain.
pub until_last : (f : ℕ → ℕ) (opened last last' : ℕ) (rows target : List Share) → opened ≤ last' → last' ≤ last
    → Rising rows → EachIs f rows → ((s : ℕ) → Among s rows → Lies opened last s) → ((s : ℕ) → Lies opened last s → Among s rows)
    → Rising target → EachIs f target → ((s : ℕ) → Among s target → Lies opened last' s) → ((s : ℕ) → Lies opened last' s → Among s target)
    → target ≡ rows_until opened last' rows
until_last f opened last last' rows target begun le up each lie back up' each' lie' back' =
    elim (cases_Bool (last' == opened)) [
      | inl e ↦
          let is : last' ≡ opened = eqb-true last' opened e in
          none_there target (λ s there. let l = lie' s there in omega (arith, l.gone_on, is)) ∙ sym (cond-true _ _ _ e)
      | inr e ↦
          let lt : opened < last' = grind (arith, nat_tests, e, begun) in
          same_rows f target (before_it last' rows) up' (rising_before last' rows up) each' (each_before f last' rows each)
          (λ s there.
          let l = lie' s there in
          among_kept last' s rows (back s (record {
            whole = l.whole;
            following = l.following;
            before = omega (arith, l.before, le);
            gone_on = omega (arith, lt, le);
          })) l.before)
          (λ s there.
          let found = among_before last' s rows there in
          let l = lie s found.0 in
          back' s (record { whole = l.whole; following = l.following; before = found.1; gone_on = lt }))
          ∙ sym (cond-false _ _ _ e)
    ]

-- States how voiding (cancelling) an entry changes the interval rows. The shares (energies by
-- quarter hour) of removed steps (between entries) are subtracted, and those of added steps are
-- added.
pub record AreExchanged (meter : Installed) (es es' : List Entry) (out put : List Step) : Type 0 where
  pub therein : AreTherein (all_shares out) (rows_of_steps (steps_after meter es))
  pub intervals : rows_of_steps (steps_after meter es')
      ≡ rows_until meter.opening.at (last_after meter es').at
      (with_each (all_shares put) (without_each (all_shares out) (rows_of_steps (steps_after meter es))))

pub exchanged : SharesAddUp → (meter : Installed) (es es' : List Entry) (out put : List Step)
    → AllFollow meter.range meter.opening es → AllFollow meter.range meter.opening es' → (last_after meter es').at ≤ (last_after meter es).at
    → AreMoved meter es es' out put → AreExchanged meter es es' out put
exchanged law meter es es' out put follow follow' le moved =
    let opened : ℕ = meter.opening.at in
    let last : ℕ = (last_after meter es).at in
    let last' : ℕ = (last_after meter es').at in
    let rows : List Share = rows_of_steps (steps_after meter es) in
    let has : HasRows (steps_after meter es) rows = has_rows law (steps_after meter es) (in_time meter es follow) in
    let has' : HasRows (steps_after meter es') (rows_of_steps (steps_after meter es')) = has_rows law (steps_after meter es') (in_time meter es' follow') in
    let lie : (s : ℕ) → Among s rows → Lies opened last s = λ s there. touched_lies meter es s follow (has.touched s there) in
    let back : (s : ℕ) → Lies opened last s → Among s rows = λ s l. has.complete s (lies_touched meter es s follow l) in
    let f : ℕ → ℕ = total_at (steps_after meter es) in
    let f' : ℕ → ℕ = total_at (steps_after meter es') in
    let less_out : List Share = without_each (all_shares out) rows in
    let more_put : List Share = with_each (all_shares put) less_out in
    let starts_out : starts_of less_out ≡ starts_of rows = starts_without (all_shares out) rows in
    let have : HaveRows (all_shares put) less_out =
    have_same (all_shares put) rows less_out (sym starts_out) (write_have law opened last put rows moved.write_between back) in
    let starts_put : starts_of more_put ≡ starts_of rows = starts_with_each (all_shares put) less_out have ∙ starts_out in
    let up_out : Rising less_out = rising_same rows less_out (sym starts_out) has.rising in
    let each_out : EachIs (λ s. f s - amount_at (all_shares out) s) less_out = each_without f (all_shares out) rows has.each in
    let each_put : EachIs (λ s. amount_at (all_shares put) s + (f s - amount_at (all_shares out) s)) more_put =
    each_with_each (λ s. f s - amount_at (all_shares out) s) (all_shares put) less_out up_out each_out have in
    let taken : (s : ℕ) → Among s rows → amount_at (all_shares out) s ≤ f s = λ s there.
    omega (
      arith,
      amount_of_steps law opened last out s moved.out_between (lie s there).whole,
      total_is (steps_after meter es) s,
      moved.within (at_start s),
    ) in
    let due : (s : ℕ) → Among s more_put → amount_at (all_shares put) s + (f s - amount_at (all_shares out) s) ≡ f' s = λ s there.
    let found : Among s rows = among_same s more_put rows starts_put there in
    let whole = (lie s found).whole in
    let outs = amount_of_steps law opened last out s moved.out_between whole in
    let puts = amount_of_steps law opened last put s moved.write_between whole in
    let old = total_is (steps_after meter es) s in
    let new = total_is (steps_after meter es') s in
    due_then (f s) (f' s) (amount_at (all_shares out) s) (amount_at (all_shares put) s)
    (omega (arith, moved.moves (at_start s), outs, puts, old, new)) (taken s found) in
    record {
      therein = therein f (all_shares out) rows has.each taken;
      intervals = until_last f' opened last last' more_put (rows_of_steps (steps_after meter es')) (not_before meter es' follow') le
          (rising_same rows more_put (sym starts_put) has.rising)
          (each_same (λ s. amount_at (all_shares put) s + (f s - amount_at (all_shares out) s)) f' more_put due each_put)
          (λ s there. lie s (among_same s more_put rows starts_put there))
          (λ s l. among_same s rows more_put (sym starts_put) (back s l))
          has'.rising has'.each
          (λ s there. touched_lies meter es' s follow' (has'.touched s there))
          (λ s l. has'.complete s (lies_touched meter es' s follow' l));
    }
