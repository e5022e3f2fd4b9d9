-- Proofs about adding a meter's energy in single quarter hours to the meter's rows of `intervals`,
-- the table of energy by quarter hour.
use Rattle.std.proofs.Common.{◌≡◌, ℕ, ◌+◌, ◌==◌, ◌&&◌, ◌||◌, Bool, true, false, cond, inl, inr, List, [], ◌∷◌, ◌++◌, map, filter, refl, sym, ap, ap₂, subst, ◌∙◌, bytes_eq, IsPermutation, arith}
use Rattle.std.specs.List.{list_any}
use Rattle.std.proofs.lemmas.Bool.{cases_Bool, cond-true, cond-false}
use Rattle.std.proofs.lemmas.Bool.Decides.{nat_tests}
use Rattle.std.proofs.lemmas.Slice.Eq.{bytes_eq-Decides}
use Rattle.std.proofs.lemmas.List.{map-append, append-nil}
use Rattle.std.proofs.lemmas.List.Sorted.{IsPermutation-sym, IsPermutation-trans, IsPermutation-cons, IsPermutation-map, IsPermutation-middle}
use Rattle.sqlite_keyed.proofs.ListLemmas.{map-map}
use Rattle.interval_core.specs.declared.shares.Share.{Share}
use Rattle.meter_journal.specs.Intervals as journal
use Rattle.store_tables.specs.Content.{changed_where}
use Rattle.office_store.specs.Intervals.Rows.{Interval, is_of, is_at}
use Rattle.office_store.specs.Intervals.StepShares.{raised, with_share, with_shares}
use Rattle.office_store.specs.Rows.{interval_of}
use Rattle.office_store.proofs.Passing.{map_agree, any_agree, filter_edited, filter_spared, any_filter, any_permutation, any_map}

-- Lemmas: adding a quarter hour's energy to the list of quarter hours of a meter changes the
-- quarter hour with this start, or appends a new one.

abbrev pub has_start : ℕ → Share → Bool
has_start start row = row.start == start

-- True if no two quarter hours in a list have equal starts.
abbrev pub AreApart : List Share → Type 0
AreApart [] = Unit {0}
AreApart (row ∷ rows) = (list_any (has_start row.start) rows ≡ false) × AreApart rows

abbrev pub grown : Share → Share → Share
grown share row = cond (row.start == share.start) (record { start = row.start; mwh = row.mwh + share.mwh }) row

neither : (a b : Bool) → (a || b) ≡ false → (a ≡ false) × (b ≡ false)
neither true b h = absurd (cc)
neither false b h = (refl, h)

keeps_start : (b : Bool) (share row : Share) → (let made : Share = cond b (record { start = row.start; mwh = row.mwh + share.mwh }) row in made.start) ≡ row.start
keeps_start true share row = refl
keeps_start false share row = refl

untouched : (share : Share) (rows : List Share) → list_any (has_start share.start) rows ≡ false → map (grown share) rows ≡ rows
untouched share [] h = refl
untouched share (row ∷ rows) h =
    let parts = neither _ _ h in ap₂ ◌∷◌ (cond-false _ _ _ parts.0) (untouched share rows parts.1)

-- If a quarter hour already has a row, adding energy in this quarter hour increases the row's
-- energy.
joined_there : (share : Share) (rows : List Share) → AreApart rows → list_any (has_start share.start) rows ≡ true → journal.with_share share rows ≡ map (grown share) rows
joined_there share [] apart h = absurd (cc)
joined_there share (row ∷ rows) apart h =
    elim (cases_Bool (row.start == share.start)) [
      | inl is ↦
          let same : row.start ≡ share.start = grind (arith, nat_tests, is) in
          let none : list_any (has_start share.start) rows ≡ false = subst (λ s. list_any (has_start s) rows ≡ false) same apart.0 in
          cond-true _ _ _ is ∙ sym (ap₂ ◌∷◌ (cond-true _ _ _ is) (untouched share rows none))
      | inr off ↦
          let more : list_any (has_start share.start) rows ≡ true = sym (ap (λ b. b || list_any (has_start share.start) rows) off) ∙ h in
          cond-false _ _ _ off ∙ ap₂ ◌∷◌ (sym (cond-false _ _ _ off)) (joined_there share rows apart.1 more)
    ]

-- If a quarter hour has no row, adding energy in this quarter hour appends a new row.
stands_after : (share : Share) (rows : List Share) → list_any (has_start share.start) rows ≡ false → journal.with_share share rows ≡ rows ++ share ∷ []
stands_after share [] h = refl
stands_after share (row ∷ rows) h =
    let parts = neither _ _ h in cond-false _ _ _ parts.0 ∙ ap (λ rs. row ∷ rs) (stands_after share rows parts.1)

any_grown : (share : Share) (start : ℕ) (rows : List Share) → list_any (has_start start) (map (grown share) rows) ≡ list_any (has_start start) rows
any_grown share start rows =
    any_map (has_start start) (grown share) rows
    ∙ any_agree (λ row. has_start start (grown share row)) (has_start start) (λ row. ap (λ n. n == start) (keeps_start (row.start == share.start) share row)) rows

apart_grown : (share : Share) (rows : List Share) → AreApart rows → AreApart (map (grown share) rows)
apart_grown share [] h = tt
apart_grown share (row ∷ rows) h =
    (any_grown share (grown share row).start rows ∙ ap (λ s. list_any (has_start s) rows) (keeps_start (row.start == share.start) share row) ∙ h.0, apart_grown share rows h.1)

any_last : {X : Type 0} (q : X → Bool) (xs : List X) (x : X) → list_any q xs ≡ false → q x ≡ false → list_any q (xs ++ x ∷ []) ≡ false
any_last q [] x h e = ap (λ b. b || false) e
any_last q (y ∷ xs) x h e = let parts = neither _ _ h in ap₂ ◌||◌ parts.0 (any_last q xs x parts.1 e)

apart_after : (share : Share) (rows : List Share) → AreApart rows → list_any (has_start share.start) rows ≡ false → AreApart (rows ++ share ∷ [])
apart_after share [] h none = (refl, tt)
apart_after share (row ∷ rows) h none =
    let parts = neither _ _ none in
    let off : row.start == share.start ≡ false = parts.0 in
    let turned : share.start == row.start ≡ false = grind (arith, nat_tests, off) in
    (any_last (has_start row.start) rows share h.0 turned, apart_after share rows h.1 parts.1)

pub apart_with : (share : Share) (rows : List Share) → AreApart rows → AreApart (journal.with_share share rows)
apart_with share rows h =
    elim (cases_Bool (list_any (has_start share.start) rows)) [
      | inl there ↦ subst AreApart (sym (joined_there share rows h there)) (apart_grown share rows h)
      | inr none ↦ subst AreApart (sym (stands_after share rows none)) (apart_after share rows h none)
    ]

-- Lemmas: if a quarter hour's energy is added to a meter's rows of the table `intervals`, these
-- rows still have the energy that is computed from the meter's entries.

pub itself : (meter : List ℕ) → bytes_eq meter meter ≡ true
itself meter = (bytes_eq-Decides meter meter).1 refl

-- True if a meter's rows of `intervals` have exactly the quarter hours and the energy that are
-- computed from the meter's entries.
abbrev pub AreRowsOf : (meter : List ℕ) → List Interval → List Share → Type 0
AreRowsOf meter rows shares = IsPermutation (filter (is_of meter) rows) (map (interval_of meter) shares)

at_start : (meter : List ℕ) (start : ℕ) (share : Share) → is_at meter start (interval_of meter share) ≡ has_start start share
at_start meter start share = ap (λ b. b && (share.start == start)) (itself meter)

both_true : (a b : Bool) → (a && b) ≡ true → a ≡ true
both_true true b h = refl
both_true false b h = absurd (cc)

any_there : (meter : List ℕ) (start : ℕ) (rows : List Interval) (shares : List Share) → AreRowsOf meter rows shares
    → list_any (is_at meter start) rows ≡ list_any (has_start start) shares
any_there meter start rows shares are =
    sym (any_filter (is_of meter) (is_at meter start) (λ i is. both_true (is_of meter i) (i.share.start == start) is) rows)
    ∙ any_permutation (is_at meter start) (filter (is_of meter) rows) (map (interval_of meter) shares) are
    ∙ any_map (is_at meter start) (interval_of meter) shares
    ∙ any_agree (λ share. is_at meter start (interval_of meter share)) (has_start start) (at_start meter start) shares

-- Suppose that a meter's rows of `intervals` equal the energy by quarter hour that is computed from
-- its entries. If one function changes each row, and a matching function changes each computed
-- quarter hour, they are still equal.
edited : (meter : List ℕ) (f : Interval → Interval) (h : Share → Share) (rows : List Interval) (shares : List Share)
    → ((i : Interval) → (f i).meter ≡ i.meter) → ((share : Share) → f (interval_of meter share) ≡ interval_of meter (h share))
    → AreRowsOf meter rows shares → AreRowsOf meter (map f rows) (map h shares)
edited meter f h rows shares keeps does are =
    let left : filter (is_of meter) (map f rows) ≡ map f (filter (is_of meter) rows) =
    filter_edited (is_of meter) f (λ i. ap (λ m. bytes_eq m meter) (keeps i)) rows in
    let right : map f (map (interval_of meter) shares) ≡ map (interval_of meter) (map h shares) =
    map-map f (interval_of meter) shares ∙ map_agree (λ share. f (interval_of meter share)) (λ share. interval_of meter (h share)) does shares
    ∙ sym (map-map (interval_of meter) h shares) in
    subst (λ l. IsPermutation l (map (interval_of meter) (map h shares))) (sym left)
    (subst (IsPermutation (map f (filter (is_of meter) rows))) right (IsPermutation-map f _ _ are))

raise : (meter : List ℕ) (share : Share) → Interval → Interval
raise meter share i = cond (is_at meter share.start i) (raised share.mwh i) i

raise_step : (b : Bool) (meter : List ℕ) (share x : Share)
    → cond b (raised share.mwh (interval_of meter x)) (interval_of meter x) ≡ interval_of meter (cond b (record { start = x.start; mwh = x.mwh + share.mwh }) x)
raise_step true meter share x = refl
raise_step false meter share x = refl

raise_meter : (b : Bool) (share : Share) (i : Interval) → (let made : Interval = cond b (raised share.mwh i) i in made.meter) ≡ i.meter
raise_meter true share i = refl
raise_meter false share i = refl

-- If the energy of one quarter hour is added both to `intervals` and to the energy that follows
-- from the meter's entries, the table and this energy are still equal.
pub booked_one : (meter : List ℕ) (share : Share) (rows : List Interval) (shares : List Share) → AreApart shares → AreRowsOf meter rows shares
    → AreRowsOf meter (with_share meter share rows) (journal.with_share share shares)
booked_one meter share rows shares apart are =
    elim (cases_Bool (list_any (has_start share.start) shares)) [
      | inl there ↦
          let changed : with_share meter share rows ≡ changed_where (is_at meter share.start) (raised share.mwh) rows =
          cond-true _ _ _ (any_there meter share.start rows shares are ∙ there) in
          subst (λ l. AreRowsOf meter l (journal.with_share share shares)) (sym changed)
          (subst (AreRowsOf meter (changed_where (is_at meter share.start) (raised share.mwh) rows)) (sym (joined_there share shares apart there))
          (edited meter (λ i. cond (is_at meter share.start i) (raised share.mwh i) i) (grown share) rows shares
          (λ i. raise_meter (is_at meter share.start i) share i)
          (λ x. ap (λ b. cond b (raised share.mwh (interval_of meter x)) (interval_of meter x)) (at_start meter share.start x) ∙ raise_step (x.start == share.start) meter share x) are))
      | inr none ↦
          let new = interval_of meter share in
          let changed : with_share meter share rows ≡ new ∷ rows = cond-false _ _ _ (any_there meter share.start rows shares are ∙ none) in
          let left : filter (is_of meter) (new ∷ rows) ≡ new ∷ filter (is_of meter) rows = cond-true _ _ _ (itself meter) in
          let right : map (interval_of meter) (shares ++ share ∷ []) ≡ map (interval_of meter) shares ++ new ∷ [] = map-append (interval_of meter) shares (share ∷ []) in
          let all = map (interval_of meter) shares in
          let last : IsPermutation (new ∷ all) (all ++ new ∷ []) =
          IsPermutation-sym (all ++ new ∷ []) (new ∷ all) (subst (λ l. IsPermutation (all ++ new ∷ []) (new ∷ l)) (append-nil all) (IsPermutation-middle all new [])) in
          let here : IsPermutation (new ∷ filter (is_of meter) rows) (all ++ new ∷ []) =
          IsPermutation-trans _ _ _ (IsPermutation-cons new _ _ are) last in
          subst (λ l. AreRowsOf meter l (journal.with_share share shares)) (sym changed)
          (subst (AreRowsOf meter (new ∷ rows)) (sym (stands_after share shares none))
          (subst (λ l. IsPermutation l (map (interval_of meter) (shares ++ share ∷ []))) (sym left)
          (subst (IsPermutation (new ∷ filter (is_of meter) rows)) (sym right) here)))
    ]

pub booked : (meter : List ℕ) (adds : List Share) (rows : List Interval) (shares : List Share) → AreApart shares → AreRowsOf meter rows shares
    → AreRowsOf meter (with_shares meter adds rows) (journal.with_each adds shares)
booked meter [] rows shares apart are = are
booked meter (share ∷ adds) rows shares apart are =
    booked meter adds (with_share meter share rows) (journal.with_share share shares) (apart_with share shares apart) (booked_one meter share rows shares apart are)

-- Lemmas that adding energy to one meter leaves the rows of `intervals` for all other meters
-- unchanged.

not_other : (a b : Bool) → (a ≡ true → b ≡ true → ⊥) → a ≡ true → b ≡ false
not_other a true h e = absurd (h e refl)
not_other a false h e = refl

not_at : (meter other : List ℕ) (start : ℕ) (i : Interval) → bytes_eq meter other ≡ false → is_of other i ≡ true → is_at meter start i ≡ false
not_at meter other start i apart is =
    ap (λ b. b && (i.share.start == start)) (not_other (is_of other i) (is_of meter i) (λ o m.
    let at_other : i.meter ≡ other = (bytes_eq-Decides i.meter other).0 o in
    let at_meter : i.meter ≡ meter = (bytes_eq-Decides i.meter meter).0 m in
    let e : bytes_eq meter other ≡ true = (bytes_eq-Decides meter other).1 (sym at_meter ∙ at_other) in
    let f : true ≡ false = sym e ∙ apart in absurd (cc)) is)

pub others_booked_one : (meter other : List ℕ) (share : Share) (rows : List Interval) → bytes_eq meter other ≡ false
    → filter (is_of other) (with_share meter share rows) ≡ filter (is_of other) rows
others_booked_one meter other share rows apart =
    elim (cases_Bool (list_any (is_at meter share.start) rows)) [
      | inl there ↦ ap (filter (is_of other)) (cond-true _ _ _ there)
          ∙ filter_spared (is_of other) (λ i. cond (is_at meter share.start i) (raised share.mwh i) i)
          (λ i. ap (λ m. bytes_eq m other) (raise_meter (is_at meter share.start i) share i))
          (λ i is. cond-false _ _ _ (not_at meter other share.start i apart is)) rows
      | inr none ↦ ap (filter (is_of other)) (cond-false _ _ _ none) ∙ cond-false _ _ _ apart
    ]

pub others_booked : (meter other : List ℕ) (adds : List Share) (rows : List Interval) → bytes_eq meter other ≡ false
    → filter (is_of other) (with_shares meter adds rows) ≡ filter (is_of other) rows
others_booked meter other [] rows apart = refl
others_booked meter other (share ∷ adds) rows apart =
    others_booked meter other adds (with_share meter share rows) apart ∙ others_booked_one meter other share rows apart
