-- Each list of interval rows (energies of quarter hours) has exactly one list of day accounts (the
-- energy of each civil day).
use Rattle.std.proofs.Common.{◌≡◌, List, [], ◌∷◌, ◌++◌, refl, sym, ap, subst, ◌∙◌, inl, inr, append_assoc, arith}
use Rattle.std.specs.Prelude.{ℤ, ◌<ℤ◌, ◌⊎◌, All, Contains}
use Rattle.std.specs.Cmp.{int_ranks}
use Rattle.std.specs.Ordering.{MatchOrdering, int_cmp}
use Rattle.std.specs.declared.cmp.Ordering.TheVariants.{Less, Equal, Greater}
use Rattle.std.proofs.lemmas.List.{append-nil}
use Rattle.std.proofs.lemmas.List.Elements.{All-nil, All-cons, All-head, All-tail, All-map, All-contains, Contains-append_right, Contains-append_cases, Contains-push_cases}
use Rattle.jiff.proofs.SpanFacts.{signed_arith}
use Rattle.interval_core.specs.declared.shares.Share.{Share}
use Rattle.interval_core.specs.declared.zone.Zone.{Zone}
use Rattle.interval_core.specs.Zone.{day_at}
use Rattle.interval_core.specs.Days.{DayAccount, days_of, account_on, AreAccounts, AreInOrder}
use Rattle.interval_core.proofs.OrderLemmas.{Earlier, Later}
use Rattle.interval_core.proofs.PlaceLemmas.{Other, not_contained}
use Rattle.interval_core.proofs.AccountLemmas.{IsExact, replaced, inserted}
use Rattle.interval_core.proofs.FoldLemmas.{taken-none}

-- Two days are equal, or one of them is earlier than the other.
by_order : {P : Type 0} (x y : ℤ) → (x <ℤ y → P) → (x ≡ y → P) → (y <ℤ x → P) → P
by_order {P} x y less equal greater =
    elim (int_cmp x y) as (λ r. MatchOrdering r (x <ℤ y) (x ≡ y) (y <ℤ x) → P) [ Less ↦ less | Equal ↦ equal | Greater ↦ greater ] (int_ranks x y)

-- States that a list of day accounts (energies of civil days) contains an account of the day `day`.
-- The fields are this account and the parts of the list before and after it.

record Among (day : ℤ) (accounts : List DayAccount) : Type 0 where
  pub before : List DayAccount
  pub account : DayAccount
  pub after : List DayAccount
  pub is : accounts ≡ before ++ account ∷ after
  pub same : account.day ≡ day

record Between (day : ℤ) (accounts : List DayAccount) : Type 0 where
  pub before : List DayAccount
  pub after : List DayAccount
  pub is : accounts ≡ before ++ after
  pub earlier : All (Earlier day) before
  pub later : All (Later day) after

located : (day : ℤ) (accounts : List DayAccount) → AreInOrder accounts → Among day accounts ⊎ Between day accounts
located day [] order = inr (record { before = []; after = []; is = refl; earlier = All-nil (Earlier day); later = All-nil (Later day) })
located day (a ∷ accounts) order =
    by_order day a.day
    (λ lt. inr (record {
      before = [];
      after = a ∷ accounts;
      is = refl;
      earlier = All-nil (Earlier day);
      later = All-cons (Later day) a accounts lt (λ k d within. let further = order.0 k d within in omega (arith, signed_arith, lt, further));
    }))
    (λ equal. inl (record { before = []; account = a; after = accounts; is = refl; same = sym equal }))
    (λ gt. elim (located day accounts order.1) [
      | inl there ↦ inl (record { before = a ∷ there.before; account = there.account; after = there.after; is = ap (λ (l : List DayAccount). a ∷ l) there.is; same = there.same })
      | inr gap ↦ inr (record {
        before = a ∷ gap.before;
        after = gap.after;
        is = ap (λ (l : List DayAccount). a ∷ l) gap.is;
        earlier = All-cons (Earlier day) a gap.before gt gap.earlier;
        later = gap.later;
      })
    ])

next : (zone : Zone) (rows : List Share) (row : Share) → ((accounts : List DayAccount) × AreAccounts zone rows accounts)
    → (accounts : List DayAccount) × AreAccounts zone (rows ++ row ∷ []) accounts
next zone rows row (accounts, are) =
    let day = day_at zone row.start in
    let b = account_on zone (rows ++ row ∷ []) day in
    elim (located day accounts are.in_order) [
      | inl there ↦ (
        there.before ++ b ∷ there.after,
        replaced zone rows row there.before there.account b there.after (subst (AreAccounts zone rows) there.is are) there.same refl,
      )
      | inr gap ↦ (
        gap.before ++ b ∷ gap.after,
        inserted zone rows row gap.before b gap.after (subst (AreAccounts zone rows) gap.is are) gap.earlier gap.later refl,
      )
    ]

more : (zone : Zone) (done rows : List Share) → ((accounts : List DayAccount) × AreAccounts zone done accounts)
    → (accounts : List DayAccount) × AreAccounts zone (done ++ rows) accounts
more zone done [] so_far = (so_far.0, rw (append-nil done) so_far.1)
more zone done (row ∷ rows) so_far =
    let P : List Share → Type 0 = λ l. (accounts : List DayAccount) × AreAccounts zone l accounts in
    subst P (append_assoc done (row ∷ []) rows) (more zone (done ++ row ∷ []) rows (next zone done row so_far))

pub exists_for : (zone : Zone) (rows : List Share) → (accounts : List DayAccount) × AreAccounts zone rows accounts
exists_for zone rows = more zone [] rows ([], (taken-none zone).accounts)

-- The days of a list of day accounts include the day of its first account.

first-contained : (a : DayAccount) (accounts : List DayAccount) → Contains (days_of (a ∷ accounts)) a.day
first-contained a accounts = (0, omega arith, refl)

-- A day before all days in a list of day accounts (energies of civil days) has no account in the
-- list.
before-all : (day : ℤ) (a : DayAccount) (accounts : List DayAccount) → AreInOrder (a ∷ accounts) → day <ℤ a.day → Contains (days_of (a ∷ accounts)) day → ⊥
before-all day a accounts order lt =
    not_contained day (a ∷ accounts) (All-cons (Other day) a accounts
    (λ same. omega (arith, signed_arith, lt, same))
    (λ k d within same. let further = order.0 k d within in omega (arith, signed_arith, lt, further, same)))

none-contained : (day : ℤ) → Contains (days_of []) day → ⊥
none-contained day contains = omega (arith, contains.1)

-- Suppose that two lists of day accounts begin with the same day. If a later day of the first list
-- is in the second list, the day is also in the second list without its first account.
following : (a b : DayAccount) (xs ys : List DayAccount) → a.day ≡ b.day → AreInOrder (a ∷ xs) → (d : ℤ)
    → (Contains (days_of (a ∷ xs)) d → Contains (days_of (b ∷ ys)) d) → Contains (days_of xs) d → Contains (days_of ys) d
following a b xs ys same order d into contains =
    let P : ℤ → Type 0 = λ x. a.day <ℤ x in
    let later : a.day <ℤ d = All-contains P (days_of xs) d (All-map P (λ (x : DayAccount). x.day) xs order.0) contains in
    elim (Contains-append_cases (b.day ∷ []) (days_of ys) d (into (Contains-append_right (a.day ∷ []) (days_of xs) d contains))) [
      | inl one ↦ elim (Contains-push_cases [] b.day d one) [
        | inl none ↦ absurd (omega (arith, none.1))
        | inr equal ↦ absurd (omega (arith, signed_arith, later, same, equal))
      ]
      | inr there ↦ there
    ]

pub same_accounts : (zone : Zone) (rows : List Share) (xs ys : List DayAccount) → AreInOrder xs → AreInOrder ys → All (IsExact zone rows) xs → All (IsExact zone rows) ys
    → ((d : ℤ) → Contains (days_of xs) d → Contains (days_of ys) d) → ((d : ℤ) → Contains (days_of ys) d → Contains (days_of xs) d) → xs ≡ ys
same_accounts zone rows [] [] ox oy ex ey there back = refl
same_accounts zone rows [] (y ∷ ys) ox oy ex ey there back = absurd (none-contained y.day (back y.day (first-contained y ys)))
same_accounts zone rows (x ∷ xs) [] ox oy ex ey there back = absurd (none-contained x.day (there x.day (first-contained x xs)))
same_accounts zone rows (x ∷ xs) (y ∷ ys) ox oy ex ey there back =
    by_order x.day y.day
    (λ lt. absurd (before-all x.day y ys oy lt (there x.day (first-contained x xs))))
    (λ same.
    let P = IsExact zone rows in
    let first : x ≡ y = All-head P x xs ex ∙ ap (account_on zone rows) same ∙ sym (All-head P y ys ey) in
    let rest : xs ≡ ys = same_accounts zone rows xs ys ox.1 oy.1 (All-tail P x xs ex) (All-tail P y ys ey)
    (λ d. following x y xs ys same ox d (there d)) (λ d. following y x ys xs (sym same) oy d (back d)) in
    rw (first, rest))
    (λ gt. absurd (before-all y.day x xs ox gt (back y.day (first-contained y ys))))

pub one_for : (zone : Zone) (rows : List Share) (others accounts : List DayAccount) → AreAccounts zone rows others → AreAccounts zone rows accounts → others ≡ accounts
one_for zone rows others accounts left right =
    same_accounts zone rows others accounts left.in_order right.in_order left.each right.each
    (λ d contains. (right.complete d).1 ((left.complete d).0 contains))
    (λ d contains. (left.complete d).1 ((right.complete d).0 contains))
