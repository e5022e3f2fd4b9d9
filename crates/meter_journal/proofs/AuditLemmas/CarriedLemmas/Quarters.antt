-- Lemmas on merging the interval rows (energies by quarter hour) of two database files: merging is
-- associative, and preserves the total energy and the set of quarter hours.
use Rattle.std.proofs.Common.{◌≡◌, ℕ, ◌+◌, ◌==◌, Bool, true, false, cond, ◌||◌, List, [], ◌∷◌, ◌++◌, refl, sym, ap, subst, ◌∙◌, arith, eq-eqb}
use Rattle.std.specs.Prelude.{ℤ, filter}
use Rattle.std.specs.List.{list_any}
use Rattle.std.specs.Ordering.{int_eq}
use Rattle.std.proofs.lemmas.Bool.{cond-true, cond-false, eqb-true}
use Rattle.std.proofs.lemmas.List.Elements.{filter-append}
use Rattle.std.proofs.lemmas.List.Sums.{sum_by-cons, sum_by-append}
use Rattle.energy_core.specs.declared.entries.Last.{Last}
use Rattle.energy_core.specs.declared.entries.Step.{Step}
use Rattle.energy_core.specs.declared.entries.Entry.{Entry}
use Rattle.energy_core.specs.Account.{AllFollow}
use Rattle.interval_core.specs.declared.shares.Share.{Share}
use Rattle.interval_core.specs.declared.zone.Zone.{Zone}
use Rattle.interval_core.specs.Share.{shares_of}
use Rattle.interval_core.specs.Account.{SharesAddUp, IsAccount, IsAscending, energy_of, starts_of}
use Rattle.interval_core.specs.Days.{DayAccount, account_on, distinct_count}
use Rattle.interval_core.specs.Zone.{day_at}
use Rattle.meter_journal.specs.declared.lines.Installed.{Installed}
use Rattle.meter_journal.specs.Books.{last_after, total_after, steps_after, steps_in, last_in, interval_rows}
use Rattle.meter_journal.specs.Intervals.{joined, with_shares, rows_of_steps}
use Rattle.meter_journal.specs.Journal.{entries_of}
use Rattle.meter_journal.proofs.AsEntered.{rows_are_kept}
use Rattle.meter_journal.proofs.InTime.{in_time}
use Rattle.meter_journal.proofs.Joining.{merged_sum}
use Rattle.meter_journal.proofs.Keeping.{journals_are_kept}
use Rattle.meter_journal.proofs.Merging.{rows_are_accounts}
use Rattle.meter_journal.specs.Audit.Carried.{carried, joined_journal, AreCountedOnce, CarriesGoOn, CarriesCountOnce}
use Rattle.meter_journal.proofs.AuditLemmas.CarriedLemmas.Over.{last_over, follow_over, steps_over, total_over, rows_over, entries_of_both, well_carried}

-- Merging lists of interval rows (energies by quarter hour) is associative.

abbrev one_of : Share → Share → Share
one_of row share = record { start = row.start; mwh = row.mwh + share.mwh }

no_shares : (rows : List Share) → with_shares rows [] ≡ rows
no_shares [] = refl
no_shares (row ∷ []) = refl
no_shares (row ∷ next ∷ rows) = ap (λ rs. row ∷ rs) (no_shares (next ∷ rows))

same_rows : (s m n : ℕ) (rows : List Share) → m ≡ n
    → (let r : Share = record { start = s; mwh = m } in r ∷ rows) ≡ (let r : Share = record { start = s; mwh = n } in r ∷ rows)
same_rows s m n rows is = ap (λ x. let r : Share = record { start = s; mwh = x } in r ∷ rows) is

through : (x y z : ℕ) (c : Bool) → x == y ≡ true → y == z ≡ c → x == z ≡ c
through x y z c at is = ap (λ n. n == z) (eqb-true x y at) ∙ is

-- Merging three interval rows (energies by quarter hour) from the left produces the same rows as
-- merging them from the right.
three : (x y z : Share) (zs : List Share) (b c : Bool) → x.start == y.start ≡ b → y.start == z.start ≡ c
    → with_shares (cond b (one_of x y ∷ []) (x ∷ y ∷ [])) (z ∷ zs) ≡ joined x (cond c (one_of y z ∷ zs) (y ∷ z ∷ zs))
three x y z zs true true at next =
    cond-true _ _ _ (through x.start y.start z.start true at next) ∙ same_rows x.start (x.mwh + y.mwh + z.mwh) (x.mwh + (y.mwh + z.mwh)) zs (omega arith)
    ∙ sym (cond-true _ _ _ at)
three x y z zs true false at next = cond-false _ _ _ (through x.start y.start z.start false at next) ∙ sym (cond-true _ _ _ at)
three x y z zs false true off next = ap (λ rs. x ∷ rs) (cond-true _ _ _ next) ∙ sym (cond-false _ _ _ off)
three x y z zs false false off next = ap (λ rs. x ∷ rs) (cond-false _ _ _ next) ∙ sym (cond-false _ _ _ off)

-- Two merges in a list of interval rows can be done in either order: that of the first two rows,
-- and that of quarter-hour energies into the last row.
longer : (x y next : Share) (ys zs : List Share) (b : Bool) → x.start == y.start ≡ b
    → with_shares (cond b (one_of x y ∷ next ∷ ys) (x ∷ y ∷ next ∷ ys)) zs ≡ joined x (y ∷ with_shares (next ∷ ys) zs)
longer x y next ys zs true at = sym (cond-true _ _ _ at)
longer x y next ys zs false off = sym (cond-false _ _ _ off)

ahead : (row : Share) (rows shares zs : List Share) (first : Share)
    → with_shares (row ∷ with_shares (first ∷ rows) shares) zs ≡ row ∷ with_shares (with_shares (first ∷ rows) shares) zs
ahead row [] [] zs first = refl
ahead row [] (share ∷ shares) zs first = by (first.start == share.start)
  where
    by : (b : Bool) → with_shares (row ∷ cond b (one_of first share ∷ shares) (first ∷ share ∷ shares)) zs
        ≡ row ∷ with_shares (cond b (one_of first share ∷ shares) (first ∷ share ∷ shares)) zs
    by true = refl
    by false = refl
ahead row (next ∷ rows) shares zs first = refl

pub after_each_other : (xs ys zs : List Share) → with_shares (with_shares xs ys) zs ≡ with_shares xs (with_shares ys zs)
after_each_other [] ys zs = refl
after_each_other (x ∷ []) [] zs = refl
after_each_other (x ∷ []) (y ∷ []) [] = no_shares (joined x (y ∷ []))
after_each_other (x ∷ []) (y ∷ []) (z ∷ zs) = three x y z zs (x.start == y.start) (y.start == z.start) refl refl
after_each_other (x ∷ []) (y ∷ next ∷ ys) zs = longer x y next ys zs (x.start == y.start) refl
after_each_other (x ∷ next ∷ xs) ys zs = ahead x xs ys zs next ∙ ap (λ rs. x ∷ rs) (after_each_other (next ∷ xs) ys zs)

pub rows_of_both : (steps old : List Step) → rows_of_steps (steps ++ old) ≡ with_shares (rows_of_steps old) (rows_of_steps steps)
rows_of_both [] old = sym (no_shares (rows_of_steps old))
rows_of_both (step ∷ steps) old =
    ap (λ rs. with_shares rs (shares_of step)) (rows_of_both steps old)
    ∙ after_each_other (rows_of_steps old) (rows_of_steps steps) (shares_of step)

abbrev pub passing : (ℕ → Bool) → List Share → List Share
passing f rows = filter (λ (row : Share). f row.start) rows

-- States that, in two lists of interval rows, the rows whose starts satisfy the predicate `f` have
-- the same total energy and the same set of starts.
pub record CountTheSame (f : ℕ → Bool) (xs ys : List Share) : Type 0 where
  pub energy : energy_of (passing f xs) ≡ energy_of (passing f ys)
  pub any : (p : ℕ → Bool) → list_any p (starts_of (passing f xs)) ≡ list_any p (starts_of (passing f ys))
  pub count : distinct_count (starts_of (passing f xs)) ≡ distinct_count (starts_of (passing f ys))

-- States that two lists of interval rows (energies of quarter hours) have the same total energy and
-- the same set of starts.
abbrev Counts : (xs ys : List Share) → Type 0
Counts xs ys = (energy_of xs ≡ energy_of ys)
    × ((p : ℕ → Bool) → list_any p (starts_of xs) ≡ list_any p (starts_of ys))
    × (distinct_count (starts_of xs) ≡ distinct_count (starts_of ys))

counts_of : (f : ℕ → Bool) (xs ys : List Share) → CountTheSame f xs ys → Counts (passing f xs) (passing f ys)
counts_of f xs ys h = (h.energy, h.any, h.count)

counted : (f : ℕ → Bool) (xs ys : List Share) → Counts (passing f xs) (passing f ys) → CountTheSame f xs ys
counted f xs ys h = record { energy = h.0; any = h.1; count = h.2 }

count_same : (f : ℕ → Bool) (xs : List Share) → CountTheSame f xs xs
count_same f xs = record { energy = refl; any = λ p. refl; count = refl }

-- If two lists of interval rows (energies by quarter hour) have equal total energies and equal
-- starts, prepending one row to both preserves this.
one_before : (row : Share) (xs ys : List Share) → Counts xs ys → Counts (row ∷ xs) (row ∷ ys)
one_before row xs ys h =
    let mwh : Share → ℕ = λ r. r.mwh in (
      omega (arith, h.0, sum_by-cons mwh row xs, sum_by-cons mwh row ys),
      λ p. ap (λ b. p row.start || b) (h.1 p),
      ap (λ b. cond b 0 1 + distinct_count (starts_of xs)) (h.1 (λ m. m == row.start))
          ∙ ap (λ n. cond (list_any (λ m. m == row.start) (starts_of ys)) 0 1 + n) h.2,
    )

same_before : (f : ℕ → Bool) (row : Share) (xs ys : List Share) (b : Bool) → f row.start ≡ b → CountTheSame f xs ys
    → CountTheSame f (row ∷ xs) (row ∷ ys)
same_before f row xs ys true on h =
    let made : (zs : List Share) → passing f (row ∷ zs) ≡ row ∷ passing f zs = λ zs. cond-true _ _ _ on in
    counted f (row ∷ xs) (row ∷ ys)
    (subst (λ (rs : List Share). Counts rs (passing f (row ∷ ys))) (sym (made xs))
    (subst (λ (rs : List Share). Counts (row ∷ passing f xs) rs) (sym (made ys)) (one_before row (passing f xs) (passing f ys) (counts_of f xs ys h))))
same_before f row xs ys false off h =
    let made : (zs : List Share) → passing f (row ∷ zs) ≡ passing f zs = λ zs. cond-false _ _ _ off in
    counted f (row ∷ xs) (row ∷ ys)
    (subst (λ (rs : List Share). Counts rs (passing f (row ∷ ys))) (sym (made xs))
    (subst (λ (rs : List Share). Counts (passing f xs) rs) (sym (made ys)) (counts_of f xs ys h)))

abbrev share_from : (start mwh : ℕ) → Share
share_from start mwh = record { start = start; mwh = mwh }

or_twice : (a b : Bool) → a || b ≡ a || (a || b)
or_twice true b = refl
or_twice false b = refl

one_less : (b : Bool) (n : ℕ) → b ≡ true → n ≡ cond b 0 1 + n
one_less true n h = omega arith
one_less false n h = absurd (let f : false ≡ true = h in cc)

-- Two rows of one quarter hour have the same energy and the same start as one row with the energy
-- of both.
two_are_one : (s m n : ℕ) (rows : List Share) → Counts (share_from s (m + n) ∷ rows) (share_from s m ∷ share_from s n ∷ rows)
two_are_one s m n rows =
    let mwh : Share → ℕ = λ r. r.mwh in
    let starts : List ℕ = starts_of rows in (
      omega (
        arith,
        sum_by-cons mwh (share_from s (m + n)) rows,
        sum_by-cons mwh (share_from s m) (share_from s n ∷ rows),
        sum_by-cons mwh (share_from s n) rows,
      ),
      λ p. or_twice (p s) (list_any p starts),
      one_less ((s == s) || list_any (λ m. m == s) starts) (cond (list_any (λ m. m == s) starts) 0 1 + distinct_count starts)
          (ap (λ b. b || list_any (λ m. m == s) starts) (eq-eqb s s refl)),
    )

seam_from : (f : ℕ → Bool) (s m n : ℕ) (rows : List Share) (b : Bool) → f s ≡ b
    → CountTheSame f (share_from s (m + n) ∷ rows) (share_from s m ∷ share_from s n ∷ rows)
seam_from f s m n rows true on =
    let made : (k : ℕ) (zs : List Share) → passing f (share_from s k ∷ zs) ≡ share_from s k ∷ passing f zs = λ k zs. cond-true _ _ _ on in
    counted f (share_from s (m + n) ∷ rows) (share_from s m ∷ share_from s n ∷ rows)
    (subst (λ (rs : List Share). Counts rs (passing f (share_from s m ∷ share_from s n ∷ rows))) (sym (made (m + n) rows))
    (subst (λ (rs : List Share). Counts (share_from s (m + n) ∷ passing f rows) rs)
    (sym (made m (share_from s n ∷ rows) ∙ ap (λ rs. share_from s m ∷ rs) (made n rows))) (two_are_one s m n (passing f rows))))
seam_from f s m n rows false off =
    let made : (k : ℕ) (zs : List Share) → passing f (share_from s k ∷ zs) ≡ passing f zs = λ k zs. cond-false _ _ _ off in
    counted f (share_from s (m + n) ∷ rows) (share_from s m ∷ share_from s n ∷ rows)
    (subst (λ (rs : List Share). Counts rs (passing f (share_from s m ∷ share_from s n ∷ rows))) (sym (made (m + n) rows))
    (subst (λ (rs : List Share). Counts (passing f rows) rs) (sym (made m (share_from s n ∷ rows) ∙ made n rows)) (counts_of f rows rows (count_same f rows))))

seam : (f : ℕ → Bool) (row share : Share) (shares : List Share) (b : Bool) → row.start == share.start ≡ b
    → CountTheSame f (cond b (one_of row share ∷ shares) (row ∷ share ∷ shares)) (row ∷ share ∷ shares)
seam f row share shares true at =
    subst (λ (s : ℕ). CountTheSame f (one_of row share ∷ shares) (row ∷ share_from s share.mwh ∷ shares)) (eqb-true row.start share.start at)
    (seam_from f row.start row.mwh share.mwh shares (f row.start) refl)
seam f row share shares false off = count_same f (row ∷ share ∷ shares)

-- If a list of quarter-hour energies is merged into a list of interval rows, the result has the
-- total energy and the quarter hours of both lists.
pub both_count : (f : ℕ → Bool) (rows shares : List Share) → CountTheSame f (with_shares rows shares) (rows ++ shares)
both_count f [] shares = count_same f shares
both_count f (row ∷ []) [] = count_same f (row ∷ [])
both_count f (row ∷ []) (share ∷ shares) = seam f row share shares (row.start == share.start) refl
both_count f (row ∷ next ∷ rows) shares =
    same_before f row (with_shares (next ∷ rows) shares) (next ∷ rows ++ shares) (f row.start) refl (both_count f (next ∷ rows) shares)

pub energy_passing : (f : ℕ → Bool) (rows shares : List Share)
    → energy_of (passing f (with_shares rows shares)) ≡ energy_of (passing f rows) + energy_of (passing f shares)
energy_passing f rows shares =
    let mwh : Share → ℕ = λ r. r.mwh in
    (both_count f rows shares).energy ∙ ap energy_of (filter-append (λ (row : Share). f row.start) rows shares)
    ∙ sum_by-append mwh (passing f rows) (passing f shares)

same_account : (day : ℤ) (count count' mwh mwh' : ℕ) → count ≡ count' → mwh ≡ mwh'
    → (let a : DayAccount = record { day = day; count = count; mwh = mwh } in a) ≡ record { day = day; count = count'; mwh = mwh' }
same_account day count count' mwh mwh' hc hm =
    ap (λ n. let a : DayAccount = record { day = day; count = n; mwh = mwh } in a) hc
    ∙ ap (λ n. let a : DayAccount = record { day = day; count = count'; mwh = n } in a) hm

day_of_both : (zone : Zone) (rows shares : List Share) (day : ℤ) → account_on zone (with_shares rows shares) day ≡ account_on zone (rows ++ shares) day
day_of_both zone rows shares day =
    let both = both_count (λ start. int_eq (day_at zone start) day) rows shares in same_account day _ _ _ _ both.count both.energy

pub counted_once : (rows shares : List Share) → IsAscending (starts_of (with_shares rows shares)) → AreCountedOnce rows shares (with_shares rows shares)
counted_once rows shares ascending =
    record {
      ascending = ascending;
      quarters = λ start. energy_passing (λ s. s == start) rows shares;
      days = λ zone day. day_of_both zone rows shares day;
      energies = λ zone day. energy_passing (λ s. int_eq (day_at zone s) day) rows shares;
      whole = merged_sum rows shares;
    }

pub carries_go_on : CarriesGoOn
carries_go_on meter lines more well h more_h =
    let M : Installed = carried meter lines in
    let well_new = well_carried meter lines well h in
    let long = (rows_are_kept meter lines well h).count in
    let es : List Entry = entries_of (last_in meter lines) more in
    let old : List Entry = entries_of meter.opening lines in
    let entries = entries_of_both meter _ lines more long more_h in
    let last = ap (last_after meter) entries ∙ last_over meter.opening es old in
    let steps : steps_in meter (joined_journal lines more) ≡ steps_in M more ++ steps_in meter lines =
    ap (steps_after meter) entries ∙ steps_over meter.range meter.opening es old in
    record {
      well = well_new;
      rows = rows_over meter _ lines more long more_h;
      entries = entries;
      last = last;
      steps = steps;
      total = ap (total_after meter) entries
          ∙ total_over meter es old (journals_are_kept M more well_new more_h).account.follow (journals_are_kept meter lines well h).account.follow;
      intervals = ap rows_of_steps steps ∙ rows_of_both (steps_in M more) (steps_in meter lines);
      again = ap (λ (l : Last). let m : Installed = record { range = meter.range; ceiling = meter.ceiling; opening = l } in m) (sym last);
    }

pub carries_count_once : SharesAddUp → CarriesCountOnce
carries_count_once law meter lines more well h more_h =
    let M : Installed = carried meter lines in
    let on = carries_go_on meter lines more well h more_h in
    let rows : List Share = interval_rows meter lines in
    let shares : List Share = interval_rows M more in
    let es : List Entry = entries_of (last_in meter lines) more in
    let old : List Entry = entries_of meter.opening lines in
    let follow : AllFollow meter.range meter.opening (es ++ old) =
    follow_over meter.range meter.opening es old (journals_are_kept M more on.well more_h).account.follow
    (journals_are_kept meter lines well h).account.follow in
    let both : steps_after meter (es ++ old) ≡ steps_in M more ++ steps_in meter lines = steps_over meter.range meter.opening es old in
    let account : IsAccount (steps_after meter (es ++ old)) (rows_of_steps (steps_after meter (es ++ old))) =
    rows_are_accounts law (steps_after meter (es ++ old)) (in_time meter (es ++ old) follow) in
    let moved : IsAccount (steps_in M more ++ steps_in meter lines) (rows_of_steps (steps_in M more ++ steps_in meter lines)) =
    subst (λ (ss : List Step). IsAccount ss (rows_of_steps ss)) both account in
    record {
      account = subst (IsAccount (steps_in M more ++ steps_in meter lines)) (sym (ap rows_of_steps on.steps)) moved;
      rows = subst (AreCountedOnce rows shares) (sym on.intervals) (counted_once rows shares
          (subst (λ (rs : List Share). IsAscending (starts_of rs)) (rows_of_both (steps_in M more) (steps_in meter lines)) moved.in_order));
    }
