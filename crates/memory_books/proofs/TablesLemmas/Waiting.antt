-- Lemmas: the query that adds up energy by quarter hour passes all rows to a sink (a consumer of
-- rows). It passes a quarter hour's row as soon as no further energy can belong to this quarter
-- hour.
use Rattle.std.proofs.Common.{◌≡◌, ◌+◌, ◌*◌, ◌^◌, ◌<◌, ◌≤◌, List, [], ◌∷◌, ◌++◌, Option, Some, None, refl, sym, ap, subst, ◌∙◌, arith, append_assoc}
use Rattle.std.specs.Option.{ForSome, option_to_list}
use Rattle.std.proofs.lemmas.List.{append-nil}
use Rattle.energy_core.specs.declared.entries.Step.{Step}
use Rattle.interval_core.specs.declared.shares.Share.{Share}
use Rattle.interval_core.specs.Account.{SharesAddUp, energy_of}
use Rattle.interval_core.specs.Share.{shares_of}
use Rattle.meter_journal.specs.Intervals.{with_shares}
use Rattle.meter_journal.proofs.Joining.{joined_all, all_joined, first_and_rest}
use Rattle.meter_journal.proofs.Merging.{rising_of}
use Rattle.office_books.specs.Rows.{TakesAll}
use Rattle.office_books.proofs.Handing.{takes_more, takes_both}
use Rattle.memory_books.specs.Tables.IntervalRows.{TookBut, Passes}

-- If further quarter-hour energies are added to a list of interval rows, only the last row can
-- change. New rows are appended after it.
after_last : (done : List Share) (row : Share) (shares : List Share) → with_shares (done ++ row ∷ []) shares ≡ done ++ with_shares (row ∷ []) shares
after_last [] row shares = refl
after_last (first ∷ []) row shares = refl
after_last (first ∷ next ∷ done) row shares = ap (λ (rs : List Share). first ∷ rs) (after_last (next ∷ done) row shares)

after_done : (done : List Share) (waits : Option Share) (shares : List Share) → (waits ≡ None → done ≡ [])
    → with_shares (done ++ option_to_list waits) shares ≡ done ++ with_shares (option_to_list waits) shares
after_done done None shares alone =
    let none : done ≡ [] = alone refl in
    ap (λ (ds : List Share). with_shares (ds ++ []) shares) none ∙ sym (ap (λ (ds : List Share). ds ++ with_shares [] shares) none)
after_done done (Some row) shares alone = after_last done row shares

no_done : (done rows : List Share) (waits : Option Share) → rows ≡ done ++ option_to_list waits → (waits ≡ None → rows ≡ []) → waits ≡ None → done ≡ []
no_done [] rows waits is none w = refl
no_done (first ∷ done) rows waits is none w = absurd (let e : first ∷ (done ++ option_to_list waits) ≡ [] = sym is ∙ none w in cc)

-- If further quarter-hour energies are processed, the sink (a consumer of rows) has received all
-- resulting interval rows except the last row, to which more energy may be added.
pub took_more : {S : Type 0} (takes : S → Share → S → Type 0) (before now after : S) (waited waits : Option Share) (rows shares : List Share)
    → TookBut takes before now waited rows → Passes takes now after waited waits shares → TookBut takes before after waits (with_shares rows shares)
took_more takes before now after waited waits rows shares took passes = record {
  done = took.done ++ passes.done;
  took = takes_both takes before now after took.done passes.done took.took passes.took;
  rows_are = ap (λ (rs : List Share). with_shares rs shares) took.rows_are
      ∙ after_done took.done waited shares (no_done took.done rows waited took.rows_are took.none)
      ∙ ap (λ (rs : List Share). took.done ++ rs) (sym passes.rows_are) ∙ sym (append_assoc took.done passes.done (option_to_list waits));
  none = λ w.
      let was = passes.none w in
      ap (λ (rs : List Share). with_shares rs shares) (took.none was.0) ∙ was.1;
}

-- After the last interval row (the energy of a quarter hour) is passed to the sink (a consumer of
-- rows), the sink has received all rows.
pub took_all : {S : Type 0} (takes : S → Share → S → Type 0) (before now after : S) (row : Share) (rows : List Share)
    → TookBut takes before now (Some row) rows → takes now row after → TakesAll takes before rows after
took_all takes before now after row rows took more =
    let P : List Share → Type 0 = λ rs. TakesAll takes before rs after in
    subst P (sym took.rows_are) (takes_more takes before now after took.done row took.took more)

pub took_none : {S : Type 0} (takes : S → Share → S → Type 0) (before now : S) (rows : List Share)
    → TookBut takes before now None rows → TakesAll takes before rows now
took_none takes before now rows took =
    let P : List Share → Type 0 = λ rs. TakesAll takes before rs now in
    subst P (sym (took.rows_are ∙ append-nil took.done)) took.took

-- The state of a query for interval rows in progress. The sink (a consumer of rows) has received
-- the interval rows of all processed energies except the last row, and the energies `left` are not
-- processed yet.
pub record GoesBy {S : Type 0} (takes : S → Share → S → Type 0) (before after : S) (waited waits : Option Share) (shares left : List Share) : Type 0 where
  pub done : List Share
  pub took : TakesAll takes before done after
  pub rows_are : joined_all (done ++ option_to_list waits) left ≡ joined_all (option_to_list waited) shares
  pub none : waits ≡ None → (done ≡ []) × (waited ≡ None) × (left ≡ shares)

pub goes_by_next : {S : Type 0} (takes : S → Share → S → Type 0) (before now after : S) (waited waits next : Option Share) (shares left rest : List Share) (share : Share)
    → left ≡ share ∷ rest → GoesBy takes before now waited waits shares left → Passes takes now after waits next (share ∷ [])
    → GoesBy takes before after waited next shares rest
goes_by_next takes before now after waited waits next shares left rest share is goes passes = record {
  done = goes.done ++ passes.done;
  took = takes_both takes before now after goes.done passes.done goes.took passes.took;
  rows_are = ap (λ (rs : List Share). joined_all rs rest)
      (append_assoc goes.done passes.done (option_to_list next) ∙ ap (λ (rs : List Share). goes.done ++ rs) passes.rows_are
      ∙ sym (after_done goes.done waits (share ∷ []) (λ w. (goes.none w).0)))
      ∙ ap (joined_all (goes.done ++ option_to_list waits)) (sym is) ∙ goes.rows_are;
  none = λ w. absurd (let e : share ∷ [] ≡ [] = (passes.none w).1 in cc);
}

pub goes_by_whole : SharesAddUp → {S : Type 0} (takes : S → Share → S → Type 0) (before after : S) (waited waits : Option Share) (step : Step) (left : List Share)
    → left ≡ [] → step.from < step.till → GoesBy takes before after waited waits (shares_of step) left
    → Passes takes before after waited waits (shares_of step)
goes_by_whole law takes before after waited waits step left none forward goes = record {
  done = goes.done;
  took = goes.took;
  rows_are = ap (joined_all (goes.done ++ option_to_list waits)) (sym none) ∙ goes.rows_are
      ∙ all_joined (option_to_list waited) (shares_of step) (rising_of (shares_of step) (law step forward).in_order);
  none = λ w.
      let was = goes.none w in
      (was.1, sym was.2 ∙ none);
}

-- Suppose that the last interval row and the pending quarter-hour energies together are at most 4 *
-- 10^18 mWh. Then the sum of this row's energy and the next pending energy fits in 64 bits.
pub room : (waits : Option Share) (share : Share) (left rest : List Share) → left ≡ share ∷ rest
    → energy_of (option_to_list waits) + energy_of left ≤ 4 * 10 ^ 18 → ForSome waits (λ row. row.mwh + share.mwh < 2 ^ 64)
room waits share left rest is within = λ row at.
    omega (arith, within, ap energy_of is, first_and_rest share rest, ap (λ (o : Option Share). energy_of (option_to_list o)) at, first_and_rest row [])
