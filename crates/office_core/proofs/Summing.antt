-- Lemmas about the sink that adds up interval rows (energy by quarter hour) by civil day. A sink
-- receives the rows of a query one by one.
use Rattle.std.proofs.Common.{◌≡◌, ℕ, ◌+◌, ◌≤◌, ◌<◌, Bool, not, List, [], ◌∷◌, ◌++◌, length, get_or, Option, Some, None, inr, refl, sym, ap, subst, ◌∙◌, arith, append_assoc, length-append}
use Rattle.std.specs.Prelude.{MatchOption, MatchResult, Result, Ok, Err, map, unwrap_or}
use Rattle.std.specs.declared.alloc.Global.{Global}
use Rattle.std.specs.declared.vec.Vec.{Vec}
use Rattle.std.proofs.Math.ListN.{get_or-append}
use Rattle.std.proofs.Math.Seq.{get_or-append_seam}
use Rattle.std.proofs.lemmas.List.{append-nil}
use Rattle.std.proofs.lemmas.List.Elements.{All-filter, All-map, All-contains}
use Rattle.std.proofs.lemmas.List.Filters.{sum_by-filter_both}
use Rattle.std.proofs.lemmas.List.Kept.{IsNonDecreasingBy-filter}
use Rattle.std.proofs.lemmas.List.Sums.{sum_by-append}
use Rattle.interval_core.specs.Account.{energy_of, starts_of}
use Rattle.interval_core.specs.Days.{AreAccounts, account_of}
use Rattle.interval_core.specs.Fold.{FoldState, HasTaken, IsLatest}
use Rattle.interval_core.specs.declared.day.DayFault.{DayFault}
use Rattle.interval_core.specs.declared.day.DayFault.TheVariants as fault
use Rattle.interval_core.specs.declared.shares.Share.{Share}
use Rattle.interval_core.specs.declared.zone.Zone.{Zone}
use Rattle.interval_core.specs.declared.totals.DayTotal.{DayTotal}
use Rattle.office_events.specs.declared.refusals.Refusal.{Refusal}
use Rattle.office_books.specs.Facts.{moment_limit}
use Rattle.office_books.specs.Intervals.{rows_of_register}
use Rattle.office_books.specs.Registers.{CanBeFolded, RegistersAreInTurn}
use Rattle.office_books.specs.declared.spans.Span.{Span}
use Rattle.office_books.specs.declared.spans.Span.TheVariants.{All, Between}
use Rattle.office_books.specs.Ledgers.{Ledger, OnlyReads}
use Rattle.office_books.specs.Rows.{TakesAll, HandsOn}
use Rattle.office_books.specs.Spans.{is_within, rows_within}
use Rattle.office_core.specs.declared.day_sink.DaySink.{DaySink}
use Rattle.office_core.specs.Asking.{ListsDays}
use Rattle.office_core.specs.DaySums.{MayFollow, UnlessFailed, HasAdded, AddsRow, TakesShare, EndsAs}
use Rattle.office_core.specs.Failing.{IsOutside}

-- Suppose that the energy of a list's interval rows can be added up by civil day. Then each row
-- meets the precondition for adding it after the rows before it (`MayFollow`): its start is not
-- earlier, and the total fits.
may_follow : (done rest : List Share) (row : Share) → CanBeFolded (done ++ row ∷ rest) → MayFollow done row
may_follow done rest row folds =
    let start : Share → ℕ = λ r. r.start in
    let within : length done < length (done ++ row ∷ rest) = simp length-append (omega arith) in
    record {
      in_turn = λ k d less.
          let le : start (get_or (done ++ row ∷ rest) k d) ≤ start (get_or (done ++ row ∷ rest) (length done) d) =
          folds.never_fall k (length done) d (omega arith) within in
          omega (arith, le, ap start (get_or-append done (row ∷ rest) d k less), ap start (get_or-append_seam done row rest d));
      moment =
          let le : start (get_or (done ++ row ∷ rest) (length done) row) ≤ 4102444800 = folds.moments (length done) row within in
          omega (arith, le, ap start (get_or-append_seam done row rest row));
      energy =
          let more : energy_of (done ++ row ∷ rest) ≡ energy_of done + energy_of (row ∷ rest) = sum_by-append (λ (r : Share). r.mwh) done (row ∷ rest) in
          let first : energy_of (row ∷ rest) ≡ energy_of (row ∷ []) + energy_of rest = sum_by-append (λ (r : Share). r.mwh) (row ∷ []) rest in
          omega (arith, folds.energy, more, first);
    }

-- After a query passes one more interval row to a sink that adds up energy by civil day, the sink
-- has added the row or has failed.
add_one : (failed : Option DayFault) (done : List Share) (row : Share) (s next : DaySink) → s.fault ≡ failed → MayFollow done row
    → UnlessFailed failed (HasTaken s.zone done s.fold) → MatchOption failed (AddsRow s row next) (λ fault. next ≡ s)
    → (next.zone ≡ s.zone) × HasAdded next (done ++ row ∷ [])
add_one None done row s next is may added step = (step.zone, step.added done added may)
add_one (Some fault.Memory) done row s next is may added step =
    let P : Option DayFault → Type 0 = λ f. UnlessFailed f (HasTaken s.zone (done ++ row ∷ []) s.fold) in
    let Q : DaySink → Type 0 = λ t. (t.zone ≡ s.zone) × HasAdded t (done ++ row ∷ []) in
    subst Q (sym step) (refl, subst P (sym is) tt)
add_one (Some fault.Zone) done row s next is may added step = absurd added

-- After a query passes its remaining interval rows to a sink that adds up energy by civil day, the
-- sink has added all rows or has failed.
add_all : (zone : Zone) (done rest : List Share) (s after : DaySink) → s.zone ≡ zone → CanBeFolded (done ++ rest) → HasAdded s done
    → TakesAll TakesShare s rest after → (after.zone ≡ zone) × HasAdded after (done ++ rest)
add_all zone done [] s after is folds added took =
    let P : DaySink → Type 0 = λ t. (t.zone ≡ zone) × HasAdded t (done ++ []) in
    subst P (sym took) (is, subst (HasAdded s) (sym (append-nil done)) added)
add_all zone done (row ∷ rest) s after is folds added took =
    let step = add_one s.fault done row s took.0 refl (may_follow done rest row folds) added took.1 in
    let same : (done ++ row ∷ []) ++ rest ≡ done ++ row ∷ rest = append_assoc done (row ∷ []) rest in
    let all = add_all zone (done ++ row ∷ []) rest took.0 after (step.0 ∙ is) (subst CanBeFolded (sym same) folds) step.1 took.2 in
    (all.0, subst (HasAdded after) same all.1)

-- If a new sink for sums by civil day received interval rows (energies by quarter hour), then it
-- has added all of the rows, or it has failed.
pub added_up : (fresh after : DaySink) (rows : List Share) → CanBeFolded rows → fresh.fault ≡ None → HasTaken fresh.zone [] fresh.fold
    → TakesAll TakesShare fresh rows after → (after.zone ≡ fresh.zone) × HasAdded after rows
added_up fresh after rows folds works empty took =
    let P : Option DayFault → Type 0 = λ f. UnlessFailed f (HasTaken fresh.zone [] fresh.fold) in
    add_all fresh.zone [] rows fresh after refl folds (subst P (sym works) empty) took

-- If the sums by civil day may be extended by an interval row (the energy of a quarter hour), then
-- this row starts no earlier than the latest added row.
after_latest : (rows : List Share) (latest : Option ℕ) (row : Share) → IsLatest rows latest → MayFollow rows row → unwrap_or latest 0 ≤ row.start
after_latest rows None row at may = omega arith
after_latest rows (Some start) row at may =
    let P : ℕ → Type 0 = λ m. m ≤ row.start in
    All-contains P (starts_of rows) start (All-map P (λ (r : Share). r.start) rows may.in_turn) at.0

pub no_earlier : (zone : Zone) (rows : List Share) (fold : FoldState) (latest : Option ℕ) (row : Share) → fold.latest ≡ latest → HasTaken zone rows fold
    → MayFollow rows row → unwrap_or latest 0 ≤ row.start
no_earlier zone rows fold latest row same taken may = after_latest rows latest row (subst (IsLatest rows) same taken.latest) may

-- The days in the sums by civil day are the civil days of the added interval rows, with their
-- energy.
days_by : (failed : Option DayFault) (old new : Ledger) (zone : Zone) (rows : List Share) (fold : FoldState)
    (result : Result (Vec DayTotal Global) Refusal) → new.failures ≡ old.failures → UnlessFailed failed (HasTaken zone rows fold)
    → EndsAs failed fold.accounts result
    → MatchResult result (λ days. AreAccounts zone rows (map account_of days.items) × (new.failures ≡ old.failures))
    (IsOutside (Unit {0}) old.failures new.failures)
days_by None old new zone rows fold (Ok days) same added ends = (subst (AreAccounts zone rows) (sym ends) added.accounts, same)
days_by None old new zone rows fold (Err why) same added ends = absurd ends
days_by (Some f) old new zone rows fold (Ok days) same added ends = absurd ends
days_by (Some fault.Memory) old new zone rows fold (Err why) same added ends =
    subst (IsOutside (Unit {0}) old.failures new.failures) (sym ends) (inr (tt, same))
days_by (Some fault.Zone) old new zone rows fold (Err why) same added ends = absurd added

-- If the energy of a list's interval rows can be added up by civil day, then this also holds for
-- its rows in a time span.
folds_within : (span : Span) (rows : List Share) → CanBeFolded rows → CanBeFolded (rows_within span rows)
folds_within All rows folds = folds
folds_within (Between from till) rows folds =
    let asked : Share → Bool = λ row. is_within (Between from till) row.start in
    let both = sum_by-filter_both asked (λ row. not (asked row)) (λ row. refl) (λ (row : Share). row.mwh) rows in
    record {
      never_fall = IsNonDecreasingBy-filter (λ row. row.start) asked rows folds.never_fall;
      moments = All-filter asked (λ row. row.start ≤ moment_limit) rows folds.moments;
      energy = omega (arith, folds.energy, both);
    }

pub adds_up : (old new : Ledger) (fresh after : DaySink) (register : List ℕ) (span : Span) (done : Unit {0}) (result : Result (Vec DayTotal Global) Refusal)
    → RegistersAreInTurn → fresh.zone ≡ old.zone → fresh.fault ≡ None → HasTaken fresh.zone [] fresh.fold
    → HandsOn TakesShare old new fresh after (Ok done) (λ known. rows_within span (rows_of_register known register)) → OnlyReads old new (Ok done)
    → EndsAs after.fault after.fold.accounts result → ListsDays old new register span result
adds_up old new fresh after register span done result in_turn zone works empty hands reads ends = λ known lawful holds clean.
    let rows = rows_within span (rows_of_register known register) in
    let folds = folds_within span (rows_of_register known register) (in_turn known register lawful) in
    let up = added_up fresh after rows folds works empty (hands.whole known holds clean) in
    let P : Zone → Type 0 = λ z. UnlessFailed after.fault (HasTaken z rows after.fold) in
    days_by after.fault old new old.zone rows after.fold result reads.goes.faults (subst P (up.0 ∙ zone) up.1) ends
