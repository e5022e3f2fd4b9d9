-- Lemmas: the report of a register (a named counter) over several database files with one joint
-- history has the daily energies of all files.
use Rattle.std.proofs.Common.{◌≡◌, ℕ, ◌+◌, ◌<◌, ◌^◌, ◌==◌, Bool, true, false, cond, not, List, [], ◌∷◌, ◌++◌, length, Option, inl, inr, refl, sym, ap, subst, ◌∙◌, arith}
use Rattle.std.specs.Prelude.{filter, map, if◌then◌else◌}
use Rattle.std.specs.List.{list_any}
use Rattle.std.proofs.lemmas.List.{length-map}
use Rattle.std.proofs.lemmas.Bool.{cases_Bool, cond-true, cond-false}
use Rattle.std.proofs.lemmas.List.Elements.{filter-append}
use Rattle.std.proofs.lemmas.List.Filters.{sum_by-filter_both}
use Rattle.std.proofs.lemmas.List.Sums.{sum_by-append}
use Rattle.command_io.specs.declared.status.ExitStatus.{ExitStatus}
use Rattle.command_io.specs.declared.status.ExitStatus.TheVariants.{Fine, Failed}
use Rattle.energy_report.specs.Rows.{rows_by, shown}
use Rattle.energy_report.specs.Texts.{report_text, rows_text}
use Rattle.energy_report.specs.Writing.{GotUnless, IsFresh, TakesDay}
use Rattle.energy_report.specs.declared.form.ReportForm.{ReportForm}
use Rattle.energy_report.specs.declared.report_rows.ReportRows.{ReportRows}
use Rattle.interval_core.specs.Account.{energy_of, starts_of}
use Rattle.meter_journal.specs.Audit.Carried.{AreCountedOnce}
use Rattle.interval_core.specs.Days.{AccountsAreOne, AreAccounts, DayAccount, account_of, distinct_count, rows_on}
use Rattle.interval_core.specs.Ranges.{days_in, has_day, is_in}
use Rattle.interval_core.specs.Zone.{day_at}
use Rattle.interval_core.specs.declared.day_range.DayRange.{DayRange}
use Rattle.interval_core.specs.declared.shares.Share.{Share}
use Rattle.interval_core.specs.declared.totals.DayTotal.{DayTotal}
use Rattle.interval_core.specs.declared.zone.Zone.{Zone}
use Rattle.office_books.specs.declared.spans.Span.{Span}
use Rattle.office_books.specs.declared.spans.Span.TheVariants.{All, Between}
use Rattle.office_books.specs.Rows.{TakesAll}
use Rattle.office_books.specs.Spans.{is_within, rows_within}
use Rattle.office_core.specs.DayRange.{accounts_within, span_of}
use Rattle.office_core.proofs.Around.{has_each}
use Rattle.office_core.proofs.Ranged.{days_within, same_days}
use Rattle.office_events.specs.declared.facts.Fact.{Fact}
use Rattle.office_program.specs.Texts.EndTexts.{IsReported}
use Rattle.office_program.specs.Texts.RangedReports.{PrintsLast}
use Rattle.office_program.proofs.TextsLemmas.Ranged.{taken_all}
use Rattle.office_books.specs.Intervals.{rows_of_register}
use Rattle.carried_books.specs.Joining.Days.{HasNumber}
use Rattle.carried_books.specs.Joining.Files.{HasJoined, rows_over, rows_over_within}
use Rattle.carried_books.specs.Joining.Reports.{IsReportOver}
use Rattle.carried_books.specs.declared.joining.files.JoinedFiles.{JoinedFiles}

pub both_within : (span : Span) (rows more : List Share) → rows_within span (rows ++ more) ≡ rows_within span rows ++ rows_within span more
both_within All rows more = refl
both_within (Between from till) rows more = filter-append (λ (row : Share). is_within (Between from till) row.start) rows more

pub none_within : (span : Span) → rows_within span [] ≡ []
none_within All = refl
none_within (Between from till) = refl

over_within : (span : Span) (register : List ℕ) (files : List (List Fact)) → rows_over_within span register files ≡ rows_within span (rows_over register files)
over_within span register [] = sym (none_within span)
over_within span register (facts ∷ files) =
    ap (λ (rows : List Share). rows ++ rows_within span (rows_of_register facts register)) (over_within span register files)
    ∙ sym (both_within span (rows_over register files) (rows_of_register facts register))

pub has_number : (span : Span) (rows : List Share) → HasNumber rows → HasNumber (rows_within span rows)
has_number All rows fits = fits
has_number (Between from till) rows fits =
    let asked : Share → Bool = λ row. is_within (Between from till) row.start in
    let both = sum_by-filter_both asked (λ row. not (asked row)) (λ row. refl) (λ (row : Share). row.mwh) rows in
    omega (arith, fits, both)

pub with_number : (span : Span) (rows more : List Share) → HasNumber (rows ++ more) → HasNumber (rows ++ rows_within span more)
with_number All rows more fits = fits
with_number (Between from till) rows more fits =
    let asked : Share → Bool = λ row. is_within (Between from till) row.start in
    let both = sum_by-filter_both asked (λ row. not (asked row)) (λ row. refl) (λ (row : Share). row.mwh) more in
    let whole : energy_of (rows ++ more) ≡ energy_of rows + energy_of more = sum_by-append (λ (row : Share). row.mwh) rows more in
    let part : energy_of (rows ++ filter asked more) ≡ energy_of rows + energy_of (filter asked more) = sum_by-append (λ (row : Share). row.mwh) rows (filter asked more) in
    omega (arith, fits, both, whole, part)

-- Filtering a list twice with one test gives the same list as filtering once. So a report is the
-- same if the civil days outside its range were removed before.

twice : {X : Type 0} (p : X → Bool) (xs : List X) → filter p (filter p xs) ≡ filter p xs
twice p [] = refl
twice p (x ∷ xs) = elim (cases_Bool (p x)) [
  | inl is ↦ ap (filter p) (cond-true _ _ _ is) ∙ cond-true _ _ _ is ∙ ap (λ l. x ∷ l) (twice p xs) ∙ sym (cond-true _ _ _ is)
  | inr isnt ↦ ap (filter p) (cond-false _ _ _ isnt) ∙ twice p xs ∙ sym (cond-false _ _ _ isnt)
]

same_text : (form : ReportForm) (days : List DayTotal) → report_text form (days_in form.range days) ≡ report_text form days
same_text form days =
    ap (λ (those : List DayTotal). rows_text form (map shown (rows_by form.period those))) (twice (λ total. is_in form.range total.day) days)

-- Suppose that a report uses only the energy intervals in a time span that contains its range of
-- days. Then the report has the same text as a report from all intervals.
pub report_over : (zone : Zone) (register : List ℕ) (files : List (List Fact)) (form : ReportForm) (days : List DayTotal) → AccountsAreOne
    → AreAccounts zone (rows_within (span_of form.range) (rows_over register files)) (map account_of days)
    → IsReportOver zone register files form (report_text form days)
report_over zone register files form days one totals =
    let asked = days_within zone form.range (span_of form.range) (λ start is. has_each form.range.from form.range.till zone start is)
    one (rows_over register files) days (days_in form.range days) totals refl in (
      days_in form.range days,
      record { all = asked.0; are = asked.1; asked = asked.2 },
      sym (same_text form days),
    )

days_with : (zone : Zone) (range : DayRange) (asked : Span) → ((start : ℕ) → has_day range (day_at zone start) ≡ true → is_within asked start ≡ true)
    → AccountsAreOne → (rows more : List Share) (days : List DayTotal) → AreAccounts zone (rows ++ rows_within asked more) (map account_of days)
    → (all : List DayAccount) × AreAccounts zone (rows ++ more) all × (map account_of (days_in range days) ≡ accounts_within range all)
days_with zone range All around one rows more days are = days_within zone range All around one (rows ++ more) days (days_in range days) are refl
days_with zone range (Between from till) around one rows more days are =
    let test : Share → Bool = λ row. is_within (Between from till) row.start in
    let part = rows ++ filter test more in
    let whole = rows ++ more in
    let same : filter test part ≡ filter test whole =
    filter-append test rows (filter test more) ∙ ap (λ (those : List Share). filter test rows ++ those) (twice test more) ∙ sym (filter-append test rows more) in
    let reported = days_within zone range All (λ start on. refl) one part days (days_in range days) are refl in
    let all = one zone whole in
    let some = one zone (filter test whole) in
    let within : (row : Share) → has_day range (day_at zone row.start) ≡ true → test row ≡ true = λ row on. around row.start on in
    let left = same_days zone (has_day range) test within one part some.0 reported.0 (subst (λ (l : List Share). AreAccounts zone l some.0) (sym same) some.1) reported.1 in
    let right = same_days zone (has_day range) test within one whole some.0 all.0 some.1 all.1 in
    (all.0, all.1, reported.2 ∙ sym left ∙ right)

pub report_with : (zone : Zone) (register : List ℕ) (facts : List Fact) (files : List (List Fact)) (form : ReportForm) (days : List DayTotal) → AccountsAreOne
    → AreAccounts zone (rows_over register files ++ rows_within (span_of form.range) (rows_of_register facts register)) (map account_of days)
    → IsReportOver zone register (facts ∷ files) form (report_text form days)
report_with zone register facts files form days one totals =
    let asked = days_with zone form.range (span_of form.range) (λ start is. has_each form.range.from form.range.till zone start is)
    one (rows_over register files) (rows_of_register facts register) days totals in (
      days_in form.range days,
      record { all = asked.0; are = asked.1; asked = asked.2 },
      sym (same_text form days),
    )

pub is_over : (zone : Zone) (register : List ℕ) (files : List (List Fact)) (form : ReportForm) (joined : JoinedFiles) (days : List DayTotal) → AccountsAreOne
    → HasJoined zone (span_of form.range) register files joined → HasNumber (rows_over register files)
    → map account_of days ≡ joined.days.fold.accounts → IsReportOver zone register files form (report_text form days)
is_over zone register files form joined days one has fits are =
    let span = span_of form.range in
    let rows = rows_over register files in
    let same = over_within span register files in
    let taken = has.days (subst HasNumber (sym same) (has_number span rows fits)) in
    let totals = subst (λ (accounts : List DayAccount). AreAccounts zone (rows_over_within span register files) accounts) (sym are) taken.accounts in
    report_over zone register files form days one (subst (λ (those : List Share). AreAccounts zone those (map account_of days)) same totals)

-- After the days of a report were written, the report still writes to the same output as before.
pub taken_by : {W : Type 0} (contents : W → Option (List ℕ)) (days : List DayTotal) (from to : ReportRows W) → TakesAll (TakesDay contents) from days to
    → to.output.ghost_name ≡ from.output.ghost_name
taken_by {W} contents [] from to took = ap (λ (rows : ReportRows W). rows.output.ghost_name) took
taken_by contents (day ∷ more) from to took = taken_by contents more took.0 to took.2 ∙ took.1.output

reported_by : (failed : Bool) (status : ExitStatus) (text : List ℕ) (old new : Option (List ℕ)) → status ≡ (if failed then Failed else Fine)
    → GotUnless failed text old new → IsReported text Fine status old new
reported_by false status text old new is got = inl (is, got)
reported_by true status text old new is got = inr (is, got)

pub reported_over : {W : Type 0} (contents : W → Option (List ℕ)) (form : ReportForm) (days : List DayTotal) (from to left : ReportRows W) (output : W) (status : ExitStatus)
    → IsFresh contents form output from → TakesAll (TakesDay contents) from days to → length days < 2 ^ 64 → PrintsLast contents status to left
    → IsReported (report_text form days) Fine status (contents output) (contents left.output.now)
reported_over contents form days from to left output status fresh took few last =
    let taken = taken_all contents [] days from from to fresh.taken took in
    let got = last.finishes.finished from days taken few in
    let reported = reported_by left.failed status (report_text from.form days) (contents from.output.now) (contents left.output.now) last.means got in
    rw (sym fresh.form, sym fresh.output) reported

-- If a list of numbers is not empty, then it has at least one distinct number.
positive : (ns : List ℕ) → 0 < length ns → 0 < distinct_count ns
positive [] less = absurd (omega (arith, less))
positive (n ∷ []) less = omega arith
positive (n ∷ m ∷ ms) less =
    let rest = positive (m ∷ ms) (omega arith) in
    elim (list_any (λ k. k == n) (m ∷ ms)) as (λ b. 0 < cond b 0 1 + distinct_count (m ∷ ms)) [
      | true ↦ omega (arith, rest)
      | false ↦ omega (arith, rest)
    ]

some_there : (ns : List ℕ) → 0 < distinct_count ns → 0 < length ns
some_there [] less = absurd (omega (arith, less))
some_there (n ∷ ns) less = omega arith

-- If two lists of intervals have equally many distinct quarter hours, and one list is not empty,
-- then the other is not empty.
there_too : (rows others : List Share) → distinct_count (starts_of rows) ≡ distinct_count (starts_of others) → 0 < length rows → 0 < length others
there_too rows others same less =
    let counted = positive (starts_of rows) (subst (λ n. 0 < n) (sym (length-map rows (λ (row : Share). row.start))) less) in
    subst (λ n. 0 < n) (length-map others (λ (row : Share). row.start)) (some_there (starts_of others) (subst (λ n. 0 < n) same counted))

pub joined_days : (zone : Zone) (old new both : List Share) (accounts : List DayAccount) → AreCountedOnce old new both
    → AreAccounts zone (old ++ new) accounts → AreAccounts zone both accounts
joined_days zone old new both accounts once are = record {
  in_order = are.in_order;
  complete = λ day.
      let same = ap (λ (account : DayAccount). account.count) (once.days zone day) in (
        λ has. there_too (rows_on zone (old ++ new) day) (rows_on zone both day) (sym same) ((are.complete day).0 has),
        λ some. (are.complete day).1 (there_too (rows_on zone both day) (rows_on zone (old ++ new) day) same some),
      );
  each = λ k d less. are.each k d less ∙ sym (once.days zone _);
}
