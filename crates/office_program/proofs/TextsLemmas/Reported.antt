-- Lemmas: the lines of the days that the office (the event engine) passes to the writer of a
-- report, and the line with their number, are the report's printed text.
use Rattle.std.proofs.Common.{◌≡◌, ◌≤◌, ◌<◌, ◌^◌, ℕ, Option, List, [], ◌++◌, length, refl, ap, arith}
use Rattle.std.specs.List.{flat_map}
use Rattle.std.specs.Prelude.{Result, Ok, Err}
use Rattle.std.proofs.Math.Nat.{min-eq_left}
use Rattle.interval_core.specs.declared.totals.DayTotal.{DayTotal}
use Rattle.interval_core.specs.declared.zone.Zone.{Zone}
use Rattle.office_books.specs.declared.failures.Failures.{Failures}
use Rattle.office_books.specs.Rows.{TakesAll}
use Rattle.office_core.specs.Asking.{HandsDays}
use Rattle.office_events.specs.declared.refusals.Refusal.{Refusal}
use Rattle.office_books.specs.History.{History, facts_of}
use Rattle.energy_report.specs.RowLines.{counted}
use Rattle.office_program.specs.Texts.Reports.{IsReport, last_line}
use Rattle.interval_core.specs.Lines.{day_line, end_line}

-- If the number of days of a report is below 2^64, then it is counted exactly.
counts : (n : ℕ) → n < 2 ^ 64 → counted n ≡ n
counts n few = min-eq_left (let fits : n ≤ 18446744073709551615 = omega (arith, few) in fits)

-- The lines of the days that the writer of a report received, followed by the last line, are the
-- text of the report.
pub as_reported : {S : Type 0} (takes : S → DayTotal → S → Type 0) (zone : Zone) (past : History) (register : Option (List ℕ))
    (before after : Failures) (from to : S) (reply : Result (Unit {0}) Refusal)
    → HandsDays takes zone (facts_of past) register before after from to reply
    → (shown : List DayTotal) × TakesAll takes from shown to
    × IsReport zone past register reply (flat_map day_line shown ++ last_line (counted (length shown)) reply)
as_reported takes zone past register before after from to (Ok done) hands =
    let days = hands.whole.days in
    let text = ap (λ n. flat_map day_line days ++ end_line n) (counts (length days) hands.whole.few) in
    (days, hands.whole.took, (days, hands.whole.are, text))
as_reported takes zone past register before after from to (Err why) hands = ([], hands.none, refl)
