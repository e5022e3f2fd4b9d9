-- Lemmas on the loop that audits the polls in runs of `RUN` consecutive poll numbers: the loop
-- reports the discrepancies of all runs that it read.
use Rattle.std.proofs.Common.{◌≡◌, ◌⊎◌, inl, inr, ◌<◌, ◌≤◌, ◌+◌, ◌*◌, ◌/◌, ◌%◌, ◌^◌, ◌-◌, ℕ, suc, min, Bool, false, List, [], ◌∷◌, ◌++◌, length, refl, sym, ap, subst, ◌∙◌, arith}
use Rattle.std.proofs.lemmas.Grind.{div_ceil_times}
use Rattle.std.proofs.lemmas.List.{length-append}
use Rattle.store_tables.specs.Content.{Content}
use Rattle.table_audit.specs.declared.differences.Difference.{Difference}
use Rattle.table_audit.specs.declared.differences.TheConstants.{MOST}
use Rattle.table_audit.specs.declared.findings.Finding.{Finding}
use Rattle.table_audit.specs.declared.findings.Findings.{Findings}
use Rattle.table_audit.specs.declared.poll_rows.RunRows.{RunRows}
use Rattle.table_audit.specs.declared.poll_rows.TheConstants.{RUN}
use Rattle.table_audit.specs.Named.{IsReported}
use Rattle.table_audit.specs.PollDifferences.{latest_start, latest_of_runs, differences_of_run, differences_of_runs}
use Rattle.table_audit.specs.PollShowing.{AreRowsOfRun}
use Rattle.table_audit.specs.Polls.{AreRuns, AreFineRuns, Stops, StopsAfter, ReportsRun, ReportsRuns}
use Rattle.table_audit.proofs.Differing.{none_are_fine, fine_are_none, differences_more, latest_more}
use Rattle.table_audit.proofs.Named.{none_reported_yet, reported_then, reported_none, none_so_reported}

runs_more : (content : Content) (run : ℕ) (xs : List RunRows) (x : RunRows) → AreRuns content run xs → AreRowsOfRun (run + length xs) content x
    → AreRuns content run (xs ++ x ∷ [])
runs_more content run [] x theirs one =
    let there : run + length (let none : List RunRows = [] in none) ≡ run = omega arith in
    (subst (λ (n : ℕ). AreRowsOfRun n content x) there one, tt)
runs_more content run (y ∷ ys) x theirs one =
    let there : run + length (y ∷ ys) ≡ suc run + length ys = omega arith in
    (theirs.0, runs_more content (suc run) ys x theirs.1 (subst (λ (n : ℕ). AreRowsOfRun n content x) there one))

stops_last : (xs : List RunRows) (x : RunRows) (found : Findings) → Stops x found → StopsAfter (xs ++ x ∷ []) found
stops_last [] x found stops = stops
stops_last (y ∷ []) x found stops = stops
stops_last (y ∷ z ∷ zs) x found stops = stops_last (z ∷ zs) x found stops

stopped_full : (xs : List RunRows) (found : Findings) → StopsAfter xs found → MOST ≤ length found.first.items
stopped_full [] found none = absurd none
stopped_full (x ∷ []) found stops = stops.1
stopped_full (x ∷ y ∷ ys) found stops = stopped_full (y ∷ ys) found stops

-- The state of the audit's loop after the first `n` runs of polls (`RUN` consecutive numbers each):
-- the rows of these runs were read, and their discrepancies were reported.
pub record IsSoFar (last n latest : ℕ) (old new : Findings) (content : Content) : Type 0 where
  pub runs : List RunRows
  pub long : length runs ≡ n
  pub theirs : AreRuns content 0 runs
  pub reported : IsReported (differences_of_runs 0 last 0 runs) old new
  pub latest_is : latest ≡ latest_of_runs 0 runs

pub none_yet : (last : ℕ) (found : Findings) (content : Content) → length found.first.items ≤ MOST → found.more ≤ 2 ^ 64 - 1
    → IsSoFar last 0 0 found found content
none_yet last found content few fits = record { runs = []; long = refl; theirs = tt; reported = none_reported_yet found few fits; latest_is = refl }

module _ (last n since latest : ℕ) (old mid new : Findings) (content : Content) (goes_on : Bool) (before : IsSoFar last n since old mid content)
    (one : ReportsRun n last since latest mid new content goes_on) where
  there : 0 + length before.runs ≡ n
  there = let long = before.long in omega (arith, long)

  pub more_theirs : AreRuns content 0 (before.runs ++ one.rows ∷ [])
  more_theirs = runs_more content 0 before.runs one.rows before.theirs (subst (λ (k : ℕ). AreRowsOfRun k content one.rows) (sym there) one.theirs)

  pub more_reported : IsReported (differences_of_runs 0 last 0 (before.runs ++ one.rows ∷ [])) old new
  more_reported =
      let earlier = latest_of_runs 0 before.runs in
      subst (λ (ds : List Difference). IsReported ds old new) (sym (differences_more 0 last 0 before.runs one.rows))
      (reported_then (differences_of_runs 0 last 0 before.runs) (differences_of_run (0 + length before.runs) last earlier one.rows) old mid new before.reported
      (subst (λ (k : ℕ). IsReported (differences_of_run k last earlier one.rows) mid new) (sym there)
      (subst (λ (s : ℕ). IsReported (differences_of_run n last s one.rows) mid new) before.latest_is one.reported)))

  pub one_more : IsSoFar last (n + 1) latest old new content
  one_more = record {
    runs = before.runs ++ one.rows ∷ [];
    long = let more = length-append before.runs (one.rows ∷ []) in let long = before.long in omega (arith, more, long);
    theirs = more_theirs;
    reported = more_reported;
    latest_is = one.latest_is ∙ ap (λ s. latest_start s one.rows.polls.items) before.latest_is ∙ sym (latest_more 0 before.runs one.rows);
  }

module _ (last : ℕ) (old new : Findings) (content : Content) (runs : List RunRows) (theirs : AreRuns content 0 runs)
    (reported : IsReported (differences_of_runs 0 last 0 runs) old new) (whole : (last ≤ length runs * RUN) ⊎ StopsAfter runs new) where
  reaches : new.first.items ≡ [] → (last ≤ length runs * RUN) ⊎ StopsAfter runs new → last ≤ length runs * RUN
  reaches none (inl reach) = reach
  reaches none (inr stops) =
      let full = stopped_full runs new stops in
      let long : length new.first.items ≡ 0 = ap (λ (fs : List Finding). length fs) none in absurd (omega (arith, full, long))

  reports_runs_so : ReportsRuns last old new content
  reports_runs_so = record {
    runs = runs;
    theirs = theirs;
    each = reported;
    whole = whole;
    reported = (
      λ none.
          let two = reported_none (differences_of_runs 0 last 0 runs) old new reported none in
          (two.0, none_are_fine 0 last 0 runs two.1, reaches none whole),
      λ all. none_so_reported (differences_of_runs 0 last 0 runs) old new reported all.0 (fine_are_none 0 last 0 runs all.1),
    );
  }

pub all_runs : (last n latest : ℕ) (old new : Findings) (content : Content) → IsSoFar last n latest old new content → last ≤ n * RUN → ReportsRuns last old new content
all_runs last n latest old new content before reached =
    let long = before.long in
    reports_runs_so last old new content before.runs before.theirs before.reported (inl (subst (λ (k : ℕ). last ≤ k * RUN) (sym long) reached))

pub up_to_stop : (last n since latest : ℕ) (old mid new : Findings) (content : Content) (goes_on : Bool) → IsSoFar last n since old mid content
    → ReportsRun n last since latest mid new content goes_on → goes_on ≡ false → ReportsRuns last old new content
up_to_stop last n since latest old mid new content goes_on before one stopped =
    reports_runs_so last old new content (before.runs ++ one.rows ∷ []) (more_theirs last n since latest old mid new content goes_on before one)
    (more_reported last n since latest old mid new content goes_on before one) (inr (stops_last before.runs one.rows new (one.stops stopped)))

-- Lemmas: the computed number of runs (`RUN` consecutive poll numbers each) is enough to include
-- the last poll. The runs have at most `RUN` poll numbers after it.

pub runs_reach : (last runs : ℕ) → runs ≡ last / RUN + min 1 (last % RUN) → last ≤ runs * RUN
runs_reach last runs is = let times = div_ceil_times last RUN (omega arith) in subst (λ (n : ℕ). last ≤ n * RUN) (sym is) times.0

pub runs_few : (last runs : ℕ) → runs ≡ last / RUN + min 1 (last % RUN) → runs * RUN ≤ last + RUN
runs_few last runs is =
    let times = div_ceil_times last RUN (omega arith) in
    let few : runs * RUN < last + RUN = subst (λ (n : ℕ). n * RUN < last + RUN) (sym is) times.1 in omega (arith, few)
