-- Lemmas on the latest timestamp that a store returns, if the store was opened from a database
-- file. It is the latest timestamp of the file's records.
use Rattle.std.proofs.Common.{◌≡◌, ℕ, List, Result, Ok, Err, IfOk, Option, subst}
use Rattle.std.specs.Borrow.{Bor}
use Rattle.sqlite.specs.Store.{Ghosts}
use Rattle.sqlite.specs.Held.{Held, state}
use Rattle.sqlite.specs.State.{HasCleanDisk}
use Rattle.interval_core.specs.Zone.{HasRule}
use Rattle.interval_core.specs.declared.zone.Zone.{Zone}
use Rattle.office_events.specs.declared.facts.Fact.{Fact}
use Rattle.office_store.specs.Database.{HoldsAlone}
use Rattle.office_store.specs.declared.books.SqlBooks.{SqlBooks}
use Rattle.run_schedule.specs.Periods.Courses.{IsCourse}
use Rattle.run_schedule.specs.declared.periods.courses.Course.{Course}
use Rattle.run_schedule.specs.declared.periods.courses.Rollover.{Rollover}
use Rattle.stored_files.specs.Courses.{DecidesCourse}
use Rattle.stored_files.specs.Recoveries.{HasLatest, IsLatestIn}
use Rattle.stored_files.specs.declared.audits.AuditFault.{AuditFault}

module _ {S : Type 0} (g : Ghosts S) where
  pub latest_found : (old : Held S) (its : List ℕ) (facts : List Fact) (books : SqlBooks S g) (latest : ℕ)
      → (HasCleanDisk (state g books.connection) → HasCleanDisk (state g old)) → HoldsAlone g its books.connection facts
      → IsLatestIn g books latest → HasLatest g old facts latest
  latest_found old its facts books latest clean holds it = record {
    asked = it.asked;
    clean = λ asked. clean (it.clean asked);
    is_latest = it.is_latest facts (record { zone = its; holds = holds.holds });
  }

  pub latest_in_file : (old : Held S) (its : List ℕ) (facts : List Fact) (books : SqlBooks S g) (result : Result ℕ AuditFault)
      → (HasCleanDisk (state g books.connection) → HasCleanDisk (state g old)) → HoldsAlone g its books.connection facts
      → IfOk result (IsLatestIn g books) → IfOk result (HasLatest g old facts)
  latest_in_file old its facts books (Ok latest) clean holds it = latest_found old its facts books latest clean holds it
  latest_in_file old its facts books (Err why) clean holds it = tt

  -- Suppose that `run --carry` decided, by the file's latest timestamp and time zone, whether to
  -- stay in the file or begin a new one. Then the decision satisfies `DecidesCourse`, the contract
  -- of this decision.
  pub course_decided : (old mid : Held S) (zone reported : List ℕ) (its : Zone) (by : Rollover) (led : Option (Bor (List ℕ))) (facts : List Fact) (latest now : ℕ) (course : Course)
      → (HasCleanDisk (state g mid) → HasCleanDisk (state g old)) → (HasCleanDisk (state g mid) → reported ≡ zone) → HasRule reported its
      → HasLatest g mid facts latest → IsCourse its by led latest now course → DecidesCourse g old zone by led facts now course
  course_decided old mid zone reported its by led facts latest now course cleans is rule it decided = record {
    asked = it.asked;
    clean = λ asked. cleans (it.clean asked);
    decides = λ asked. (its, subst (λ (z : List ℕ). HasRule z its) (is (it.clean asked)) rule, subst (λ (n : ℕ). IsCourse its by led n now course) (it.is_latest asked) decided);
  }
