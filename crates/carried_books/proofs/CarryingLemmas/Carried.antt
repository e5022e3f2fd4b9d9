-- Lemmas: a file rollover, in which a new database file continues the meters of an old file,
-- satisfies its contract. They treat the rollover's queries of the old file and its commands to the
-- new file.
use Rattle.std.proofs.Common.{◌≡◌, ℕ, List, Option, Ok, Err, subst, sym}
use Rattle.std.specs.Prelude.{Result}
use Rattle.office_events.specs.declared.refusals.Refusal.{Refusal}
use Rattle.office_books.specs.declared.faults.BooksFault.{BooksFault}
use Rattle.office_books.specs.Faults.{as_refusal}
use Rattle.office_books.specs.Ledgers.{Consults, Ledger}
use Rattle.office_books.proofs.Moving.{passes_failed}
use Rattle.office_core.specs.declared.office.Office.{Office}
use Rattle.carried_books.specs.Carrying.Carried.{Carries, Follows, OfOld, OnlyAsked}
use Rattle.carried_books.specs.Carrying.Openings.{IsNotYet}
use Rattle.carried_books.specs.Carrying.Plans.{AreCarried, IsPlan, open_meters}
use Rattle.carried_books.specs.declared.carrying.faults.CarryFault.{CarryFault}
use Rattle.carried_books.specs.declared.carrying.faults.CarryFault.TheVariants.{Old, New, NotYet}
use Rattle.carried_books.specs.declared.carrying.plans.Plan.{Plan}
use Rattle.carried_books.specs.declared.carrying.plans.Plan.TheVariants as plan

module _ {N : Type 0} (old new : Ledger) (until : Option ℕ) (ledger : N → Ledger) (before after : Office N) where
  -- Suppose that a plan (the commands that set up a new database file) is computed from the old
  -- file's records. The new file's office (event engine) executed the plan's commands, up to the
  -- first refused one. Then the result satisfies the contract `Carries` (what a file rollover
  -- returns and changes).
  pub carries : (p : Plan) (result : Result ℕ CarryFault) → OfOld old new (λ known. IsPlan known until p) → Follows ledger p before after result
      → Carries old new until ledger before after result
  carries (plan.Ready commands meters) (Ok n) is follows = record {
    commands = commands.items;
    are = λ known holds clean. subst (λ count. AreCarried known until commands.items count) (sym follows.0) (is known holds clean);
    fed = follows.1;
  }
  carries (plan.Ready commands meters) (Err (New why)) is follows = record {
    commands = commands.items;
    meters = meters;
    are = is;
    fed = follows;
  }
  carries (plan.Ready commands meters) (Err (Old why)) is follows = absurd follows
  carries (plan.Ready commands meters) (Err (NotYet name)) is follows = absurd follows
  carries (plan.NotYet meter) (Ok n) is follows = absurd follows
  carries (plan.NotYet meter) (Err (New why)) is follows = absurd follows
  carries (plan.NotYet meter) (Err (Old why)) is follows = absurd follows
  carries (plan.NotYet meter) (Err (NotYet name)) is follows = record {
    none = follows.1;
    are = λ known holds clean. subst (λ (those : List ℕ). IsNotYet known until (open_meters known) those) (sym follows.0) (is known holds clean);
  }

  -- If no query of the old database file fails, the change to a new file leaves the old file's
  -- records and failure counts unchanged.
  pub asked : (p : Plan) (result : Result ℕ CarryFault) → Follows ledger p before after result → Consults old new (Ok p) → OnlyAsked old new result
  asked p (Ok n) follows reads = record { keeps = reads.keeps; failures = reads.goes.faults; clean = reads.goes.clean; zone = reads.goes.zone }
  asked p (Err (New why)) follows reads = record {
    keeps = reads.keeps;
    failures = reads.goes.faults;
    clean = reads.goes.clean;
    zone = reads.goes.zone;
  }
  asked p (Err (NotYet name)) follows reads = record {
    keeps = reads.keeps;
    failures = reads.goes.faults;
    clean = reads.goes.clean;
    zone = reads.goes.zone;
  }
  asked (plan.Ready commands meters) (Err (Old why)) follows reads = absurd follows
  asked (plan.NotYet meter) (Err (Old why)) follows reads = absurd follows

-- If a query of the old database file fails, then the change to a new file has only queried the old
-- file. The result reports the failure.
pub not_asked : (old new : Ledger) (fault : BooksFault) (why : Refusal) → why ≡ as_refusal fault → Consults {T = Plan} old new (Err fault)
    → OnlyAsked old new (Err (Old why))
not_asked old new fault why is reads = record {
  keeps = reads.keeps;
  failures = record { fault = fault; is = is; failures = (passes_failed {T = Plan} {S = Unit {0}} old new fault reads.goes).faults };
  clean = reads.goes.clean;
  zone = reads.goes.zone;
}
