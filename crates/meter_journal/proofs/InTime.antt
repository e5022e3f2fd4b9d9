-- Lemmas: the steps between consecutive entries of a meter are in order of time. Their interval
-- rows are therefore the energies of the steps, added up by quarter hour.
use Rattle.std.proofs.Common.{◌<◌, List, [], ◌∷◌, sym, ◌∙◌, arith}
use Rattle.std.specs.List.{All}
use Rattle.std.proofs.lemmas.List.Elements.{All-nil, All-cons}
use Rattle.energy_core.specs.declared.entries.Step.{Step}
use Rattle.energy_core.specs.declared.entries.Entry.{Entry}
use Rattle.energy_core.specs.declared.entries.Entry.TheVariants as entry
use Rattle.energy_core.specs.Account.{step_to, AllFollow}
use Rattle.interval_core.specs.Account.{SharesAddUp, AccountsAddUp}
use Rattle.meter_journal.specs.declared.lines.Installed.{Installed}
use Rattle.meter_journal.specs.Books.{last_after, steps_after, steps_in, interval_rows}
use Rattle.meter_journal.specs.Journal.{entries_of}
use Rattle.meter_journal.specs.Laws.{IntervalRowsAreAccounts, IntervalRowsAddUp}
use Rattle.meter_journal.proofs.Keeping.{journals_are_kept}
use Rattle.meter_journal.proofs.Merging.{BeginsAfter, AreInTime, rows_are_accounts}

begins_after : (meter : Installed) (es : List Entry) (e : Entry) → BeginsAfter (step_to meter.range (last_after meter es) e) (steps_after meter es)
begins_after meter [] e = tt
begins_after meter (entry.Step at raw rolls ∷ es) e = omega arith
begins_after meter (entry.Change at before new sf ∷ es) e = omega arith

pub in_time : (meter : Installed) (es : List Entry) → AllFollow meter.range meter.opening es → AreInTime (steps_after meter es)
in_time meter [] h = tt
in_time meter (e ∷ es) h = (h.0.later, begins_after meter es e, in_time meter es h.1)

all_forward : (steps : List Step) → AreInTime steps → All (λ step. step.from < step.till) steps
all_forward [] h = All-nil (λ (step : Step). step.from < step.till)
all_forward (step ∷ steps) h = All-cons (λ (step : Step). step.from < step.till) step steps h.0 (all_forward steps h.2)

pub interval_rows_are_accounts : SharesAddUp → IntervalRowsAreAccounts
interval_rows_are_accounts law meter lines well h =
    rows_are_accounts law (steps_in meter lines) (in_time meter (entries_of meter.opening lines) (journals_are_kept meter lines well h).account.follow)

pub interval_rows_add_up : SharesAddUp → AccountsAddUp → IntervalRowsAddUp
interval_rows_add_up law sums meter lines well h =
    let kept = journals_are_kept meter lines well h in
    let time : AreInTime (steps_in meter lines) = in_time meter (entries_of meter.opening lines) kept.account.follow in
    sums (steps_in meter lines) (interval_rows meter lines) (all_forward (steps_in meter lines) time) (rows_are_accounts law (steps_in meter lines) time)
    ∙ sym kept.sound.sum
