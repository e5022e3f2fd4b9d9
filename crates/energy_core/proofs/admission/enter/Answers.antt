use Rattle.std.proofs.Common.{rules, ◌≡◌, ℕ, Ok}
use Rattle.energy_core.specs.declared.entries.Step.{Step}
use Rattle.energy_core.specs.Admission.{entered}
use Rattle.energy_core.proofs.Bookings.{account_where_entered}
use Rattle.energy_core.proofs.admission.enter.Goals as goal

pub returns-clause-account : goal.returns-clause-account
returns-clause-account g c opening es h =
    let range : ℕ = g.C.Counter.range c.args.counter.now in
    let step : Step =
    record {
      from = c.args.last.now.at;
      till = c.moment-till.result;
      mwh = c.energy-mwh.result;
    } in
    let is : entered range c.args.terms.now.total c.args.last.now c.args.entry.now ≡ Ok (c.last_after.result, step) = search rules in
    account_where_entered range opening es c.args.last.now c.args.terms.now.total c.args.entry.now c.last_after.result step h is
