use Rattle.std.proofs.Common.{rules, ◌≡◌, List, map, subst}
use Rattle.interval_core.specs.declared.shares.Share.{Share}
use Rattle.table_audit.specs.Booked.{AreBooked}
use Rattle.table_seals.specs.Months.{AreMonths}
use Rattle.table_seals.specs.Sealed.{sealed_month_of}
use Rattle.table_seals.proofs.months.meter_months.Goals as goal

pub returns-in_default : goal.returns-in_default
returns-in_default c = λ months h.
    subst (AreBooked c.args.range c.args.ceiling c.args.entries.now) c.in_default.is c.in_ok-shares.ensures.booked h.shares h.booked

pub returns : goal.returns
returns c =
    let same : c.as_slice.result.now ≡ c.in-Some.shares.items = search rules in
    record {
      shares = c.in-Some.shares.items;
      booked = subst (AreBooked c.args.range c.args.ceiling c.args.entries.now) c.in-Some.is c.in_ok-shares.ensures.booked;
      are = subst (λ (shares : List Share). AreMonths c.args.zone.now shares (map sealed_month_of c.in_ok-months.months.items)) same c.in_ok-months.ensures;
    }
