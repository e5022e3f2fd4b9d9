use Rattle.std.proofs.Common.{rules, ◌≡◌, true, Some, sym, ◌∙◌}
use Rattle.office_books.specs.Meters.{meter_of}
use Rattle.carried_books.specs.Carrying.Standings.{is_until}
use Rattle.carried_books.proofs.CarryingLemmas.Lasts.{where_it_stands}
use Rattle.carried_books.proofs.carrying.standings.last_until.Goals as goal

pub returns-then-is_until-clause-found : goal.returns-then-is_until-clause-found
returns-then-is_until-clause-found g c known holds clean =
    let there : meter_of known c.args.meter.now ≡ Some c.in-Some.row = sym (c.in_ok-meter.ensures.found known holds clean) ∙ c.in-Some.is in
    let counted : is_until c.args.until c.in-Some.row.last.at ≡ true = search rules in
    sym (where_it_stands c.args.until known c.args.meter.now c.in-Some.row there counted)
