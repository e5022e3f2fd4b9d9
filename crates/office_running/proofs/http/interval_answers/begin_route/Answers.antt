use Rattle.std.proofs.Common.{ap, ◌∙◌}
use Rattle.run_http.specs.declared.route.RunRoute.TheVariants.{Intervals}
use Rattle.office_running.proofs.HttpLemmas.ServingClients.{of_route}
use Rattle.office_running.proofs.http.interval_answers.begin_route.Goals as goal

pub returns : goal.returns
returns g c =
    of_route g.B.Books.ledger c.args.office.now c.begin_rows.new.office c.args.route.now _ _ _ c.args.rows.now c.begin_rows.new.rows c.begin_rows.result
    (c.in-Intervals.is ∙ ap (Intervals c.in-Intervals.meter) c.in-Between.is) c.begin_rows.ensures
