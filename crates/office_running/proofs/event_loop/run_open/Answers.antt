use Rattle.office_http.specs.Messages.Hosts.{texts}
use Rattle.office_running.proofs.Going.{turns_after_asking}
use Rattle.office_running.proofs.event_loop.run_open.Goals as goal

pub returns : goal.returns
returns g c = record {
  first = c.now-moment.result;
  between = g.C.Clock.moments c.now-moment.new.self;
  reports = c.now-moment.ensures;
  turns = turns_after_asking (texts c.args.settings.now.host_names.now) g.B.Books.ledger c.now-moment.result _ _ c.args.office.now c.site.new.self
      c.run_from.new.office c.site.result c.site.ensures.asks c.run_from.ensures;
}
