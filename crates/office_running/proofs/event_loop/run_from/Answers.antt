use Rattle.std.proofs.Common.{ℕ, subst}
use Rattle.office_http.specs.Messages.Hosts.{texts}
use Rattle.office_running.specs.Runs.{TakesTurns}
use Rattle.office_running.proofs.Going.{no_turns}
use Rattle.office_running.proofs.event_loop.run_from.Goals as goal

pub returns-in_err-events : goal.returns-in_err-events
returns-in_err-events g c = record {
  latest = c.args.moment;
  turns = no_turns (texts c.args.settings.now.host_names.now) g.B.Books.ledger c.args.moment (g.C.Clock.moments c.args.clock.now) c.args.office.now;
}

pub returns-in_err-running : goal.returns-in_err-running
returns-in_err-running g c = record {
  latest = c.args.moment;
  turns = no_turns (texts c.args.settings.now.host_names.now) g.B.Books.ledger c.args.moment (g.C.Clock.moments c.args.clock.now) c.args.office.now;
}

pub returns : goal.returns
returns g c =
    let P : ℕ → Type 0 = λ first. TakesTurns (texts c.args.settings.now.host_names.now) g.B.Books.ledger first c.turns.new.steady.latest
    (g.C.Clock.moments c.args.clock.now) (g.C.Clock.moments c.turns.new.clock) c.args.office.now c.turns.new.office in
    record { latest = c.turns.new.steady.latest; turns = subst P c.new-steady.ensures.latest c.turns.ensures }
