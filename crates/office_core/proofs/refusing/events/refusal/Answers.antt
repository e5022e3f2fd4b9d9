use Rattle.office_core.proofs.RefusingLemmas.Asked.{request_refused, command_in_range, request_in_range, under}
use Rattle.office_core.proofs.refusing.events.refusal.Goals as goal

pub returns-in-Command-clause-in_range : goal.returns-in-Command-clause-in_range
returns-in-Command-clause-in_range g c =
    command_in_range c.args.latest c.args.moment c.in-Command.c c.args.event.now c.new-arrival.result c.refusal_of_command.result c.in-Command.is
    c.new-arrival.ensures c.refusal_of_command.ensures.befits

pub returns-in-Asked-clause-found : goal.returns-in-Asked-clause-found
returns-in-Asked-clause-found g c past latest keeps holds clean =
    request_refused past c.args.slots.now c.args.latest c.args.moment c.in-Asked.asked c.of_request-arrival.result c.args.event.now
    c.refusal_of_command-in-Asked.result c.in-Asked.is latest c.of_request-arrival.ensures
    (under past c.args.slots.now c.of_request-arrival.result c.in-Asked.asked.command c.refusal_of_command-in-Asked.result keeps
    (c.refusal_of_command-in-Asked.ensures.found _ holds clean))

pub returns-in-Asked-clause-in_range : goal.returns-in-Asked-clause-in_range
returns-in-Asked-clause-in_range g c =
    request_in_range c.args.latest c.args.moment c.in-Asked.asked c.args.event.now c.of_request-arrival.result c.refusal_of_command-in-Asked.result c.in-Asked.is
    c.of_request-arrival.ensures c.refusal_of_command-in-Asked.ensures.befits
