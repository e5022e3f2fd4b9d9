use Rattle.std.proofs.Common.{◌≡◌, ◌≤◌, ◌+◌, ◌-◌, ◌^◌, min, Result, Err, rules, sym, subst}
use Rattle.office_http.specs.Messages.Reading.HeadAndBody.{StopsAtOnce}
use Rattle.office_http.specs.Messages.Reading.Taking.{bytes_in}
use Rattle.office_http.specs.declared.messages.reading.inbox.TheConstants.{MOST_TAKES}
use Rattle.office_http.specs.Messages.Routing.Routes.{Table}
use Rattle.office_http.specs.Messages.Whole.Whole.{IsUnfinished, ReadsRequest}
use Rattle.office_http.specs.Exchange.{Handles, as_fault, passage}
use Rattle.office_http.specs.declared.fault.HandleFault.{HandleFault}
use Rattle.office_http.proofs.Handled.{few_takes, head_of, read_failed, replied}
use Rattle.office_http.proofs.exchange.serve.Goals as goal

pub returns-in_err-head_state-clause-handles : goal.returns-in_err-head_state-clause-handles
returns-in_err-head_state-clause-handles g c =
    let ledger = g.B.Books.ledger in
    let office = c.args.office.now in
    let fault = c.in_err-head_state.field-0.0 in
    let old = bytes_in c.new-inbox.result in
    let new = bytes_in c.read_request.new.inbox in
    let remaining = g.L.Link.remaining c.args.link.now in
    let later = g.L.Link.remaining c.read_request.new.link in
    let given = g.L.Link.given c.args.link.now in
    let later_given = g.L.Link.given c.read_request.new.link in
    let last = g.L.Link.last c.read_request.new.link in
    let is : c.from_residual.result ≡ Err (as_fault fault) = search rules in
    let reads = subst (λ (t : Table). ReadsRequest t (Err fault) old new remaining later) c.requires.routes c.in_err-head_state.ensures.reads in
    subst (λ (r : Result (Unit {0}) HandleFault). Handles ledger c.args.moment office office (passage remaining later given later_given last) r) (sym is)
    (read_failed ledger c.args.moment office fault old new remaining later given later_given last c.new-inbox.ensures.empty reads c.in_err-head_state.ensures.given)

pub returns-clause-handles : goal.returns-clause-handles
returns-clause-handles g c =
    let inbox = c.new-inbox.result in
    let full = c.read_request.new.inbox in
    let was = g.L.Link.last c.args.link.now in
    let between = g.L.Link.last c.read_request.new.link in
    let stops = subst (λ (t : Table). StopsAtOnce (IsUnfinished t) inbox full was between) c.requires.routes c.in_ok-head_state.ensures.stops in
    replied g.B.Books.ledger c.args.moment c.args.office.now c.reply.new.office inbox full c.bytes-2.result.now c.reply.result
    (g.L.Link.remaining c.args.link.now) (g.L.Link.remaining c.read_request.new.link) (g.L.Link.remaining c.reply.new.link)
    (g.L.Link.given c.args.link.now) (g.L.Link.given c.read_request.new.link) (g.L.Link.given c.reply.new.link)
    was between (g.L.Link.last c.reply.new.link)
    c.new-inbox.ensures.empty c.bytes-2.ensures c.in_ok-head_state.ensures.reads.0 stops c.in_ok-head_state.ensures.given
    c.reply.ensures.remaining c.reply.ensures.last c.reply.ensures.ends
    (head_of c.args.router.now c.in_ok-head_state.head_state (bytes_in full) c.in_ok-head_state.ensures.reads.1) c.reply.ensures.gives

pub returns-in_err-head_state-clause-counts : goal.returns-in_err-head_state-clause-counts
returns-in_err-head_state-clause-counts g c = record {
  failures = search rules;
  turns = search rules;
  few = few_takes _ c.new-inbox.result c.read_request.new.inbox _ _ c.new-inbox.ensures.takes c.in_err-head_state.ensures.takes;
}

pub returns-clause-counts : goal.returns-clause-counts
returns-clause-counts g c = record {
  failures = search rules;
  turns = search rules;
  few = λ count is. subst (λ n. n ≤ min (count + MOST_TAKES) (2 ^ 64 - 1)) (sym c.reply.ensures.takes)
      (few_takes _ c.new-inbox.result c.read_request.new.inbox _ _ c.new-inbox.ensures.takes c.in_ok-head_state.ensures.takes count is);
}
