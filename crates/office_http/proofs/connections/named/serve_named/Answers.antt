use Rattle.std.proofs.Common.{◌≡◌, ◌∙◌, ◌≤◌, ◌+◌, ◌-◌, ◌^◌, min, true, false, Result, Ok, Err, rules, sym, subst}
use Rattle.std.proofs.KnownBytes.{Keeps-trans}
use Rattle.office_http.specs.Messages.Hosts.{may_ask_in, texts}
use Rattle.office_http.specs.Messages.Reading.HeadAndBody.{StopsAtOnce}
use Rattle.office_http.specs.Messages.Reading.Taking.{bytes_in}
use Rattle.office_http.specs.declared.messages.reading.inbox.TheConstants.{MOST_TAKES}
use Rattle.office_http.specs.Messages.Routing.Routes.{Table}
use Rattle.office_http.specs.Messages.Whole.Whole.{IsUnfinished, ReadsRequest}
use Rattle.office_http.specs.Exchange.{as_fault, passage}
use Rattle.office_http.specs.Connections.Named.{HandlesNamed}
use Rattle.office_http.specs.declared.fault.HandleFault.{HandleFault}
use Rattle.office_http.proofs.Handled.{few_takes, head_of}
use Rattle.office_http.proofs.ConnectionsLemmas.Named.{counts_both, let_ask, no_body, no_head, turned_away}
use Rattle.office_http.proofs.connections.named.serve_named.Goals as goal

pub returns-in_err-head-clause-handles : goal.returns-in_err-head-clause-handles
returns-in_err-head-clause-handles g c =
    let names = texts c.args.names.now in
    let office = c.args.office.now in
    let fault = c.in_err-head.field-0.0 in
    let remaining = g.L.Link.remaining c.args.link.now in
    let later = g.L.Link.remaining c.read_head.new.link in
    let given = g.L.Link.given c.args.link.now in
    let later_given = g.L.Link.given c.read_head.new.link in
    let last = g.L.Link.last c.read_head.new.link in
    let is : c.from_residual.result ≡ Err (as_fault fault) = search rules in
    subst (λ (r : Result (Unit {0}) HandleFault). HandlesNamed names g.B.Books.ledger c.args.moment office office (passage remaining later given later_given last) r) (sym is)
    (no_head names g.B.Books.ledger c.args.moment office fault (bytes_in c.new-inbox.result) (bytes_in c.read_head.new.inbox) remaining later given later_given last
    c.new-inbox.ensures.empty c.in_err-head.ensures.reads c.in_err-head.ensures.given)

pub returns-then-not-may_ask-clause-handles : goal.returns-then-not-may_ask-clause-handles
returns-then-not-may_ask-clause-handles g c =
    let names = texts c.args.names.now in
    let half = c.read_head.new.inbox in
    let foreign = subst (λ b. may_ask_in names b c.in_ok-head.head ≡ false) c.bytes.ensures (sym c.may_ask.ensures ∙ c.if-not-may_ask.true) in
    turned_away names g.B.Books.ledger c.args.moment c.args.office.now c.new-inbox.result half c.in_ok-head.head c.write_misdirected.result
    (g.L.Link.remaining c.args.link.now) (g.L.Link.remaining c.read_head.new.link) (g.L.Link.remaining c.write_misdirected.new.link)
    (g.L.Link.given c.args.link.now) (g.L.Link.given c.read_head.new.link) (g.L.Link.given c.write_misdirected.new.link)
    (g.L.Link.last c.args.link.now) (g.L.Link.last c.read_head.new.link) (g.L.Link.last c.write_misdirected.new.link)
    c.new-inbox.ensures.empty c.in_ok-head.ensures.reads c.in_ok-head.ensures.stops c.in_ok-head.ensures.given
    c.write_misdirected.ensures.remaining c.write_misdirected.ensures.last foreign c.write_misdirected.ensures.replies

pub returns-then-not-may_ask-clause-counts : goal.returns-then-not-may_ask-clause-counts
returns-then-not-may_ask-clause-counts g c = record {
  failures = search rules;
  turns = search rules;
  few = λ count is. subst (λ n. n ≤ min (count + MOST_TAKES) (2 ^ 64 - 1)) (sym c.write_misdirected.ensures.takes)
      (few_takes _ c.new-inbox.result c.read_head.new.inbox _ _ c.new-inbox.ensures.takes c.in_ok-head.ensures.takes count is);
}

pub returns-in_err-head_state-clause-handles : goal.returns-in_err-head_state-clause-handles
returns-in_err-head_state-clause-handles g c =
    let names = texts c.args.names.now in
    let office = c.args.office.now in
    let fault = c.in_err-head_state.field-0.0 in
    let half = bytes_in c.read_head.new.inbox in
    let full = bytes_in c.read_request.new.inbox in
    let remaining = g.L.Link.remaining c.args.link.now in
    let between = g.L.Link.remaining c.read_head.new.link in
    let later = g.L.Link.remaining c.read_request.new.link in
    let given = g.L.Link.given c.args.link.now in
    let later_given = g.L.Link.given c.read_request.new.link in
    let last = g.L.Link.last c.read_request.new.link in
    let is : c.from_residual-in_err-head_state.result ≡ Err (as_fault fault) = search rules in
    let may = subst (λ b. may_ask_in names b c.in_ok-head.head ≡ true) c.bytes.ensures (sym c.may_ask.ensures ∙ c.if-not-may_ask.false) in
    let reads = subst (λ (t : Table). ReadsRequest t (Err fault) half full between later) c.requires.routes c.in_err-head_state.ensures.reads in
    subst (λ (r : Result (Unit {0}) HandleFault). HandlesNamed names g.B.Books.ledger c.args.moment office office (passage remaining later given later_given last) r) (sym is)
    (no_body names g.B.Books.ledger c.args.moment office fault c.in_ok-head.head (bytes_in c.new-inbox.result) half full remaining between later given later_given last
    c.new-inbox.ensures.empty c.in_ok-head.ensures.reads may reads (Keeps-trans _ _ _ c.in_ok-head.ensures.given c.in_err-head_state.ensures.given))

pub returns-clause-handles : goal.returns-clause-handles
returns-clause-handles g c =
    let names = texts c.args.names.now in
    let half = c.read_head.new.inbox in
    let full = c.read_request.new.inbox in
    let then = g.L.Link.last c.read_head.new.link in
    let now = g.L.Link.last c.read_request.new.link in
    let may = subst (λ b. may_ask_in names b c.in_ok-head.head ≡ true) c.bytes.ensures (sym c.may_ask.ensures ∙ c.if-not-may_ask.false) in
    let stops = subst (λ (t : Table). StopsAtOnce (IsUnfinished t) half full then now) c.requires.routes c.in_ok-head_state.ensures.stops in
    let_ask names g.B.Books.ledger c.args.moment c.args.office.now c.reply.new.office c.new-inbox.result half full c.bytes-3.result.now c.in_ok-head.head c.reply.result
    (g.L.Link.remaining c.args.link.now) (g.L.Link.remaining c.read_head.new.link) (g.L.Link.remaining c.read_request.new.link) (g.L.Link.remaining c.reply.new.link)
    (g.L.Link.given c.args.link.now) (g.L.Link.given c.read_request.new.link) (g.L.Link.given c.reply.new.link)
    (g.L.Link.last c.args.link.now) then now (g.L.Link.last c.reply.new.link)
    c.new-inbox.ensures.empty c.in_ok-head.ensures.reads c.in_ok-head.ensures.stops may c.in_ok-head_state.ensures.reads.0 stops c.bytes-3.ensures
    (Keeps-trans _ _ _ c.in_ok-head.ensures.given c.in_ok-head_state.ensures.given) c.reply.ensures.remaining c.reply.ensures.last c.reply.ensures.ends
    (head_of c.args.router.now c.in_ok-head_state.head_state (bytes_in full) c.in_ok-head_state.ensures.reads.1) c.reply.ensures.gives

pub returns-in_err-head-clause-counts : goal.returns-in_err-head-clause-counts
returns-in_err-head-clause-counts g c = record {
  failures = search rules;
  turns = search rules;
  few = few_takes _ c.new-inbox.result c.read_head.new.inbox _ _ c.new-inbox.ensures.takes c.in_err-head.ensures.takes;
}

pub returns-in_err-head_state-clause-counts : goal.returns-in_err-head_state-clause-counts
returns-in_err-head_state-clause-counts g c =
    let both = counts_both _ _ c.new-inbox.result c.read_head.new.inbox c.read_request.new.inbox _ _ _ c.in_ok-head.ensures.takes c.in_err-head_state.ensures.takes in
    record { failures = search rules; turns = search rules; few = few_takes _ c.new-inbox.result c.read_request.new.inbox _ _ c.new-inbox.ensures.takes both }

pub returns-clause-counts : goal.returns-clause-counts
returns-clause-counts g c =
    let both = counts_both _ _ c.new-inbox.result c.read_head.new.inbox c.read_request.new.inbox _ _ _ c.in_ok-head.ensures.takes c.in_ok-head_state.ensures.takes in
    record {
      failures = search rules;
      turns = search rules;
      few = λ count is. subst (λ n. n ≤ min (count + MOST_TAKES) (2 ^ 64 - 1)) (sym c.reply.ensures.takes)
          (few_takes _ c.new-inbox.result c.read_request.new.inbox _ _ c.new-inbox.ensures.takes both count is);
    }
