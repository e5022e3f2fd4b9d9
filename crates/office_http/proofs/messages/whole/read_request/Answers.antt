use Rattle.std.proofs.Common.{rules, ◌≡◌, inr, Err, subst, sym}
use Rattle.office_http.specs.Messages.Head.Heads.{Looks}
use Rattle.office_http.specs.Messages.Reading.Taking.{bytes_in}
use Rattle.office_http.specs.Messages.Whole.Whole.{Holds, ReadsRequest}
use Rattle.office_http.proofs.MessagesLemmas.ReadingLemmas.Coming.{Came-then}
use Rattle.office_http.proofs.MessagesLemmas.WholeLemmas.Stable.{lacks, stops_at_body, stops_at_head, whole}
use Rattle.office_http.proofs.messages.whole.read_request.Goals as goal

pub returns-in_err-read_body-clause-reads : goal.returns-in_err-read_body-clause-reads
returns-in_err-read_body-clause-reads g c =
    let mid = bytes_in c.read_head.new.inbox in
    let read = c.in_ok-head_state.ensures.reads in
    let head = subst (Looks mid) c.in-Whole.is read.1 in
    let fault = c.in_err-read_body.field-0.0 in
    let ends = c.in_err-read_body.ensures.reads in
    let is : c.from_residual-in_err-read_body.result ≡ Err fault = search rules in
    subst (λ x. ReadsRequest c.args.router.now x (bytes_in c.args.inbox.now) (bytes_in c.read_body.new.inbox) (g.L.Link.remaining c.args.link.now) (g.L.Link.remaining c.read_body.new.link)) (sym is) (
      Came-then _ _ _ _ _ _ read.0 ends.0,
      inr (lacks c.args.router.now _ mid _ c.bytes.result.now _ _ _ c.in-Whole.head c.body_size-size.result read.0 head c.bytes.ensures c.body_size-size.ensures.size ends.0 ends.1),
      ends.2,
    )

pub returns-in_ok-read_body-clause-reads : goal.returns-in_ok-read_body-clause-reads
returns-in_ok-read_body-clause-reads g c =
    let mid = bytes_in c.read_head.new.inbox in
    let read = c.in_ok-head_state.ensures.reads in
    let head = subst (Looks mid) c.in-Whole.is read.1 in
    let came = c.in_ok-read_body.ensures.reads in
    let both = whole c.args.router.now _ mid _ c.bytes.result.now _ _ _ c.in-Whole.head c.body_size-size.result read.0 head c.bytes.ensures c.body_size-size.ensures.size came.0 came.1 in
    (both.0, subst (Holds c.args.router.now (bytes_in c.read_body.new.inbox)) (sym c.in-Whole.is) both.1)

pub returns-in_ok-read_body-clause-stops : goal.returns-in_ok-read_body-clause-stops
returns-in_ok-read_body-clause-stops g c =
    let mid = bytes_in c.read_head.new.inbox in
    let read = c.in_ok-head_state.ensures.reads in
    let head = subst (Looks mid) c.in-Whole.is read.1 in
    stops_at_body c.args.router.now c.args.inbox.now c.read_head.new.inbox c.read_body.new.inbox c.bytes.result.now read.0.chunk _ _ _ c.in-Whole.head c.body_size-size.result
    read.0.bytes head c.bytes.ensures c.body_size-size.ensures.size c.in_ok-head_state.ensures.stops c.in_ok-read_body.ensures.stops

pub returns-in_default-clause-stops : goal.returns-in_default-clause-stops
returns-in_default-clause-stops g c =
    stops_at_head c.args.router.now c.args.inbox.now c.read_head.new.inbox _ _ c.in_ok-head_state.ensures.stops
