use Rattle.std.proofs.Common.{rules, ◌≡◌, ◌∙◌, true, inr, Err, sym, subst}
use Rattle.office_http.specs.Messages.Reading.HeadAndBody.{ReadsHead}
use Rattle.office_http.specs.Messages.Head.Heads.{IsOpenHead, is_open}
use Rattle.office_http.specs.Messages.Reading.Taking.{bytes_in}
use Rattle.office_http.proofs.MessagesLemmas.ReadingLemmas.Coming.{Came-then, fails_after, head_state-open, stops_after}
use Rattle.office_http.proofs.messages.reading.head_and_body.read_head.Goals as goal

pub returns-in_err-take_more-clause-reads : goal.returns-in_err-take_more-clause-reads
returns-in_err-take_more-clause-reads g c =
    let before = c.takes.invariant in
    let fault = c.in_err-take_more.field-0.0 in
    let on = c.in_err-take_more.ensures.takes_on in
    let goes_on : is_open c.parse_head-head_state.result ≡ true = search rules in
    let buffered : IsOpenHead (bytes_in c.takes.inbox) = subst IsOpenHead c.bytes.ensures (head_state-open _ _ c.parse_head-head_state.ensures goes_on) in
    let is : c.from_residual.result ≡ Err fault = search rules in
    subst (λ x. ReadsHead x (bytes_in c.args.inbox.now) (bytes_in c.take_more.new.self) (g.L.Link.remaining c.args.link.now) (g.L.Link.remaining c.take_more.new.link)) (sym is)
    (fails_after fault _ (bytes_in c.takes.inbox) _ _ _ _ before.came on buffered)

pub takes-preserved : goal.takes-preserved
takes-preserved g c =
    let before = c.takes.invariant in
    let took = c.in_ok-take_more.ensures in
    let goes_on : is_open c.parse_head-head_state.result ≡ true = search rules in
    let buffered : IsOpenHead (bytes_in c.takes.inbox) = subst IsOpenHead c.bytes.ensures (head_state-open _ _ c.parse_head-head_state.ensures goes_on) in
    record {
      came = Came-then _ _ _ _ _ _ before.came took.takes_on;
      given = search rules;
      room = took.takes.room ∙ before.room;
      failures = took.failures ∙ before.failures;
      stops = inr (stops_after IsOpenHead _ _ _ _ before.came.chunk took.takes_on.chunk before.came.bytes buffered took.takes_on.bytes took.brought);
      counts = λ base h. took.takes.counts base (before.counts base h);
    }
