use Rattle.std.proofs.Common.{◌≡◌, ◌≤◌, ◌+◌, ◌-◌, ◌^◌, min, [], rules, sym, subst}
use Rattle.std.proofs.KnownBytes.{Keeps-refl}
use Rattle.office_http.specs.declared.messages.reading.inbox.TheConstants.{MOST_TAKES}
use Rattle.office_http.specs.Messages.Sending.Giving.{Gives}
use Rattle.office_http.specs.Messages.Replies.{refused, reply_bytes}
use Rattle.office_events.specs.declared.refusals.Refusal.TheVariants as refusal
use Rattle.office_http.proofs.Handled.{IsFinished, bare_replied, few_takes, finished_last, finished_remaining, finished_takes, write_first}
use Rattle.office_http.proofs.exchange.refuse.Goals as goal

pub returns-clause-handles : goal.returns-clause-handles
returns-clause-handles g c =
    let first = c.new-writer.result in
    let put = c.append_refusal.new.writer in
    let end = c.finish-sent.new.self in
    let sent = c.finish-sent.result in
    let mid = g.L.Link.remaining c.read_head.new.link in
    let given = g.L.Link.given c.read_head.new.link in
    let between = g.L.Link.last c.read_head.new.link in
    let text = reply_bytes (refused refusal.Memory) in
    let to_remaining : g.L.Link.remaining c.link-1.given.0 ≡ end.remaining = search rules in
    let to_given : g.L.Link.given c.link-1.given.0 ≡ end.given = search rules in
    let to_last : g.L.Link.last c.link-1.given.0 ≡ end.last = search rules in
    let done : IsFinished first put end sent =
    record { works = c.new-writer.ensures.works; puts = c.append_refusal.ensures.link; finish = c.finish-sent.ensures.link; failed = c.finish-sent.ensures.failed } in
    bare_replied c.new-inbox.result c.read_head.new.inbox c.in_ok-read_head.field-0 sent c.ended.result
    (g.L.Link.remaining c.args.link.now) mid _ (g.L.Link.given c.args.link.now) given _
    (g.L.Link.last c.args.link.now) between _
    c.new-inbox.ensures.empty c.in_ok-read_head.ensures.reads c.in_ok-read_head.ensures.stops c.in_ok-read_head.ensures.given
    (finished_remaining first put end sent mid _ done c.new-writer.ensures.remaining to_remaining)
    (finished_last first put end sent between _ done c.new-writer.ensures.last to_last)
    c.ended.ensures
    (subst (λ o. Gives sent given o text) (sym to_given)
    (c.finish-sent.ensures.given given text
    (c.append_refusal.ensures.put given [] (write_first given given first c.new-writer.ensures.given c.new-writer.ensures.empty (Keeps-refl given)))))

pub returns-in_err-read_head-clause-counts : goal.returns-in_err-read_head-clause-counts
returns-in_err-read_head-clause-counts g c = record {
  failures = search rules;
  turns = search rules;
  few = few_takes _ c.new-inbox.result c.read_head.new.inbox _ _ c.new-inbox.ensures.takes c.in_err-read_head.ensures.takes;
}

pub returns-clause-counts : goal.returns-clause-counts
returns-clause-counts g c =
    let first = c.new-writer.result in
    let put = c.append_refusal.new.writer in
    let end = c.finish-sent.new.self in
    let sent = c.finish-sent.result in
    let done : IsFinished first put end sent =
    record { works = c.new-writer.ensures.works; puts = c.append_refusal.ensures.link; finish = c.finish-sent.ensures.link; failed = c.finish-sent.ensures.failed } in
    let to_taken : g.L.Link.taken c.link-1.given.0 ≡ end.takes = search rules in
    let same = finished_takes first put end sent (g.L.Link.taken c.read_head.new.link) _ done c.new-writer.ensures.takes to_taken in
    record {
      failures = search rules;
      turns = search rules;
      few = λ count is. subst (λ n. n ≤ min (count + MOST_TAKES) (2 ^ 64 - 1)) (sym same)
          (few_takes _ c.new-inbox.result c.read_head.new.inbox _ _ c.new-inbox.ensures.takes c.in_ok-read_head.ensures.takes count is);
    }
