use Rattle.std.proofs.Common.{◌≡◌, [], rules, sym, subst}
use Rattle.std.proofs.KnownBytes.{Keeps-refl}
use Rattle.office_http.specs.Messages.Sending.Giving.{Gives}
use Rattle.office_http.proofs.Handled.{ends_well, finished_failures, finished_last, finished_remaining, finished_takes, write_first}
use Rattle.office_http.proofs.exchange.reply.Goals as goal

pub returns-clause-gives : goal.returns-clause-gives
returns-clause-gives g c = λ past stands clean.
    let puts = c.append_reply-writer.ensures.serves past stands clean in
    let given = g.L.Link.given c.args.link.now in
    let last : g.L.Link.given c.link-1.given.0 ≡ c.finish-sent.new.self.given = search rules in
    record {
      cut = c.append_reply-writer.result.cut;
      sent = c.finish-sent.result;
      ends = c.ended.ensures;
      put = puts.put;
      serves = puts.serves;
      gives =
          subst (λ o. Gives c.finish-sent.result given o puts.put) (sym last)
          (c.finish-sent.ensures.given given puts.put
          (puts.puts.put given [] (write_first given given c.new-writer.result c.new-writer.ensures.given c.new-writer.ensures.empty (Keeps-refl given))));
    }

pub returns-clause-ends : goal.returns-clause-ends
returns-clause-ends g c = ends_well c.finish-sent.result c.append_reply-writer.result.cut c.ended.result c.ended.ensures

pub returns-clause-remaining : goal.returns-clause-remaining
returns-clause-remaining g c =
    let last : g.L.Link.remaining c.link-1.given.0 ≡ c.finish-sent.new.self.remaining = search rules in
    finished_remaining c.new-writer.result c.append_reply-writer.result.writer c.finish-sent.new.self c.finish-sent.result _ _
    (record { works = c.new-writer.ensures.works; puts = c.append_reply-writer.ensures.gives; finish = c.finish-sent.ensures.link; failed = c.finish-sent.ensures.failed })
    c.new-writer.ensures.remaining last

pub returns-clause-last : goal.returns-clause-last
returns-clause-last g c =
    let last : g.L.Link.last c.link-1.given.0 ≡ c.finish-sent.new.self.last = search rules in
    finished_last c.new-writer.result c.append_reply-writer.result.writer c.finish-sent.new.self c.finish-sent.result _ _
    (record { works = c.new-writer.ensures.works; puts = c.append_reply-writer.ensures.gives; finish = c.finish-sent.ensures.link; failed = c.finish-sent.ensures.failed })
    c.new-writer.ensures.last last

pub returns-clause-failures : goal.returns-clause-failures
returns-clause-failures g c =
    let last : g.L.Link.failed c.link-1.given.0 ≡ c.finish-sent.new.self.failures = search rules in
    finished_failures c.new-writer.result c.append_reply-writer.result.writer c.finish-sent.new.self c.finish-sent.result c.append_reply-writer.result.cut c.ended.result _ _
    (record { works = c.new-writer.ensures.works; puts = c.append_reply-writer.ensures.gives; finish = c.finish-sent.ensures.link; failed = c.finish-sent.ensures.failed })
    c.new-writer.ensures.failures c.ended.ensures last

pub returns-clause-takes : goal.returns-clause-takes
returns-clause-takes g c =
    let last : g.L.Link.taken c.link-1.given.0 ≡ c.finish-sent.new.self.takes = search rules in
    finished_takes c.new-writer.result c.append_reply-writer.result.writer c.finish-sent.new.self c.finish-sent.result _ _
    (record { works = c.new-writer.ensures.works; puts = c.append_reply-writer.ensures.gives; finish = c.finish-sent.ensures.link; failed = c.finish-sent.ensures.failed })
    c.new-writer.ensures.takes last
