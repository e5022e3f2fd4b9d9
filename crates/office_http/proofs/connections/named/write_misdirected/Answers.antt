use Rattle.std.proofs.Common.{◌≡◌, [], None, rules, sym, subst}
use Rattle.std.proofs.KnownBytes.{Keeps-refl}
use Rattle.office_http.specs.declared.messages.status.Status.TheVariants.{Misdirected}
use Rattle.office_http.specs.Messages.Sending.Giving.{Gives}
use Rattle.office_http.specs.Messages.Replies.{fault, reply_bytes}
use Rattle.office_http.proofs.Handled.{ends_well, finished_failures, finished_last, finished_remaining, finished_takes, write_first}
use Rattle.office_http.proofs.connections.named.write_misdirected.Goals as goal

pub returns-clause-replies : goal.returns-clause-replies
returns-clause-replies g c =
    let given = g.L.Link.given c.args.link.now in
    let text = reply_bytes (fault Misdirected) in
    let last : g.L.Link.given c.link-1.given.0 ≡ c.finish-sent.new.self.given = search rules in
    record {
      sent = c.finish-sent.result;
      ends = c.ended.ensures;
      gives =
          subst (λ o. Gives c.finish-sent.result given o text) (sym last)
          (c.finish-sent.ensures.given given text
          (c.append_fault.ensures.put given [] (write_first given given c.new-writer.result c.new-writer.ensures.given c.new-writer.ensures.empty (Keeps-refl given))));
    }

pub returns-clause-ends : goal.returns-clause-ends
returns-clause-ends g c = ends_well c.finish-sent.result None c.ended.result c.ended.ensures

pub returns-clause-remaining : goal.returns-clause-remaining
returns-clause-remaining g c =
    let last : g.L.Link.remaining c.link-1.given.0 ≡ c.finish-sent.new.self.remaining = search rules in
    finished_remaining c.new-writer.result c.append_fault.new.writer c.finish-sent.new.self c.finish-sent.result _ _
    (record { works = c.new-writer.ensures.works; puts = c.append_fault.ensures.link; finish = c.finish-sent.ensures.link; failed = c.finish-sent.ensures.failed })
    c.new-writer.ensures.remaining last

pub returns-clause-last : goal.returns-clause-last
returns-clause-last g c =
    let last : g.L.Link.last c.link-1.given.0 ≡ c.finish-sent.new.self.last = search rules in
    finished_last c.new-writer.result c.append_fault.new.writer c.finish-sent.new.self c.finish-sent.result _ _
    (record { works = c.new-writer.ensures.works; puts = c.append_fault.ensures.link; finish = c.finish-sent.ensures.link; failed = c.finish-sent.ensures.failed })
    c.new-writer.ensures.last last

pub returns-clause-failures : goal.returns-clause-failures
returns-clause-failures g c =
    let last : g.L.Link.failed c.link-1.given.0 ≡ c.finish-sent.new.self.failures = search rules in
    finished_failures c.new-writer.result c.append_fault.new.writer c.finish-sent.new.self c.finish-sent.result None c.ended.result _ _
    (record { works = c.new-writer.ensures.works; puts = c.append_fault.ensures.link; finish = c.finish-sent.ensures.link; failed = c.finish-sent.ensures.failed })
    c.new-writer.ensures.failures c.ended.ensures last

pub returns-clause-takes : goal.returns-clause-takes
returns-clause-takes g c =
    let last : g.L.Link.taken c.link-1.given.0 ≡ c.finish-sent.new.self.takes = search rules in
    finished_takes c.new-writer.result c.append_fault.new.writer c.finish-sent.new.self c.finish-sent.result _ _
    (record { works = c.new-writer.ensures.works; puts = c.append_fault.ensures.link; finish = c.finish-sent.ensures.link; failed = c.finish-sent.ensures.failed })
    c.new-writer.ensures.takes last
