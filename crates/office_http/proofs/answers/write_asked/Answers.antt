use Rattle.std.proofs.Common.{None, sym, subst}
use Rattle.office_http.specs.Messages.Kinds.{done_text}
use Rattle.office_http.specs.Messages.Replies.{reply_bytes, row_reply}
use Rattle.office_http.specs.Serving.{Serves}
use Rattle.office_http.proofs.Served.{command_reported, lasts_fed}
use Rattle.office_http.proofs.answers.write_asked.Goals as goal

pub returns : goal.returns
returns g c =
    let ledger = g.B.Books.ledger in
    let old = c.args.office.now in
    let new = c.feed-answer.new.self in
    let read = c.args.bytes.now in
    record {
      serves = λ past stands clean. record {
        put = reply_bytes (row_reply done_text c.command_result.result);
        serves =
            subst (λ a. Serves ledger past c.args.moment read old new None (reply_bytes (row_reply done_text a))) (sym c.command_result.ensures)
            (command_reported ledger past c.args.moment read old new c.args.asked c.feed-answer.result c.requires (c.feed-answer.ensures.answers past stands clean) (c.feed-answer.ensures.stands past stands clean) (c.feed-answer.ensures.leaves past stands clean) c.feed-answer.ensures.ends.stopped.0);
        puts = c.write_done.ensures;
      };
      gives = c.write_done.ensures.link;
      lasts = lasts_fed ledger old new c.args.asked c.feed-answer.result c.feed-answer.ensures.ends;
    }
