use Rattle.std.proofs.Common.{refl, subst}
use Rattle.office_http.specs.Messages.Routing.Routes.{routes}
use Rattle.office_http.specs.Messages.Replies.{poll_reply, refused, reply_bytes, row_reply}
use Rattle.office_http.specs.Messages.Rows.{poll_text}
use Rattle.office_http.specs.Messages.WholeResponses.{IsReply}
use Rattle.office_events.specs.declared.refusals.Refusal.TheVariants as refusal
use Rattle.office_books.specs.History.{facts_of}
use Rattle.office_books.specs.Readings.{poll_row_of}
use Rattle.office_http.proofs.Served.{lasts_asked, lasts_same, row_reported, still, reported_off}
use Rattle.office_http.proofs.answers.write_poll_asked.Goals as goal

pub returns-in-None : goal.returns-in-None
returns-in-None g c =
    let ledger = g.B.Books.ledger in
    let old = c.args.office.now in
    let read = c.args.bytes.now in
    record {
      serves = λ past stands clean. record {
        put = reply_bytes (refused refusal.NotFound);
        serves =
            reported_off ledger past c.args.moment read old old (reply_bytes (refused refusal.NotFound)) refl c.requires.nothing
            (λ office. subst (λ n. IsReply office routes read (reply_bytes (poll_reply office n))) c.in-None.is (c.requires.replies office)) stands;
        puts = c.append_refusal.ensures;
      };
      gives = c.append_refusal.ensures.link;
      lasts = lasts_same ledger old;
    }

pub returns-in-Some : goal.returns-in-Some
returns-in-Some g c =
    let ledger = g.B.Books.ledger in
    let old = c.args.office.now in
    let new = c.poll-answer.new.self in
    let read = c.args.bytes.now in
    let number = c.in-Some.number in
    record {
      serves = λ past stands clean. record {
        put = reply_bytes (row_reply poll_text c.poll-answer.result);
        serves =
            row_reported ledger past c.args.moment read old new poll_text (poll_row_of (facts_of past) number) c.poll-answer.result
            (c.poll-answer.ensures.found past stands clean) c.requires.nothing
            (λ office answers. subst (λ a. IsReply office routes read (reply_bytes (row_reply poll_text a))) (answers.poll number)
            (subst (λ n. IsReply office routes read (reply_bytes (poll_reply office n))) c.in-Some.is (c.requires.replies office)))
            (still ledger past old new c.poll-answer.result c.poll-answer.ensures.asks stands) c.poll-answer.ensures.asks.stopped.0;
        puts = c.append_poll.ensures;
      };
      gives = c.append_poll.ensures.link;
      lasts = lasts_asked ledger old new c.poll-answer.result c.poll-answer.ensures.asks;
    }
