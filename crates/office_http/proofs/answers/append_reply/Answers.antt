use Rattle.std.proofs.Common.{refl, subst}
use Rattle.office_http.specs.Messages.Routing.Routes.{routes}
use Rattle.office_http.specs.Messages.Replies.{fault, fault_said, reply_bytes}
use Rattle.office_http.specs.Wants.Wanting.{IsNoCommand, IsReportedOff, Wants}
use Rattle.office_http.proofs.Served.{lasts_same, no_command_reported, reported_off}
use Rattle.office_http.proofs.answers.append_reply.Goals as goal

pub returns-in-Rejected : goal.returns-in-Rejected
returns-in-Rejected g c =
    let ledger = g.B.Books.ledger in
    let old = c.args.office.now in
    let read = c.args.bytes.now in
    let wants : IsReportedOff routes read (reply_bytes (fault c.in-Rejected.status)) = subst (Wants routes read) c.in-Rejected.is c.requires.wants in
    record {
      serves = λ past stands clean. record {
        put = reply_bytes (fault c.in-Rejected.status);
        serves = reported_off ledger past c.args.moment read old old (reply_bytes (fault c.in-Rejected.status)) refl wants.nothing wants.reply stands;
        puts = c.append_fault.ensures;
      };
      gives = c.append_fault.ensures.link;
      lasts = lasts_same ledger old;
    }

pub returns-in-Refused : goal.returns-in-Refused
returns-in-Refused g c =
    let ledger = g.B.Books.ledger in
    let old = c.args.office.now in
    let read = c.args.bytes.now in
    let wants : IsNoCommand routes read c.in-Refused.why = subst (Wants routes read) c.in-Refused.is c.requires.wants in
    record {
      serves = λ past stands clean. record {
        put = reply_bytes (fault_said c.in-Refused.why);
        serves = no_command_reported ledger past c.args.moment read old c.in-Refused.why wants stands;
        puts = c.write_command_fault.ensures;
      };
      gives = c.write_command_fault.ensures.link;
      lasts = lasts_same ledger old;
    }

pub write_question-requires : goal.write_question-requires
write_question-requires g c = subst (Wants routes c.args.bytes.now) c.in-Answer.is c.requires.wants

pub write_asked-requires : goal.write_asked-requires
write_asked-requires g c = subst (Wants routes c.args.bytes.now) c.in-Command.is c.requires.wants
