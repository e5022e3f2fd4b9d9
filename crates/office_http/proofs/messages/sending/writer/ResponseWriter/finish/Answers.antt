use Rattle.std.proofs.Common.{◌≡◌, ◌∙◌, sym, subst, false}
use Rattle.office_http.specs.Messages.Sending.Giving.{Gives}
use Rattle.office_http.specs.Messages.Sending.Sending.{HasPut}
use Rattle.office_http.proofs.MessagesLemmas.SendingLemmas.Giving.{Sends-all}
use Rattle.office_http.proofs.messages.sending.writer.ResponseWriter.finish.Goals as goal
use Rattle.office_http.proofs.messages.sending.writer.ResponseWriter.finish.Goals.{then-has_failed, else-has_failed}

pub returns-clause-given : goal.returns-clause-given
returns-clause-given g c = λ base all so_far.
    let came = c.flush.ensures.sends base all (subst (λ writer. HasPut base writer all) (sym c.self.view_is) so_far) in
    elim c.if-has_failed.branch [
      | then-has_failed w ↦ subst (λ r. Gives r base (g.L.Link.given c.flush.new.link) all) (sym w.result-is) (came.sent, came.left, came.in_order, came.came)
      | else-has_failed w ↦
          let works : c.flush.new.self.failed ≡ false = sym c.has_failed.ensures ∙ w.if-has_failed.false in
          subst (λ r. Gives r base (g.L.Link.given c.flush.new.link) all) (sym w.result-is) (Sends-all base _ _ _ all works (c.flush.ensures.empty works) came)
    ]
