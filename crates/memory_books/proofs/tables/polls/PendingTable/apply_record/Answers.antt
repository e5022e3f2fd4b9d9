use Rattle.std.proofs.Common.{◌≡◌, ◌∷◌, [], ◌++◌, ◌∙◌, List, sym, ap, subst}
use Rattle.office_events.specs.declared.facts.Fact.{Fact}
use Rattle.office_events.specs.declared.facts.Poll.{Poll}
use Rattle.office_books.specs.Facts.{pending_in}
use Rattle.office_books.specs.Lawful.{AreLawful}
use Rattle.memory_books.specs.Tables.Polls.{polls_but}
use Rattle.memory_books.proofs.TablesLemmas.PollRows.{polls_wait, ends_pending}
use Rattle.memory_books.proofs.tables.polls.PendingTable.apply_record.Goals as goal

pub returns-in_ok-push-in-Poll-clause-ok : goal.returns-in_ok-push-in-Poll-clause-ok
returns-in_ok-push-in-Poll-clause-ok c = λ known lawful long says.
    let items : List Poll = c.push.new.self.items in
    subst (λ (f : Fact). AreLawful (f ∷ known) → items ≡ pending_in (f ∷ known)) (sym c.in-Poll.is)
    (λ h. c.in_ok-push-in-Poll.ensures.items ∙ ap (λ (ps : List Poll). ps ++ c.in-Poll.poll ∷ []) says ∙ polls_wait known c.in-Poll.poll h) lawful

pub returns-in-Outcome-clause-ok : goal.returns-in-Outcome-clause-ok
returns-in-Outcome-clause-ok c = λ known lawful long says.
    let items : List Poll = c.remove_poll.new.self.polls.items in
    subst (λ (f : Fact). items ≡ pending_in (f ∷ known)) (sym c.in-Outcome.is)
    (c.remove_poll.ensures ∙ ap (polls_but c.in-Outcome.ended.poll) says ∙ ends_pending known c.in-Outcome.ended)
