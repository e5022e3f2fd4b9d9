use Rattle.std.proofs.Common.{◌≡◌, ◌∷◌, [], ◌++◌, ◌∙◌, List, None, map, reverse, sym, ap, subst}
use Rattle.office_events.specs.declared.facts.Fact.{Fact}
use Rattle.office_events.specs.declared.questions.PollRow.{PollRow}
use Rattle.office_books.specs.Facts.{polls_in}
use Rattle.office_books.specs.Lawful.{AreLawful}
use Rattle.office_books.specs.Readings.{poll_row}
use Rattle.memory_books.proofs.TablesLemmas.PollRows.{row_so, poll_comes, end_comes}
use Rattle.memory_books.proofs.tables.polls.PollsTable.apply_record.Goals as goal

pub returns-in_ok-push-in-Poll-clause-ok : goal.returns-in_ok-push-in-Poll-clause-ok
returns-in_ok-push-in-Poll-clause-ok c = λ known lawful long says.
    let items : List PollRow = c.push.new.self.items in
    subst (λ (f : Fact). AreLawful (f ∷ known) → items ≡ map (poll_row (f ∷ known)) (reverse (polls_in (f ∷ known)))) (sym c.in-Poll.is)
    (λ h. c.in_ok-push-in-Poll.ensures.items ∙ ap (λ (rows : List PollRow). rows ++ row_so c.in-Poll.poll None ∷ []) says ∙ poll_comes known c.in-Poll.poll h) lawful

pub returns-in-Outcome-clause-ok : goal.returns-in-Outcome-clause-ok
returns-in-Outcome-clause-ok c = λ known lawful long says.
    let items : List PollRow = c.end_poll.new.self.rows.items in
    subst (λ (f : Fact). AreLawful (f ∷ known) → items ≡ map (poll_row (f ∷ known)) (reverse (polls_in (f ∷ known)))) (sym c.in-Outcome.is)
    (λ h. end_comes known c.in-Outcome.ended c.args.self.now.rows.items items h says c.end_poll.ensures) lawful
