use Rattle.std.proofs.Common.{ℕ, List, subst}
use Rattle.office_events.specs.declared.events.Event.TheVariants.{Bytes}
use Rattle.office_books.specs.Refusals.{with_answer}
use Rattle.office_core.specs.Standing.{Stands}
use Rattle.office_running.proofs.Going.{goes_fed}
use Rattle.office_running.proofs.device_polls.Polling.hear.Goals as goal

pub returns-clause-fed : goal.returns-clause-fed
returns-clause-fed g c = λ past stands clean.
    let P : List ℕ → Type 0 = λ bytes. Stands g.B.Books.ledger (with_answer past c.args.now.moment (Bytes c.args.device bytes) c.feed-answer.result) c.feed-answer.new.self in
    (c.feed-answer.result, subst P c.new.ensures (c.feed-answer.ensures.stands past stands clean))

pub returns-clause-goes : goal.returns-clause-goes
returns-clause-goes g c = λ names.
    goes_fed names g.B.Books.ledger c.args.now.moment _ c.feed-answer.result c.args.office.now c.feed-answer.new.self c.feed-answer.ensures.stands
    c.feed-answer.ensures.ends tt
