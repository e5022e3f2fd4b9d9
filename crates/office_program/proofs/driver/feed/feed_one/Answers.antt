use Rattle.office_core.specs.Taking.{failures_of}
use Rattle.office_program.specs.Driver.Going.{scene}
use Rattle.office_program.proofs.DriverLemmas.Steps.{feeds_next}
use Rattle.office_program.proofs.driver.feed.feed_one.Goals as goal

pub returns-clause-feeds : goal.returns-clause-feeds
returns-clause-feeds g c =
    feeds_next g.B.Books.ledger g.V.Observer.sees c.args.at c.args.place c.args.event.now c.feed-answer.result
    (scene c.args.office.now (failures_of g.B.Books.ledger c.args.office.now) c.args.rounds.now c.args.observer.now)
    (scene c.feed-answer.new.self (failures_of g.B.Books.ledger c.feed-answer.new.self) c.apply_notes_to_all.new.rounds c.observe.new.self)
    c.answer_for.new.rounds c.notes-notes.result.now c.outgoing-frames.result.now
    (λ past stands clean. (
      c.feed-answer.ensures.stands past stands clean,
      c.feed-answer.ensures.answers past stands clean,
      c.feed-answer.ensures.reported past stands clean,
    ))
    c.answer_for.ensures c.apply_notes_to_all.ensures c.notes-notes.ensures c.outgoing-frames.ensures c.observe.ensures
