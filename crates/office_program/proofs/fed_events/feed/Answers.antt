use Rattle.std.proofs.Common.{◌∙◌, ap}
use Rattle.std.proofs.KnownBytes.{Appends-nil}
use Rattle.office_core.specs.Standing.{notes_in, outgoing_in}
use Rattle.office_books.specs.Notes.{notes_after}
use Rattle.std.specs.Prelude.{Ok}
use Rattle.script_text.specs.AnswerText.{accepted_text}
use Rattle.office_program.proofs.Goings.{fed_printed, printed_stops}
use Rattle.office_program.proofs.fed_events.feed.Goals as goal

pub returns-in-Ok-clause-feeds : goal.returns-in-Ok-clause-feeds
returns-in-Ok-clause-feeds g c = λ moments later past stands clean.
    let answer = c.in-Ok.answer in
    let reported = c.in-Ok.ensures.reported past stands clean in
    fed_printed g.B.Books.ledger past c.args.at c.args.event.now answer _ _ c.feed.new.self
    (accepted_text answer (notes_in c.feed.new.self) (outgoing_in c.feed.new.self)) c.print.result
    (record {
      stands = c.in-Ok.ensures.stands past stands clean;
      answer = c.in-Ok.ensures.answers past stands clean;
      reported = reported;
    })
    c.print.ensures.prints
    (ap (λ notes. accepted_text answer notes (outgoing_in c.feed.new.self)) reported.notes
    ∙ ap (λ frames. accepted_text answer (notes_after past c.args.at c.args.event.now (Ok answer)) frames) reported.outgoing)

pub returns-in-Err-clause-feeds : goal.returns-in-Err-clause-feeds
returns-in-Err-clause-feeds g c = λ moments later past stands clean. (
  record {
    stands = c.in-Err.ensures.stands past stands clean;
    answer = c.in-Err.ensures.answers past stands clean;
    reported = c.in-Err.ensures.reported past stands clean;
  },
  Appends-nil _,
)

pub returns-in-Ok-clause-stops : goal.returns-in-Ok-clause-stops
returns-in-Ok-clause-stops g c = printed_stops _ c.args.event.now _ _ _ _ c.print.result _ c.print.ensures.prints

pub returns-in-Err-clause-stops : goal.returns-in-Err-clause-stops
returns-in-Err-clause-stops g c = record { before = c.in-Err.ensures.ends.stopped.0; after = c.in-Err.ensures.ends.stops }
