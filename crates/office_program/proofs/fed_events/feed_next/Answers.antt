use Rattle.std.proofs.Common.{refl, ap, ◌∙◌}
use Rattle.std.specs.Prelude.{Ok}
use Rattle.office_program.specs.FedEvents.{history_with}
use Rattle.office_program.specs.Polling.{round_after}
use Rattle.office_program.proofs.Connecting.{connect_failed, connects}
use Rattle.office_program.proofs.Goings.{fed_one, goes_on, reported_broken}
use Rattle.office_program.proofs.fed_events.feed_next.Goals as goal

pub returns-in-Ok-clause-reports : goal.returns-in-Ok-clause-reports
returns-in-Ok-clause-reports g c = λ device past begun fed going does clean.
    let old = c.args.progress.now in
    let e = c.args.event.now in
    let feeds = c.in-Ok.ensures.feeds (g.C.Clock.moments c.args.clock.now) (g.C.Clock.moments c.now-at.new.self) (history_with past fed) going.leaves.stands clean in (
      fed_one c.now-at.result e (Ok c.in-Ok.answer),
      refl,
      goes_on c.rounds_hold.ensures g.B.Books.ledger device past begun _ _ c.args.office.now c.feed.new.office fed old c.note.new.self c.now-at.result e
          c.in-Ok.answer going does c.now-at.ensures feeds.0 feeds.1
          (c.note.ensures.round ∙ ap (λ notes. round_after e c.in-Ok.answer notes old.round) c.notes.ensures) c.note.ensures.latest,
    )

pub returns-in-Err-clause-reports : goal.returns-in-Err-clause-reports
returns-in-Err-clause-reports g c = λ device past begun fed going does clean.
    reported_broken g.B.Books.ledger device past begun _ _ c.args.office.now c.feed.new.office fed c.args.progress.now _ c.now-at.result c.args.event.now
    c.in-Err.fault going does c.now-at.ensures
    (c.in-Err.ensures.feeds (g.C.Clock.moments c.args.clock.now) (g.C.Clock.moments c.now-at.new.self) (history_with past fed) going.leaves.stands clean)
    refl c.latest_after-progress.ensures

pub returns-in-Ok-clause-connects : goal.returns-in-Ok-clause-connects
returns-in-Ok-clause-connects g c = λ fresh is past stands clean.
    let feeds = c.in-Ok.ensures.feeds (g.C.Clock.moments c.args.clock.now) (g.C.Clock.moments c.now-at.new.self) past stands clean in
    connects c.rounds_hold.ensures g.B.Books.ledger past _ _ c.feed.new.office c.now-at.result c.args.event.now c.in-Ok.answer c.args.progress.now c.note.new.self fresh is
    (c.note.ensures.round ∙ ap (λ notes. round_after c.args.event.now c.in-Ok.answer notes c.args.progress.now.round) c.notes.ensures) c.note.ensures.latest
    c.now-at.ensures feeds.0 feeds.1

pub returns-in-Err-clause-connects : goal.returns-in-Err-clause-connects
returns-in-Err-clause-connects g c = λ fresh is past stands clean.
    connect_failed g.B.Books.ledger past _ _ c.feed.new.office c.now-at.result c.args.event.now c.args.progress.now _ c.in-Err.fault is refl c.latest_after-progress.ensures
    c.now-at.ensures
    (c.in-Err.ensures.feeds (g.C.Clock.moments c.args.clock.now) (g.C.Clock.moments c.now-at.new.self) past stands clean)
