use Rattle.std.proofs.Common.{inl}
use Rattle.script_run.proofs.ReplayingLemmas.Replies.{carried_as}
use Rattle.script_run.specs.Replaying.Events.{EventPrints, IsSpanOf, StartPrints, start_event}
use Rattle.script_run.proofs.replaying.events.feed_start.Goals as goal

pub returns-in-Some : goal.returns-in-Some
returns-in-Some g c = λ past stands.
    let span = c.in-Some.span in
    let is : IsSpanOf c.args.start.now span = record { function = c.in-Some.ensures.function; address = c.in-Some.ensures.address; count = c.in-Some.ensures.count } in
    carried_as (λ now printed next. EventPrints now c.args.at (start_event c.args.start.now span) printed next)
    (λ now printed next. StartPrints now c.args.at c.args.start.now printed next) past _ _ _ _ _ (λ now printed next prints. inl (span, is, prints))
    (c.feed.ensures past stands)
