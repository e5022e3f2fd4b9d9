use Rattle.std.proofs.Common.{◌≡◌, ℕ, ◌<◌, ◌^◌, ◌++◌, ◌∷◌, [], ap, ◌∙◌}
use Rattle.std.specs.Prelude.{codes}
use Rattle.table_seals.specs.Reading.{Begins}
use Rattle.table_seals.specs.Texts.{pending_line}
use Rattle.table_seals.proofs.Following.{no_more, next_item, so_far, all_done}
use Rattle.table_seals.proofs.FollowingPolls.{pending_opened}
use Rattle.table_seals.proofs.parsing.pending.Goals as goal

pub loop-poll-preserved : goal.loop-poll-preserved
loop-poll-preserved c = record {
  reads = λ polls rest is.
      let before = c.loop-poll.invariant.reads polls rest is in
      let next = next_item (λ n. n < 2 ^ 64) pending_line (Begins (codes "pending ")) before.0 rest c.loop-poll.rest.now (λ n. c.in-Some.poll ≡ n) c.in-Some.after.now
      (λ n r fits text. c.in-Some.ensures.reads n r fits (text ∙ pending_opened n r)) c.in-Some.ensures.begins before.2 in (
        next.1,
        so_far c.loop-poll.polls.items c.push.new.self.items before.0 next.1 polls next.0
            (c.in_ok-push.ensures.items ∙ ap (λ (n : ℕ). c.loop-poll.polls.items ++ n ∷ []) next.3) next.2 before.1,
        next.4,
      );
  text = c.in-Some.ensures.utf8;
}

pub returns : goal.returns
returns c =
    λ polls rest is.
    let before = c.loop-poll.invariant.reads polls rest is in
    let last = no_more (λ n. n < 2 ^ 64) pending_line (Begins (codes "pending ")) before.0 rest c.loop-poll.rest.now
    (λ n r fits text. c.in_default.ensures.reads n r fits (text ∙ pending_opened n r)) before.2 in
    all_done c.loop-poll.polls.items before.0 polls last.0 before.1
