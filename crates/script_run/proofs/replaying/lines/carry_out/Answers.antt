use Rattle.std.proofs.Common.{inl}
use Rattle.script_run.proofs.replaying.lines.carry_out.Goals as goal

pub returns-in-Event : goal.returns-in-Event
returns-in-Event g c = λ past stands. rw c.in-Event.is (inl (c.feed.ensures past stands))

pub returns-in-List : goal.returns-in-List
returns-in-List g c = λ past stands. rw c.in-List.is (c.feed_list.ensures past stands)

pub returns-in-Start : goal.returns-in-Start
returns-in-Start g c = λ past stands. rw c.in-Start.is (inl (c.feed_start.ensures past stands))
