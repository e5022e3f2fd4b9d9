use Rattle.std.proofs.Common.{length}
use Rattle.stored_office.proofs.advice.unaccepted.say_unaccepted.Given as goal

abbrev pub decreases-loop-answer : goal.decreases-loop-answer
decreases-loop-answer g l = length l.answers
