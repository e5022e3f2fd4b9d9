use Rattle.run_schedule.proofs.HttpClientsLemmas.Oldest.{OldestBelow}
use Rattle.run_schedule.proofs.http_clients.choice.oldest_silent.Given as goal

abbrev pub invariant-loop-i : goal.invariant-loop-i
invariant-loop-i l = OldestBelow l.places l.i l.oldest
