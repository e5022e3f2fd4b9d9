use Rattle.office_books.specs.Ranges.{IsSound}
use Rattle.office_core.proofs.SettlingLemmas.Overlays.{StandsAfterFirst}
use Rattle.office_core.proofs.settling.following.with_facts.Given as goal

abbrev pub invariant-loop-fact : goal.invariant-loop-fact
invariant-loop-fact l = IsSound l.following × StandsAfterFirst l.fn.row l.facts l.fact-index l.following
