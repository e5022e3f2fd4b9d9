use Rattle.std.proofs.Common.{◌==◌, not, rules}
use Rattle.std.proofs.lemmas.Fn.{filter_same}
use Rattle.office_events.specs.declared.facts.Poll.{Poll}
use Rattle.memory_books.proofs.tables.polls.Pending.remove_poll.Goals as goal

pub returns : goal.returns
returns c = filter_same _ (λ (poll : Poll). not (c.args.number == poll.number)) _ (λ x b f r. (search rules, search rules)) _ _ c.retain.ensures.filtered
