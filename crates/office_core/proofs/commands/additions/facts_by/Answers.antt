use Rattle.std.proofs.Common.{◌≡◌, ℕ, List, IfOk, sym, subst}
use Rattle.office_events.specs.declared.commands.Command.{Command}
use Rattle.office_books.specs.Sessions as sessions
use Rattle.office_books.specs.History.{added_by}
use Rattle.office_core.proofs.commands.additions.facts_by.Goals as goal

pub returns-in-Exchange-clause-found : goal.returns-in-Exchange-clause-found
returns-in-Exchange-clause-found g c = λ known h clean.
    subst (λ (x : Command). IfOk c.exchanged.result (λ facts. (number : ℕ) (kept : List sessions.Slot) → facts.items ≡ added_by number c.args.moment kept known x))
    (sym c.in-Exchange.is) (c.exchanged.ensures.found known h clean)
