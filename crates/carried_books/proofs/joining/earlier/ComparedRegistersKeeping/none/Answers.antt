use Rattle.std.proofs.Common.{List, None}
use Rattle.std.proofs.lemmas.List.Elements.{All-nil}
use Rattle.office_events.specs.declared.facts.Fact.{Fact}
use Rattle.carried_books.specs.Joining.Earlier.{HoldAll}
use Rattle.carried_books.proofs.joining.earlier.ComparedRegistersKeeping.none.Goals as goal

pub returns : goal.returns
returns c register = ((c.none.ensures register).0, All-nil (λ (facts : List Fact). HoldAll c.none.result.kept.items facts None))
