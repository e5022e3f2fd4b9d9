use Rattle.std.proofs.Common.{None, refl}
use Rattle.carried_books.proofs.CarryingLemmas.Lasts.{where_it_stands}
use Rattle.carried_books.proofs.carrying.laws.meters_continue_from_their_last_state.Goals as goal

pub returns : goal.returns
returns c = λ facts meter row there. where_it_stands None facts meter row there refl
