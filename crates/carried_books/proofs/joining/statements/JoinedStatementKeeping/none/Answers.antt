use Rattle.std.proofs.Common.{[], refl}
use Rattle.carried_books.proofs.joining.statements.JoinedStatementKeeping.none.Goals as goal

pub returns : goal.returns
returns c = λ register. record {
  recorded = refl;
  zone_is = refl;
  meters = [];
  are = record { recorded = tt; joined = refl };
  reported = c.new.ensures.items;
}
