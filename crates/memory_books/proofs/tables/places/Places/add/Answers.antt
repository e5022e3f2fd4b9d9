use Rattle.std.proofs.Common.{sym, rules}
use Rattle.memory_books.proofs.TablesLemmas.PlacesComing.{kept_under, on_err_of}
use Rattle.memory_books.proofs.tables.places.Places.add.Goals as goal

pub returns-in_err-push-clause-err : goal.returns-in_err-push-clause-err
returns-in_err-push-clause-err c =
    on_err_of c.from_residual.result
    (kept_under c.args.self.now.places (c.get_mut.follows.lender c.push.new.self) c.args.key c.push.new.self c.in-Some.places.now
    (sym c.in-Some.ensures.value) c.in_err-push.ensures.items ((c.get_mut.follows.holds c.push.new.self).3 (search rules)).0)
