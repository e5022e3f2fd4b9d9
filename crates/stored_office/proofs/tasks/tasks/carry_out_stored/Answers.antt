use Rattle.office_books.specs.History.{facts_of}
use Rattle.stored_office.proofs.Found.{over}
use Rattle.stored_office.proofs.tasks.tasks.carry_out_stored.Goals as goal

pub returns-in-Ok-clause-does : goal.returns-in-Ok-clause-does
returns-in-Ok-clause-does g c = λ past has.
    over g.S.Store past c.in-Ok.opened c.new-books.result c.carry_out-done.result.books _ has.zone has.is_past
    (c.in-Ok.ensures.again has.zone (facts_of past) has.has) c.new-books.ensures.books c.new-books.ensures.stands
    (λ stands clean. c.carry_out-done.ensures.does past stands clean)
