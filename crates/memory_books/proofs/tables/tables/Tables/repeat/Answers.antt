use Rattle.std.proofs.Common.{◌∙◌, Some, None, refl}
use Rattle.memory_books.specs.declared.tables.places.Kind.TheVariants.{Replies}
use Rattle.memory_books.specs.Tables.Keys.{numbered}
use Rattle.memory_books.specs.Tables.Lookups.{repeat_at}
use Rattle.memory_books.proofs.TablesLemmas.Found.{looked_up, repeat_found}
use Rattle.memory_books.proofs.tables.tables.Tables.repeat.Goals as goal

pub returns-in-Some : goal.returns-in-Some
returns-in-Some c = λ known is whole.
    c.repeat_at.ensures
    ∙ looked_up (repeat_at c.args.request.now) c.args.facts.now known (Some c.in-Some.place) (numbered c.args.caller.now c.args.number)
    (numbered c.args.caller.now c.args.number) Replies is (c.in-Some.ensures Replies known whole.replies) refl
    ∙ repeat_found known c.args.caller.now c.args.number c.args.request.now

pub returns-in-None : goal.returns-in-None
returns-in-None c = λ known is whole.
    looked_up (repeat_at c.args.request.now) c.args.facts.now known None (numbered c.args.caller.now c.args.number)
    (numbered c.args.caller.now c.args.number) Replies is (c.in-None.ensures Replies known whole.replies) refl
    ∙ repeat_found known c.args.caller.now c.args.number c.args.request.now
