use Rattle.std.proofs.Common.{sym, rules}
use Rattle.memory_books.specs.declared.tables.meters.Meters.{Meters}
use Rattle.memory_books.specs.Tables.Moving.{HasEntered, IsSame}
use Rattle.memory_books.proofs.TablesLemmas.PlacesComing.{on_ok_then, on_err_then}
use Rattle.memory_books.proofs.TablesLemmas.MetersComing.{changed}
use Rattle.memory_books.proofs.tables.meters.Meters.enter.Goals as goal

pub returns-in-Some-clause-ok : goal.returns-in-Some-clause-ok
returns-in-Some-clause-ok c =
    let new : Meters = record { alloc = c.args.self.now.alloc; meters = c.get_mut.follows.lender c.add_entry.new.self } in
    on_ok_then c.add_entry.result
    (λ has. changed (HasEntered c.args.booked.now) c.args.self.now new c.args.booked.now.meter c.named-key.result c.in-Some.meter.now c.add_entry.new.self
    c.named-key.ensures (sym c.in-Some.ensures.value) ((c.get_mut.follows.holds c.add_entry.new.self).3 (search rules)) has)
    c.add_entry.ensures.ok

pub returns-in-Some-clause-err : goal.returns-in-Some-clause-err
returns-in-Some-clause-err c =
    let new : Meters = record { alloc = c.args.self.now.alloc; meters = c.get_mut.follows.lender c.add_entry.new.self } in
    on_err_then c.add_entry.result
    (λ has. changed IsSame c.args.self.now new c.args.booked.now.meter c.named-key.result c.in-Some.meter.now c.add_entry.new.self
    c.named-key.ensures (sym c.in-Some.ensures.value) ((c.get_mut.follows.holds c.add_entry.new.self).3 (search rules)) has)
    c.add_entry.ensures.err
