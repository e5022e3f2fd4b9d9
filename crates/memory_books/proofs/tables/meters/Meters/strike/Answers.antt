use Rattle.std.proofs.Common.{sym, rules}
use Rattle.memory_books.specs.declared.tables.meters.Meters.{Meters}
use Rattle.memory_books.specs.Tables.Moving.{HasStruck}
use Rattle.memory_books.proofs.TablesLemmas.MetersComing.{changed}
use Rattle.memory_books.proofs.tables.meters.Meters.strike.Goals as goal

pub returns-in-Some : goal.returns-in-Some
returns-in-Some c =
    let new : Meters = record { alloc = c.args.self.now.alloc; meters = c.get_mut.follows.lender c.strike.new.self } in
    changed (HasStruck c.args.voided.now.place) c.args.self.now new c.args.voided.now.meter c.named-key.result c.in-Some.meter.now c.strike.new.self
    c.named-key.ensures (sym c.in-Some.ensures.value) ((c.get_mut.follows.holds c.strike.new.self).3 (search rules)) c.strike.ensures
