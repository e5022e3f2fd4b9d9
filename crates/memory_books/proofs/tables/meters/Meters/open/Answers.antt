use Rattle.std.proofs.Common.{List, ap}
use Rattle.std.specs.Map.{lookup}
use Rattle.std.specs.BTreeMap.{is_at}
use Rattle.memory_books.specs.declared.tables.keys.Key.{Key}
use Rattle.memory_books.specs.declared.tables.meter.Meter.{Meter}
use Rattle.memory_books.specs.declared.tables.meters.Meters.{Meters}
use Rattle.memory_books.specs.Tables.Keys.{key_cmp}
use Rattle.memory_books.proofs.TablesLemmas.PlacesComing.{on_err_of}
use Rattle.memory_books.proofs.TablesLemmas.MetersComing.{begun, unchanged}
use Rattle.memory_books.proofs.tables.meters.Meters.open.Goals as goal

pub returns-in_err-insert-clause-err : goal.returns-in_err-insert-clause-err
returns-in_err-insert-clause-err c =
    let new : Meters = record { alloc = c.args.self.now.alloc; meters = c.insert.new.self } in
    on_err_of c.from_residual.result
    (unchanged c.args.self.now new c.args.opening.now.meter
    (λ k. ap (λ (es : List (Key × Meter)). lookup (is_at (key_cmp k)) es) c.in_err-insert.ensures.err))

pub returns-clause-ok : goal.returns-clause-ok
returns-clause-ok c =
    let new : Meters = record { alloc = c.args.self.now.alloc; meters = c.insert.new.self } in
    begun c.args.self.now new c.args.opening.now c.named-key.result c.begin-meter.result c.named-key.ensures
    c.in_ok-insert.ensures.updates c.begin-meter.ensures
