use Rattle.std.proofs.Common.{◌∙◌, ℕ, List, reverse, length, ap}
use Rattle.memory_books.specs.declared.tables.keys.Key.{Key}
use Rattle.memory_books.specs.declared.tables.places.Kind.TheVariants.{DeviceRegisters}
use Rattle.memory_books.specs.Tables.Places.{has_key, places_of}
use Rattle.memory_books.proofs.TablesLemmas.Found.{registers_counted}
use Rattle.memory_books.proofs.tables.tables.Tables.register_count.Goals as goal

pub returns : goal.returns
returns c = λ known whole.
    ap (λ (ps : List ℕ). length ps)
    (c.all.ensures DeviceRegisters known whole.device_registers
    ∙ ap (λ (key : Key). reverse (places_of (has_key DeviceRegisters key) known)) c.named.ensures)
    ∙ registers_counted known c.args.device.now
