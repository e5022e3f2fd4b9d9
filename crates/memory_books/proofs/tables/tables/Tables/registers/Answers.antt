use Rattle.std.proofs.Common.{◌∙◌, List, reverse, ap}
use Rattle.std.specs.List.{filter_map}
use Rattle.office_events.specs.declared.facts.Fact.{Fact}
use Rattle.memory_books.specs.declared.tables.keys.Key.{Key}
use Rattle.memory_books.specs.declared.tables.places.Kind.TheVariants.{DeviceRegisters}
use Rattle.memory_books.specs.Tables.Places.{has_key, places_of}
use Rattle.memory_books.specs.Tables.Lookups.{register_at}
use Rattle.memory_books.proofs.TablesLemmas.Found.{if_ok_then, registers_found}
use Rattle.memory_books.proofs.tables.tables.Tables.registers.Goals as goal

pub returns : goal.returns
returns c = λ known is whole.
    if_ok_then c.registers_at.result
    (λ v at.
    at ∙ ap (λ (fs : List Fact). filter_map (register_at fs) c.all.result.now) is
    ∙ ap (filter_map (register_at (reverse known)))
    (c.all.ensures DeviceRegisters known whole.device_registers
    ∙ ap (λ (key : Key). reverse (places_of (has_key DeviceRegisters key) known)) c.named.ensures)
    ∙ registers_found known c.args.device.now)
    c.registers_at.ensures
