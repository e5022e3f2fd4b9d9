use Rattle.std.proofs.Common.{◌∙◌, List, reverse, ap}
use Rattle.std.specs.List.{filter_map}
use Rattle.office_events.specs.declared.facts.Fact.{Fact}
use Rattle.memory_books.specs.declared.tables.keys.Key.{Key}
use Rattle.memory_books.specs.declared.tables.places.Kind.TheVariants.{DeviceRegisters}
use Rattle.memory_books.specs.Tables.Places.{has_key, places_of}
use Rattle.memory_books.specs.Tables.Lookups.{register_read_at}
use Rattle.memory_books.proofs.TablesLemmas.Found.{if_ok_then, registers_read_found}
use Rattle.memory_books.proofs.tables.tables.Tables.registers_read.Goals as goal

pub returns : goal.returns
returns c = λ known is whole.
    if_ok_then c.registers_read_at.result
    (λ v at.
    at ∙ ap (λ (fs : List Fact). filter_map (register_read_at c.args.span fs) c.all-places.result.now) is
    ∙ ap (filter_map (register_read_at c.args.span (reverse known)))
    (c.all-places.ensures DeviceRegisters known whole.device_registers
    ∙ ap (λ (key : Key). reverse (places_of (has_key DeviceRegisters key) known)) c.named.ensures)
    ∙ registers_read_found known c.args.device.now c.args.span)
    c.registers_read_at.ensures
