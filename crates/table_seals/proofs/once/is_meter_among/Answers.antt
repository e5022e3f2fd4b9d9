use Rattle.std.proofs.Common.{map, sym, ◌∙◌}
use Rattle.std.specs.Prelude.{bytes_eq}
use Rattle.table_seals.specs.Sealed.{Sealed, sealed_of}
use Rattle.table_seals.proofs.Repeats.{list_any-map}
use Rattle.table_seals.proofs.once.is_meter_among.Goals as goal

pub returns : goal.returns
returns c =
    c.has_meter.ensures ∙ sym (list_any-map sealed_of (λ (other : Sealed). bytes_eq other.meter c.args.meter.now) c.args.seals.now)
    ∙ sym (list_any-map (λ (other : Sealed). other.meter) (λ other. bytes_eq other c.args.meter.now) (map sealed_of c.args.seals.now))
