use Rattle.std.proofs.Common.{map, sym, ◌∙◌}
use Rattle.std.specs.Prelude.{bytes_eq}
use Rattle.table_seals.specs.Sealed.{SealedMonth, sealed_month_of}
use Rattle.table_seals.proofs.Repeats.{list_any-map}
use Rattle.table_seals.proofs.once.is_month_among.Goals as goal

pub returns : goal.returns
returns c =
    c.has_month.ensures ∙ sym (list_any-map sealed_month_of (λ (other : SealedMonth). bytes_eq other.month c.args.month.now) c.args.months.now)
    ∙ sym (list_any-map (λ (other : SealedMonth). other.month) (λ other. bytes_eq other c.args.month.now) (map sealed_month_of c.args.months.now))
