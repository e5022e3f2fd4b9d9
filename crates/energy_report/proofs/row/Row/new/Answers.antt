use Rattle.std.proofs.Common.{◌+◌, ◌-◌, ◌^◌, ◌∙◌, ap, zero-add}
use Rattle.std.specs.Prelude.{min}
use Rattle.energy_report.proofs.row.Row.new.Goals as goal

pub returns : goal.returns
returns c =
    let total = c.args.total.now in
    c.and.ensures
    ∙ ap (λ n. record { first = total.day; count = min n (2 ^ 64 - 1); mwh = min (0 + total.mwh) (2 ^ 128 - 1) }) (zero-add total.count)
    ∙ ap (λ n. record { first = total.day; count = min total.count (2 ^ 64 - 1); mwh = min n (2 ^ 128 - 1) }) (zero-add total.mwh)
