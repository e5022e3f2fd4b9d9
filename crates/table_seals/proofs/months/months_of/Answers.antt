use Rattle.std.proofs.Common.{rules, ◌≡◌, map}
use Rattle.std.proofs.lemmas.Result.{IfOk-weaker}
use Rattle.energy_report.specs.declared.form.Period.TheVariants.{Month}
use Rattle.energy_report.specs.Rows.{rows_by, shown}
use Rattle.table_seals.specs.Sealed.{sealed_month_of}
use Rattle.table_seals.proofs.MonthSums.{months_are, months_are_small}
use Rattle.table_seals.proofs.months.months_of.Goals as goal

pub month_seals-requires : goal.month_seals-requires
month_seals-requires c =
    let rows : c.as_slice-2.result.now ≡ map shown (rows_by Month c.in-Ok.days.items) = search rules in
    months_are_small c.args.zone.now c.args.shares.now c.in-Ok.days.items c.as_slice-2.result.now c.requires.energy c.in-Ok.ensures.accounts rows

pub returns : goal.returns
returns c =
    let rows : c.as_slice-2.result.now ≡ map shown (rows_by Month c.in-Ok.days.items) = search rules in
    IfOk-weaker c.month_seals.result _ _
    (λ months from. months_are c.args.zone.now c.args.shares.now c.in-Ok.days.items c.as_slice-2.result.now (map sealed_month_of months.items)
    c.requires.energy c.in-Ok.ensures.accounts rows from)
    c.month_seals.ensures
