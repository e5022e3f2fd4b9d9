use Rattle.std.proofs.Common.{◌≡◌, Some, None, true, false, refl, ap, rules}
use Rattle.energy_report.specs.Periods.{is_same}
use Rattle.interval_core.specs.Ranges.{is_in}
use Rattle.energy_report.proofs.TakenLemmas.{dropped, next_row, opened, skipped, together}
use Rattle.energy_report.proofs.report_rows.ReportRowsRowSinkDayTotal.put.Goals as goal

pub returns-then-self : goal.returns-then-self
returns-then-self g c = record {
  output = refl;
  taken = λ from days h. dropped g.W.Write.contents days c.args.total from c.args.self.now c.if-self.true h;
}

pub returns-then-not-has : goal.returns-then-not-has
returns-then-not-has g c =
    let absent : is_in c.args.self.now.form.range c.args.total.day ≡ false = search rules in
    record { output = refl; taken = λ from days h. skipped g.W.Write.contents days c.args.total from c.args.self.now c.if-self.false absent h }

pub returns-in_default : goal.returns-in_default
returns-in_default g c =
    let there : is_in c.args.self.now.form.range c.args.total.day ≡ true = search rules in
    let none : c.args.self.now.pending ≡ None = search rules in
    record {
      output = refl;
      taken = λ from days h. opened g.W.Write.contents days c.args.total from c.args.self.now _ c.if-self.false there none
          (record { form = refl; now = refl; count = refl; failed = refl }) (ap Some c.new.ensures) h;
    }

pub returns-then-has_both : goal.returns-then-has_both
returns-then-has_both g c =
    let there : is_in c.args.self.now.form.range c.args.total.day ≡ true = search rules in
    let same : is_same c.args.self.now.form.period c.in-Some.open.first c.args.total.day ≡ true = search rules in
    record {
      output = refl;
      taken = λ from days h. together g.W.Write.contents days c.args.total from c.args.self.now _ c.in-Some.open c.if-self.false there c.in-Some.is same
          (record { form = refl; now = refl; count = refl; failed = refl }) (ap Some c.and.ensures) h;
    }

pub returns : goal.returns
returns g c =
    let there : is_in c.args.self.now.form.range c.args.total.day ≡ true = search rules in
    let other : is_same c.args.self.now.form.period c.in-Some.open.first c.args.total.day ≡ false = search rules in
    record {
      output = c.write_row.ensures.output;
      taken = λ from days h. next_row g.W.Write.contents days c.args.total from c.args.self.now c.write_row.new.self _ c.in-Some.open c.if-self.false there
          c.in-Some.is other c.write_row.ensures (record { form = refl; now = refl; count = refl; failed = refl }) (ap Some c.new-2.ensures) h;
    }
