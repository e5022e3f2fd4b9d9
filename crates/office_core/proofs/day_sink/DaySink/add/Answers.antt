use Rattle.std.proofs.Common.{[], ◌∷◌, ◌++◌, Option, refl, sym, subst, arith}
use Rattle.interval_core.specs.Fold.{HasTaken}
use Rattle.interval_core.specs.declared.day.DayFault.{DayFault}
use Rattle.office_core.specs.DaySums.{UnlessFailed}
use Rattle.office_core.proofs.Summing.{no_earlier}
use Rattle.office_core.proofs.day_sink.DaySink.add.Goals as goal
use Rattle.office_core.proofs.day_sink.DaySink.add.Goals.{then-row-unwrap_or-via-then-row-unwrap_or, then-row-unwrap_or-via-else-row-unwrap_or+then-row-gt-LAST_MOMENT}

pub returns-then-row-unwrap_or : goal.returns-then-row-unwrap_or
returns-then-row-unwrap_or c = record {
  zone = refl;
  added = λ rows taken may.
      let sink = c.args.self.now in
      let turn = no_earlier sink.zone rows sink.fold sink.latest c.args.row sink.in_step taken may in
      elim c.then-row-unwrap_or.branch [
        | then-row-unwrap_or-via-then-row-unwrap_or w ↦ omega (arith, turn, c.unwrap_or.ensures, w.if-row-unwrap_or.true)
        | then-row-unwrap_or-via-else-row-unwrap_or+then-row-gt-LAST_MOMENT w ↦ omega (arith, may.moment, w.if-row-gt-LAST_MOMENT.true)
      ];
}

pub returns-in-Ok : goal.returns-in-Ok
returns-in-Ok c = record {
  zone = refl;
  added = λ rows taken may.
      let P : Option DayFault → Type 0 = λ f. UnlessFailed f (HasTaken c.args.self.now.zone (rows ++ c.args.row ∷ []) c.push.new.self) in
      subst P (sym c.requires.works) (c.in-Ok.ensures.taken rows taken may.energy);
}
