use Rattle.std.proofs.Common.{Option, inl, inr, refl, sym, subst}
use Rattle.interval_core.specs.declared.day.DayFault.{DayFault}
use Rattle.carried_books.specs.Joining.Days.{AddsUp}
use Rattle.carried_books.proofs.JoiningLemmas.Days.{behind}
use Rattle.carried_books.proofs.joining.days.JoinedDays.add.Goals as goal
use Rattle.carried_books.proofs.joining.days.JoinedDays.add.Goals.{then-row-unwrap_or-via-then-row-unwrap_or, then-row-unwrap_or-via-else-row-unwrap_or+then-row-gt-LAST_MOMENT}

pub returns-then-row-unwrap_or : goal.returns-then-row-unwrap_or
returns-then-row-unwrap_or c = record {
  zone = refl;
  added = λ rows taken fits.
      let sink = c.args.self.now in
      elim c.then-row-unwrap_or.branch [
        | then-row-unwrap_or-via-then-row-unwrap_or w ↦ inl (behind sink.zone rows sink.fold sink.latest c.args.row sink.in_step taken c.unwrap_or.result c.unwrap_or.ensures w.if-row-unwrap_or.true)
        | then-row-unwrap_or-via-else-row-unwrap_or+then-row-gt-LAST_MOMENT w ↦ inr w.if-row-gt-LAST_MOMENT.true
      ];
}

pub returns-in-Ok : goal.returns-in-Ok
returns-in-Ok c = record {
  zone = refl;
  added = λ rows taken fits.
      let P : Option DayFault → Type 0 = λ f. AddsUp f c.args.self.now.zone rows c.args.row c.push.new.self in
      subst P (sym c.requires.works) (c.in-Ok.ensures.taken rows taken fits);
}
