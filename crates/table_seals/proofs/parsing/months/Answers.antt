use Rattle.std.proofs.Common.{◌≡◌, List, [], ◌∷◌, ◌++◌, map, ap, ◌∙◌, arith}
use Rattle.std.specs.Prelude.{codes}
use Rattle.std.proofs.lemmas.List.{map-append}
use Rattle.table_seals.specs.declared.seals.MonthSeal.{MonthSeal}
use Rattle.table_seals.specs.Lines.{IsMonthLineOf}
use Rattle.table_seals.specs.Reading.{Begins, MonthFits}
use Rattle.table_seals.specs.Sealed.{SealedMonth, sealed_month_of}
use Rattle.table_seals.specs.Texts.{month_line}
use Rattle.table_seals.proofs.Following.{no_more, next_item, so_far, all_done}
use Rattle.table_seals.proofs.parsing.months.Goals as goal

pub loop-line-preserved : goal.loop-line-preserved
loop-line-preserved c = record {
  reads = λ meter months rest is.
      let before = c.loop-line.invariant.reads meter months rest is in
      let next = next_item MonthFits (month_line meter) (Begins (codes "month ")) before.0 rest c.loop-line.rest.now (λ m. IsMonthLineOf m c.in-Some.line) c.in-Some.after.now
      (λ m r fits text. c.in-Some.ensures.reads meter m r is.word fits text) c.in-Some.ensures.begins before.2.lines in
      let made : sealed_month_of c.in_ok-month.month ≡ next.0 = c.in_ok-month.ensures next.0 next.3 in
      let put : map sealed_month_of c.push.new.self.items ≡ map sealed_month_of c.loop-line.months.items ++ next.0 ∷ [] =
      ap (λ (ms : List MonthSeal). map sealed_month_of ms) c.in_ok-push.ensures.items ∙ map-append sealed_month_of c.loop-line.months.items (c.in_ok-month.month ∷ [])
      ∙ ap (λ (m : SealedMonth). map sealed_month_of c.loop-line.months.items ++ m ∷ []) made in (
        next.1,
        so_far (map sealed_month_of c.loop-line.months.items) (map sealed_month_of c.push.new.self.items) before.0 next.1 months next.0 put next.2 before.1,
        record { word = is.word; lines = next.4 },
      );
  text = c.in-Some.ensures.utf8;
  short = omega (arith, c.in-Some.ensures.shorter, c.loop-line.invariant.short);
}

pub returns-clause-reads : goal.returns-clause-reads
returns-clause-reads c =
    λ meter months rest is.
    let before = c.loop-line.invariant.reads meter months rest is in
    let last = no_more MonthFits (month_line meter) (Begins (codes "month ")) before.0 rest c.loop-line.rest.now
    (λ m r fits text. c.in_default.ensures.reads meter m r is.word fits text) before.2.lines in
    (all_done (map sealed_month_of c.loop-line.months.items) before.0 months last.0 before.1, last.1)
