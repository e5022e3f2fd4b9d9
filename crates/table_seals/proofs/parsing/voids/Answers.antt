use Rattle.std.proofs.Common.{◌≡◌, [], ◌∷◌, ◌++◌, ap, ◌∙◌, arith}
use Rattle.std.specs.Prelude.{codes}
use Rattle.table_audit.specs.declared.rows.VoidRow.{VoidRow}
use Rattle.table_seals.specs.Reading.{Begins, VoidFits}
use Rattle.table_seals.specs.Texts.{void_line}
use Rattle.table_seals.proofs.Following.{no_more, next_item, so_far, all_done}
use Rattle.table_seals.proofs.parsing.voids.Goals as goal

pub loop-void-preserved : goal.loop-void-preserved
loop-void-preserved c = record {
  reads = λ meter voids rest is.
      let before = c.loop-void.invariant.reads meter voids rest is in
      let next = next_item VoidFits (void_line meter) (Begins (codes "void ")) before.0 rest c.loop-void.rest.now (λ v. c.in-Some.void ≡ v) c.in-Some.after.now
      (λ v r fits text. c.in-Some.ensures.reads meter v r is.word fits text) c.in-Some.ensures.begins before.2.lines in (
        next.1,
        so_far c.loop-void.voids.items c.push.new.self.items before.0 next.1 voids next.0
            (c.in_ok-push.ensures.items ∙ ap (λ (v : VoidRow). c.loop-void.voids.items ++ v ∷ []) next.3) next.2 before.1,
        record { word = is.word; lines = next.4 },
      );
  text = c.in-Some.ensures.utf8;
  short = omega (arith, c.in-Some.ensures.shorter, c.loop-void.invariant.short);
}

pub returns-clause-reads : goal.returns-clause-reads
returns-clause-reads c =
    λ meter voids rest is.
    let before = c.loop-void.invariant.reads meter voids rest is in
    let last = no_more VoidFits (void_line meter) (Begins (codes "void ")) before.0 rest c.loop-void.rest.now
    (λ v r fits text. c.in_default.ensures.reads meter v r is.word fits text) before.2.lines in
    (all_done c.loop-void.voids.items before.0 voids last.0 before.1, last.1)
