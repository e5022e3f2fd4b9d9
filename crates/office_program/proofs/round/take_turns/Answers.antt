use Rattle.std.proofs.Common.{rules, refl, sym, subst, ◌≡◌, ◌+◌, ◌∙◌, arith, true, false}
use Rattle.std.specs.Prelude.{Result, Err, Ok}
use Rattle.office_program.specs.Course.{Over, Take}
use Rattle.office_program.specs.Between.{scene_of}
use Rattle.office_program.specs.Stepping.{StepsFrom}
use Rattle.office_program.specs.Taking.{over_or_take}
use Rattle.office_program.specs.declared.fault.RoundFault.{RoundFault}
use Rattle.office_program.proofs.Stages.{as_turn, at_most, compose, used_up}
use Rattle.office_program.proofs.round.take_turns.Goals as goal

pub loop-turn-preserved : goal.loop-turn-preserved
loop-turn-preserved g c =
    let so_far = c.loop-turn.invariant in
    let one = c.in_ok-is_over.ensures in
    let old =
    scene_of g.L.Link g.B.Books g.C.Clock g.W.Write c.args.progress.now c.args.link.now c.args.office.now c.args.clock.now c.args.output.now in
    let mid =
    scene_of g.L.Link g.B.Books g.C.Clock g.W.Write c.loop-turn.progress c.loop-turn.link c.loop-turn.office c.loop-turn.clock c.loop-turn.output in
    let new =
    scene_of g.L.Link g.B.Books g.C.Clock g.W.Write c.turn.new.progress c.turn.new.link c.turn.new.office c.turn.new.clock c.turn.new.output in
    record {
      steps =
          as_turn g.B.Books.ledger old new Take c.in_ok-is_over.is_over false
          (compose g.B.Books.ledger old mid new Take (tt {0}) (λ done. Take) Take (Ok c.in_ok-is_over.is_over) over_or_take
          so_far.steps refl one.steps one.lasts.clean)
          c.if-is_over.false;
      failures = one.failures ∙ so_far.failures;
      takes = λ count is. omega (arith, so_far.takes count is, one.takes);
      lasts = record { clean = λ clean. so_far.lasts.clean (one.lasts.clean clean); zone = one.lasts.zone ∙ so_far.lasts.zone };
    }

pub returns-in_err-is_over-clause-steps : goal.returns-in_err-is_over-clause-steps
returns-in_err-is_over-clause-steps g c =
    let fault = c.in_err-is_over.field-0.0 in
    let is : c.from_residual.result ≡ Err fault = search rules in
    let one = c.in_err-is_over.ensures in
    let old =
    scene_of g.L.Link g.B.Books g.C.Clock g.W.Write c.args.progress.now c.args.link.now c.args.office.now c.args.clock.now c.args.output.now in
    let mid =
    scene_of g.L.Link g.B.Books g.C.Clock g.W.Write c.loop-turn.progress c.loop-turn.link c.loop-turn.office c.loop-turn.clock c.loop-turn.output in
    let new =
    scene_of g.L.Link g.B.Books g.C.Clock g.W.Write c.turn.new.progress c.turn.new.link c.turn.new.office c.turn.new.clock c.turn.new.output in
    let P : Result (Unit {0}) RoundFault → Type 0 = λ r. StepsFrom g.B.Books.ledger old new Take r (λ done. Over) in
    subst P (sym is)
    (compose g.B.Books.ledger old mid new Take (tt {0}) (λ done. Take) Take (Err fault) over_or_take
    c.loop-turn.invariant.steps refl one.steps one.lasts.clean)

pub returns-in_err-is_over-clause-takes : goal.returns-in_err-is_over-clause-takes
returns-in_err-is_over-clause-takes g c =
    at_most c.in_err-is_over.field-0.0 c.loop-turn._turn _ _ _ (omega arith) c.loop-turn.invariant.takes c.in_err-is_over.ensures.takes

pub returns-then-is_over-clause-steps : goal.returns-then-is_over-clause-steps
returns-then-is_over-clause-steps g c =
    let one = c.in_ok-is_over.ensures in
    let old =
    scene_of g.L.Link g.B.Books g.C.Clock g.W.Write c.args.progress.now c.args.link.now c.args.office.now c.args.clock.now c.args.output.now in
    let mid =
    scene_of g.L.Link g.B.Books g.C.Clock g.W.Write c.loop-turn.progress c.loop-turn.link c.loop-turn.office c.loop-turn.clock c.loop-turn.output in
    let new =
    scene_of g.L.Link g.B.Books g.C.Clock g.W.Write c.turn.new.progress c.turn.new.link c.turn.new.office c.turn.new.clock c.turn.new.output in
    as_turn g.B.Books.ledger old new Take c.in_ok-is_over.is_over true
    (compose g.B.Books.ledger old mid new Take (tt {0}) (λ done. Take) Take (Ok c.in_ok-is_over.is_over) over_or_take
    c.loop-turn.invariant.steps refl one.steps one.lasts.clean)
    c.if-is_over.true

pub returns-then-is_over-clause-takes : goal.returns-then-is_over-clause-takes
returns-then-is_over-clause-takes g c =
    (c.loop-turn._turn + 1, omega arith, λ count is. omega (arith, c.loop-turn.invariant.takes count is, c.in_ok-is_over.ensures.takes))

pub returns-clause-steps : goal.returns-clause-steps
returns-clause-steps g c =
    let old =
    scene_of g.L.Link g.B.Books g.C.Clock g.W.Write c.args.progress.now c.args.link.now c.args.office.now c.args.clock.now c.args.output.now in
    let mid =
    scene_of g.L.Link g.B.Books g.C.Clock g.W.Write c.loop-turn.progress c.loop-turn.link c.loop-turn.office c.loop-turn.clock c.loop-turn.output in
    used_up {Y = Unit {0}} g.B.Books.ledger old mid Take (tt {0}) (λ done. Take) (λ done. Over) c.loop-turn.invariant.steps
