use Rattle.std.proofs.Common.{◌≡◌, Ok}
use Rattle.office_program.specs.Course.{Take}
use Rattle.office_program.specs.Passing.{AreTakes, Lasts}
use Rattle.office_program.specs.Between.{scene_of}
use Rattle.office_program.specs.Stepping.{StepsFrom}
use Rattle.office_program.proofs.round.take_turns.Given as goal

abbrev pub invariant-loop-turn : goal.invariant-loop-turn
invariant-loop-turn g l = record {
  steps : StepsFrom {X = Unit {0}} g.B.Books.ledger
      (scene_of g.L.Link g.B.Books g.C.Clock g.W.Write l.fn.progress l.fn.link l.fn.office l.fn.clock l.fn.output)
      (scene_of g.L.Link g.B.Books g.C.Clock g.W.Write l.progress l.link l.office l.clock l.output)
      Take (Ok tt) (λ done. Take);
  failures : g.L.Link.failed l.link ≡ g.L.Link.failed l.fn.link;
  takes : AreTakes l._turn (g.L.Link.taken l.fn.link) (g.L.Link.taken l.link);
  lasts : Lasts g.B.Books.ledger l.fn.office l.office;
}
