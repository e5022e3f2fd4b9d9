use Rattle.std.proofs.Common.{[], ◌∷◌, ap, sym, refl, subst}
use Rattle.std.specs.Prelude.{Err, Ok}
use Rattle.office_program.specs.Between.{desk_of, wire_of}
use Rattle.office_program.specs.Stepping.{IsNew, connection}
use Rattle.office_program.specs.declared.progress.Progress.{Progress}
use Rattle.office_program.proofs.Wholes.{connects_same, kept_failures, not_used, wired_connected}
use Rattle.office_program.proofs.round.round_over.Goals as goal

pub connect-requires : goal.connect-requires
connect-requires g c = let P : Progress → Type 0 = IsNew in subst P (sym c.new-progress.ensures) refl

pub returns-in-Ok-clause-rounds : goal.returns-in-Ok-clause-rounds
returns-in-Ok-clause-rounds g c = λ past stands clean.
    let device = c.args.device in
    let begun = desk_of g.B.Books g.C.Clock g.W.Write c.args.office.now c.args.clock.now c.args.output.now in
    let now = desk_of g.B.Books g.C.Clock g.W.Write c.connect.new.office c.connect.new.clock c.connect.new.output in
    let w = wire_of g.L.Link c.args.link.now in
    let h =
    connects_same g.B.Books.ledger device c.new-progress.result.round.device past begun now c.connect.new.office c.connect.new.progress (Ok c.in-Ok.field-0)
    (ap (λ (p : Progress). p.round.device) c.new-progress.ensures) (c.in-Ok.ensures.connects past stands (c.poll_to_end.ensures.lasts.clean clean)) in
    c.poll_to_end.ensures.polls device past begun w (connection device h.0 (Ok h.1.0) ∷ []) h.1.1 (wired_connected past h.0 device h.1.0 w)
    refl clean

pub returns-in-Err-clause-rounds : goal.returns-in-Err-clause-rounds
returns-in-Err-clause-rounds g c = λ past stands clean.
    let device = c.args.device in
    let begun = desk_of g.B.Books g.C.Clock g.W.Write c.args.office.now c.args.clock.now c.args.output.now in
    let now = desk_of g.B.Books g.C.Clock g.W.Write c.connect.new.office c.connect.new.clock c.connect.new.output in
    let w = wire_of g.L.Link c.args.link.now in
    let h =
    connects_same g.B.Books.ledger device c.new-progress.result.round.device past begun now c.connect.new.office c.connect.new.progress (Err c.in-Err.fault)
    (ap (λ (p : Progress). p.round.device) c.new-progress.ensures) (c.in-Err.ensures.connects past stands (c.end_unconnected.ensures.lasts.clean clean)) in
    c.end_unconnected.ensures.ends device past begun w h clean

pub returns-in-Err-clause-used : goal.returns-in-Err-clause-used
returns-in-Err-clause-used g c = λ is. absurd (not_used c.in-Err.fault c.end_unconnected.result c.in-Err.ensures.kind c.end_unconnected.ensures.reported is)

pub returns-in-Err-clause-failures : goal.returns-in-Err-clause-failures
returns-in-Err-clause-failures g c = kept_failures c.in-Err.fault c.end_unconnected.result _ c.in-Err.ensures.kind c.end_unconnected.ensures.reported
