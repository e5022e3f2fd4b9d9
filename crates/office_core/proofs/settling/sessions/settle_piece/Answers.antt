use Rattle.std.proofs.Common.{ap, refl}
use Rattle.std.specs.Option.{is_some}
use Rattle.office_core.proofs.SettlingLemmas.Turning.{turns, ends, is_loud, called_by_piece, called_by_whole, within_piece, shorter_settles}
use Rattle.office_books.proofs.Moving.{consults_then}
use Rattle.office_core.proofs.Consulting.{reads_failed}
use Rattle.office_core.proofs.settling.sessions.settle_piece.Goals as goal

pub returns-in-None-clause-reports : goal.returns-in-None-clause-reports
returns-in-None-clause-reports g c = λ later.
    let after = rw (c.in-Ok.is, c.in-None.is) at c.next.follows.holds-at-none in
    ends _ _ _ _ _ _ _ _ _ _ _ c.turns.invariant.1 refl
    (called_by_whole _ _ c.args.moment c.turns.taken c.in-Ok.turn.taken c.args.piece.now _ c.turns.invariant.0
    (c.in-Ok.ensures.all (ap is_some c.in-None.is)) after.1)

pub turns-preserved : goal.turns-preserved
turns-preserved g c =
    let after = rw (c.in-Ok.is, c.in-Some.is) at c.next.follows.holds-at-none in
    let called = called_by_piece _ _ c.args.moment c.turns.taken c.in-Ok.turn.taken c.args.piece.now _ after.1 in (
      within_piece c.turns.taken c.in-Ok.turn.taken c.args.piece.now c.turns.invariant.0 c.in-Ok.ensures.taken,
      turns _ _ _ _ _ _ _ _ _ _ _ _ _ _ _ _ c.turns.invariant.1 refl after.1.settling after.1.last called
          c.turns.invariant.2.keeps.facts c.in_ok-add_outcome-in-Some.ensures.reads.goes.clean c.in_ok-add_outcome-in-Some.ensures.adds,
      consults_then _ _ _ _ _ c.turns.invariant.2 c.in_ok-add_outcome-in-Some.ensures.reads,
    )

pub returns-in_err-add_outcome-in-Some-clause-quiet :
    goal.returns-in_err-add_outcome-in-Some-clause-quiet
returns-in_err-add_outcome-in-Some-clause-quiet g c = λ none.
    let after = rw (c.in-Ok.is, c.in-Some.is) at c.next.follows.holds-at-none in
    let called = called_by_piece _ _ c.args.moment c.turns.taken c.in-Ok.turn.taken c.args.piece.now _ after.1 in
    is_loud _ _ _ _ _ _ _ _ _ _ _ _ c.turns.invariant.1 called
    (shorter_settles c.longer_pieces_settle.ensures _ c.args.moment _ c.args.piece.now none)

pub returns-in_err-add_outcome-in-Some-clause-reads : goal.returns-in_err-add_outcome-in-Some-clause-reads
returns-in_err-add_outcome-in-Some-clause-reads g c =
    reads_failed _ _ _ _ _ _ c.turns.invariant.2 c.in_err-add_outcome-in-Some.ensures.reads c.from_residual.ensures.1
