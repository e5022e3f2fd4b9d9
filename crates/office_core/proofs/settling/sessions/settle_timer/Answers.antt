use Rattle.std.proofs.Common.{refl}
use Rattle.office_core.proofs.SettlingLemmas.Turning.{turns, ends, ends_quietly, is_loud, called_by_event}
use Rattle.office_books.proofs.Moving.{consults_then}
use Rattle.office_core.proofs.Consulting.{reads_failed}
use Rattle.office_core.proofs.settling.sessions.settle_timer.Goals as goal

pub returns-in-None-clause-reports : goal.returns-in-None-clause-reports
returns-in-None-clause-reports g c = λ later.
    let after = rw (c.in-Ok.is, c.in-None.is) at c.tick.follows.holds-at-none in
    ends _ _ _ _ _ _ _ _ _ _ _ c.turns.invariant.0 refl (called_by_event _ _ _ _ after.1)

pub returns-in-None-clause-quiet : goal.returns-in-None-clause-quiet
returns-in-None-clause-quiet g c = λ none.
    let after = rw (c.in-Ok.is, c.in-None.is) at c.tick.follows.holds-at-none in
    let same = ends_quietly _ _ _ _ _ _ _ _ _ _ _ c.turns.invariant.0 (called_by_event _ _ _ _ after.1) none in
    record { ok = refl; books = same.0; draft = same.1 }

pub turns-preserved : goal.turns-preserved
turns-preserved g c =
    let after = rw (c.in-Ok.is, c.in-Some.is) at c.tick.follows.holds-at-none in (
      turns _ _ _ _ _ _ _ _ _ _ _ _ _ _ _ _ c.turns.invariant.0 refl after.1.settling after.1.last (called_by_event _ _ _ _ after.1)
          c.turns.invariant.1.keeps.facts c.in_ok-add_outcome-in-Some.ensures.reads.goes.clean c.in_ok-add_outcome-in-Some.ensures.adds,
      consults_then _ _ _ _ _ c.turns.invariant.1 c.in_ok-add_outcome-in-Some.ensures.reads,
    )

pub returns-in_err-add_outcome-in-Some-clause-quiet :
    goal.returns-in_err-add_outcome-in-Some-clause-quiet
returns-in_err-add_outcome-in-Some-clause-quiet g c = λ none.
    let after = rw (c.in-Ok.is, c.in-Some.is) at c.tick.follows.holds-at-none in
    is_loud _ _ _ _ _ _ _ _ _ _ _ _ c.turns.invariant.0 (called_by_event _ _ _ _ after.1) none

pub returns-in_err-add_outcome-in-Some-clause-reads : goal.returns-in_err-add_outcome-in-Some-clause-reads
returns-in_err-add_outcome-in-Some-clause-reads g c =
    reads_failed _ _ _ _ _ _ c.turns.invariant.1 c.in_err-add_outcome-in-Some.ensures.reads c.from_residual.ensures.1
