use Rattle.std.proofs.Common.{◌≡◌, ◌+◌, ◌<◌, ◌++◌, ◌∷◌, [], Some, get_or, take, arith}
use Rattle.std.proofs.lemmas.List.{take_more}
use Rattle.interval_core.specs.declared.shares.Share.{Share}
use Rattle.interval_core.specs.Fold.{IsLatest}
use Rattle.interval_core.proofs.FoldLemmas.{latest-before, energy-more}
use Rattle.interval_core.proofs.totals.by_day.Goals as goal

pub loop-row-init : goal.loop-row-init
loop-row-init c = record { taken = c.new-fold.ensures.taken c.args.zone.now; energy = omega arith }

pub push-requires-clause-not_back : goal.push-requires-clause-not_back
push-requires-clause-not_back c = λ latest is.
    let i = c.loop-row.row-index in
    let d : Share = record { start = 0; mwh = 0 } in
    let at : IsLatest (take i c.args.rows.now) (Some latest) = rw is at c.loop-row.invariant.taken.latest in
    latest-before c.args.rows.now i latest d c.requires.never_back c.loop-row-test.true at

pub loop-row-preserved : goal.loop-row-preserved
loop-row-preserved c =
    let i = c.loop-row.row-index in
    let rows = c.args.rows.now in
    let d : Share = record { start = 0; mwh = 0 } in
    let row = get_or rows i d in
    let more : take (i + 1) rows ≡ take i rows ++ row ∷ [] = take_more rows i d c.loop-row-test.true in
    let sum = energy-more rows i d c.loop-row-test.true in
    let small : row.mwh < 18446744073709551616 = omega arith in
    let few : i < 18446744073709551616 = omega arith in
    let energy = c.loop-row.invariant.energy in
    record {
      taken = rw more (c.in_ok-push.ensures.taken (take i rows) c.loop-row.invariant.taken (omega (arith, energy, small, few)));
      energy = omega (arith, sum, energy, small);
    }
