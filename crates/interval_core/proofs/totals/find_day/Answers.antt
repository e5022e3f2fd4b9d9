use Rattle.std.proofs.Common.{◌≡◌, ◌≤◌, map, length, false, sym, ◌∙◌, arith}
use Rattle.std.specs.Prelude.{pos}
use Rattle.std.specs.Ordering.{int_eq}
use Rattle.std.proofs.lemmas.List.{length-map}
use Rattle.jiff.specs.Words.{epoch_day}
use Rattle.interval_core.specs.Days.{account_of}
use Rattle.interval_core.specs.Fold.{IsPlace}
use Rattle.interval_core.proofs.PlaceLemmas.{account-at, later-from, other_day}
use Rattle.interval_core.proofs.totals.find_day.Goals as goal
use Rattle.interval_core.proofs.totals.find_day.Goals.{else-place-totals-via-then-place-totals+else-eq, else-place-totals-via-else-place-totals}

pub returns-else-place-totals-clause-missing : goal.returns-else-place-totals-clause-missing
returns-else-place-totals-clause-missing c =
    let accounts = map account_of c.args.totals.now in
    let day = epoch_day c.args.day in
    let n = c.place_of-place.result in
    let same_length : length accounts ≡ length c.args.totals.now = length-map c.args.totals.now account_of in
    let place : IsPlace day accounts n = c.place_of-place.ensures.place c.requires in
    let within : n ≤ length accounts = omega arith in
    record {
      within = within;
      earlier = place.earlier;
      later = elim c.else-place-totals.branch [
        | else-place-totals-via-then-place-totals+else-eq w ↦
            let t = w.index-totals-place.result in
            let seen = account-at c.args.totals.now n t w.if-place-totals.true w.index-totals-place.is in
            let test : int_eq (epoch_day t.day) day ≡ false = rw (← w.index-totals-place.is) at (sym w.eq.ensures ∙ w.if-eq.false) in
            later-from day accounts n (account_of t) c.requires within place.others (λ lt. rw seen (other_day (epoch_day t.day) day test))
        | else-place-totals-via-else-place-totals w ↦
            later-from day accounts n (record { day = pos 0; count = 0; mwh = 0 }) c.requires within place.others (λ lt. absurd (omega arith))
      ];
    }
