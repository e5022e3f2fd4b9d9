use Rattle.std.proofs.Common.{◌≡◌, ◌-◌, ◌<◌, ℕ, suc, sym, ◌∙◌, List, map, length, get_or, drop, true, false, arith}
use Rattle.std.specs.Prelude.{ℤ, ◌≤ℤ◌, ◌<ℤ◌, All}
use Rattle.std.specs.Ordering.{int_cmp, is_le}
use Rattle.std.proofs.Math.Seq.{drop-cons}
use Rattle.std.proofs.lemmas.List.{length-map}
use Rattle.std.proofs.lemmas.List.Elements.{All-cons}
use Rattle.jiff.specs.Words.{epoch_day}
use Rattle.interval_core.specs.Days.{DayAccount, account_of}
use Rattle.interval_core.proofs.OrderLemmas.{earlier-take, le_from_cmp, lt_from_cmp}
use Rattle.interval_core.proofs.PlaceLemmas.{NotEarlier, account-at}
use Rattle.interval_core.proofs.totals.place_of.Goals as goal

-- Suppose that all day accounts (energies of civil days) after index `n` are of `day` or later. If
-- the account at `n` is of `day` or later, then all accounts from `n` on are.
one_more : (day : ℤ) (accounts : List DayAccount) (n : ℕ) (d : DayAccount) → n < length accounts → day ≤ℤ (get_or accounts n d).day
    → All (NotEarlier day) (drop (suc n) accounts) → All (NotEarlier day) (drop n accounts)
one_more day accounts n d within here others =
    rw (drop-cons accounts n d within) (All-cons (NotEarlier day) (get_or accounts n d) (drop (suc n) accounts) here others)

pub loop-place-preserved : goal.loop-place-preserved
loop-place-preserved c =
    let t = c.index-totals-place.result in
    let accounts = map account_of c.args.totals.now in
    let n = c.loop-place.place - 1 in
    let more : suc n ≡ c.loop-place.place = omega arith in
    let within : n < length c.args.totals.now = omega arith in
    let inside : n < length accounts = rw (length-map c.args.totals.now account_of) within in
    let here : get_or accounts n (account_of t) ≡ account_of t = account-at c.args.totals.now n t within c.index-totals-place.is in
    let test : is_le (int_cmp (epoch_day c.args.day) (epoch_day t.day)) ≡ true = rw (← c.index-totals-place.is) at (sym c.le.ensures ∙ c.if-le.true) in
    let order : epoch_day c.args.day ≤ℤ (get_or accounts n (account_of t)).day = rw here (le_from_cmp (epoch_day c.args.day) (epoch_day t.day) test) in
    let others : All (NotEarlier (epoch_day c.args.day)) (drop (suc n) accounts) = rw more c.loop-place.invariant.others in
    record { within = omega arith; others = one_more (epoch_day c.args.day) accounts n (account_of t) inside order others }

pub returns-else-le-clause-place : goal.returns-else-le-clause-place
returns-else-le-clause-place c = λ order.
    let t = c.index-totals-place.result in
    let accounts = map account_of c.args.totals.now in
    let n = c.loop-place.place - 1 in
    let more : suc n ≡ c.loop-place.place = omega arith in
    let within : n < length c.args.totals.now = omega arith in
    let inside : n < length accounts = rw (length-map c.args.totals.now account_of) within in
    let here : get_or accounts n (account_of t) ≡ account_of t = account-at c.args.totals.now n t within c.index-totals-place.is in
    let test : is_le (int_cmp (epoch_day c.args.day) (epoch_day t.day)) ≡ false = rw (← c.index-totals-place.is) at (sym c.le.ensures ∙ c.if-le.false) in
    let last : (get_or accounts n (account_of t)).day <ℤ epoch_day c.args.day = rw here (lt_from_cmp (epoch_day c.args.day) (epoch_day t.day) test) in
    record {
      earlier = rw (← more) (earlier-take (epoch_day c.args.day) accounts n (account_of t) order inside last);
      others = c.loop-place.invariant.others;
    }
