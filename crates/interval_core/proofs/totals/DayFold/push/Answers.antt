use Rattle.std.proofs.Common.{◌≡◌, ◌≤◌, ◌∙◌, sym, ap, subst, not, true, false, map}
use Rattle.std.specs.Prelude.{Contains}
use Rattle.std.specs.Option.{ForSome}
use Rattle.jiff.specs.Words.{epoch_day}
use Rattle.interval_core.specs.declared.shares.Share.{Share}
use Rattle.interval_core.specs.Zone.{day_at}
use Rattle.interval_core.specs.Days.{account_of, days_of}
use Rattle.interval_core.specs.Fold.{FoldState, HasTaken, IsAdded}
use Rattle.interval_core.proofs.AccountLemmas.{is_latest}
use Rattle.interval_core.proofs.FoldLemmas.{count-fits, is_latest-eq, sound-added, taken-added}
use Rattle.interval_core.proofs.totals.DayFold.push.Goals as goal

pub add-requires-clause-counts : goal.add-requires-clause-counts
add-requires-clause-counts c = count-fits c.self.inside.latest c.self.inside.totals.items c.self.invariant

pub returns-in_err-add-clause-known : goal.returns-in_err-add-clause-known
returns-in_err-add-clause-known c = λ contains.
    let old = map account_of c.self.inside.totals.items in
    let same : old ≡ c.args.self.now.accounts = ap (λ (f : FoldState). f.accounts) c.self.view_is in
    let inside : Contains (days_of old) (epoch_day c.in_ok-day.day) = rw (same, c.in_ok-day.ensures.day) contains in
    let no : false ≡ true = c.in_err-add.ensures.known inside in
    cc

pub invariant_of-self-2 : goal.invariant_of-self-2
invariant_of-self-2 c =
    let latest = c.self.inside.latest in
    let old = map account_of c.self.inside.totals.items in
    let new = map account_of c.add.new.totals.items in
    let flag : c.ne-is_new.result ≡ not (is_latest latest c.args.start) = c.ne-is_new.ensures ∙ ap not (is_latest-eq latest c.args.start) in
    let added : IsAdded (epoch_day c.in_ok-day.day) (not (is_latest latest c.args.start)) c.args.mwh old new = rw flag at c.in_ok-add.ensures.ok in
    let order : ForSome latest (λ l. l ≤ c.args.start) = rw (ap (λ (f : FoldState). f.latest) c.self.view_is) c.requires.not_back in
    sound-added latest c.args.start (epoch_day c.in_ok-day.day) c.args.mwh old new c.self.invariant order c.requires.moment added

pub returns-clause-taken : goal.returns-clause-taken
returns-clause-taken c = λ rows taken fits.
    let latest = c.self.inside.latest in
    let old = map account_of c.self.inside.totals.items in
    let new = map account_of c.add.new.totals.items in
    let row : Share = record { start = c.args.start; mwh = c.args.mwh } in
    let flag : c.ne-is_new.result ≡ not (is_latest latest c.args.start) = c.ne-is_new.ensures ∙ ap not (is_latest-eq latest c.args.start) in
    let added : IsAdded (day_at c.args.zone.now c.args.start) (not (is_latest latest c.args.start)) c.args.mwh old new = rw (flag, c.in_ok-day.ensures.day) at c.in_ok-add.ensures.ok in
    let order : ForSome latest (λ l. l ≤ c.args.start) = rw (ap (λ (f : FoldState). f.latest) c.self.view_is) c.requires.not_back in
    let was : HasTaken c.args.zone.now rows (record { accounts = old; latest = latest }) = subst (HasTaken c.args.zone.now rows) (sym c.self.view_is) taken in
    taken-added c.args.zone.now rows row latest old new was order fits added
