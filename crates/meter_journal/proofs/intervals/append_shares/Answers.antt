use Rattle.std.proofs.Common.{◌≡◌, List, [], ◌∷◌, sym, ap, ◌∙◌, arith}
use Rattle.interval_core.specs.declared.shares.Share.{Share}
use Rattle.interval_core.specs.Share.{shares_of}
use Rattle.interval_core.specs.Account.{energy_of}
use Rattle.meter_journal.specs.Intervals.{with_shares}
use Rattle.meter_journal.proofs.Merging.{rising_of}
use Rattle.meter_journal.proofs.Joining.{joined_all, all_joined, one_more, first_and_rest}
use Rattle.meter_journal.proofs.intervals.append_shares.Goals as goal

pub loop-share-preserved : goal.loop-share-preserved
loop-share-preserved c =
    let rows : List Share = c.loop-share.rows.items in
    let share : Share = c.in-Some.share in
    let rest : List Share = c.next.new.self in
    let left : c.loop-share.shares ≡ share ∷ rest = c.in-Some.ensures.steps in
    let more : c.join_last.new.rows.items ≡ with_shares rows (share ∷ []) = c.in_ok-join_last.ensures.ok in
    record {
      can = tt;
      finite = tt;
      joined = ap (λ rs. joined_all rs rest) more ∙ ap (joined_all rows) (sym left) ∙ c.loop-share.invariant.joined;
      within = omega (arith, ap energy_of more, ap energy_of left, one_more rows share, first_and_rest share rest, c.loop-share.invariant.within);
    }

pub returns : goal.returns
returns c =
    let rows : List Share = c.loop-share.rows.items in
    let shares : List Share = shares_of c.args.step.now in
    let none : c.loop-share.shares ≡ [] = c.in_default.ensures.steps.0 in
    let all = c.shares_add_up.ensures c.args.step.now c.requires.forward in
    ap (joined_all rows) (sym none) ∙ c.loop-share.invariant.joined ∙ all_joined c.args.rows.now.items shares (rising_of shares all.in_order)
