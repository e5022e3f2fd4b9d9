use Rattle.std.proofs.Common.{◌≡◌, ◌<◌, ◌≤◌, ℕ, List, length, ap, arith}
use Rattle.energy_report.specs.declared.held_counts.HeldCount.{HeldCount}
use Rattle.energy_report.proofs.HeldLemmas.{all_pieces, piece_more, still_none}
use Rattle.energy_report.proofs.statement_text.push_counts.Goals as goal

pub loop-one-preserved : goal.loop-one-preserved
loop-one-preserved c =
    let xs : List HeldCount = c.by_cause-counts.result in
    let i : ℕ = c.loop-one.one-index in
    let eight : length xs ≡ 8 = ap length c.by_cause-counts.ensures in
    let lt : i < length xs = omega (arith, eight, c.loop-one-test.true) in
    record {
      bytes = piece_more c.args.format xs i _ c.args.page.now c.loop-one.page c.push_count.new.page c.loop-one.are_none lt c.loop-one.invariant.bytes
          c.loop-one.invariant.none c.push_count.ensures.bytes;
      none = still_none xs i _ c.loop-one.are_none c.both-are_none.result lt c.loop-one.invariant.none c.both-are_none.ensures;
      size = omega (arith, c.loop-one.invariant.size, c.push_count.ensures.size);
    }

pub returns : goal.returns
returns c =
    let xs : List HeldCount = c.by_cause-counts.result in
    let i : ℕ = c.loop-one.one-index in
    let eight : length xs ≡ 8 = ap length c.by_cause-counts.ensures in
    let all : length xs ≤ i = omega (arith, eight, c.loop-one-test.false) in
    let whole = all_pieces c.args.format c.args.held.now xs i c.args.page.now c.loop-one.page c.loop-one.are_none c.by_cause-counts.ensures all
    c.loop-one.invariant.bytes c.loop-one.invariant.none in
    record {
      bytes = whole.0;
      none = whole.1;
      size = omega (arith, c.loop-one.invariant.size, c.loop-one.auto.one-index-end);
    }
