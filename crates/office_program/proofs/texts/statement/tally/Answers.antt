use Rattle.std.proofs.Common.{◌≡◌, ◌+◌, ◌*◌, ◌++◌, List, length, subst, ap, ◌∙◌, arith}
use Rattle.energy_report.specs.Statements.{tally_of}
use Rattle.office_books.specs.declared.entries.MeterEntry.{MeterEntry}
use Rattle.office_core.proofs.SeveralAsked.{asked, goes_on, kept_on, unasked}
use Rattle.office_program.proofs.StatementLemmas.{IsTallied, tally_more, tally_reported}
use Rattle.office_program.proofs.texts.statement.tally.Goals as goal

pub loop-turn-init : goal.loop-turn-init
loop-turn-init g c = record {
  tallied = λ past stands clean opening is. c.new-tally.ensures.none c.args.zone.now c.args.range.now;
  kept = unasked g.B.Books.ledger c.args.office.now;
  going = λ lt. absurd (omega (arith, lt));
}

pub returns-then-len-lt65536-clause-reports : goal.returns-then-len-lt65536-clause-reports
returns-then-len-lt65536-clause-reports g c =
    let ledger = g.B.Books.ledger in
    let zone = c.args.zone.now in
    let range = c.args.range.now in
    let same : length c.deref.result.now ≡ length c.in-Ok.piece.items = ap length c.deref.ensures.value in
    tally_reported ledger zone range c.args.office.now c.loop-turn.office c.entries.new.self c.args.meter.now (c.loop-turn.turn * 65536) c.loop-turn.tally
    c.take_all.new.self c.in-Ok.piece c.loop-turn.invariant.kept c.loop-turn.invariant.tallied c.in-Ok.ensures.asks c.in-Ok.ensures.listed
    (λ before is.
    subst (λ (es : List MeterEntry). c.take_all.new.self ≡ tally_of zone range (before ++ es)) c.deref.ensures.value (c.take_all.ensures before is))
    (omega (arith, same, c.len.ensures, c.deref.ensures.len, c.if-len-lt65536.true))

pub loop-turn-preserved : goal.loop-turn-preserved
loop-turn-preserved g c =
    let ledger = g.B.Books.ledger in
    let zone = c.args.zone.now in
    let range = c.args.range.now in
    let a = c.args.office.now in
    let b = c.loop-turn.office in
    let d = c.entries.new.self in
    let meter = c.args.meter.now in
    let turn = c.loop-turn.turn in
    let kept = c.loop-turn.invariant.kept in
    let asks = c.in-Ok.ensures.asks in
    let next : turn * 65536 + 65536 ≡ (turn + 1) * 65536 = omega arith in
    record {
      tallied = subst (λ n. IsTallied ledger zone range a d meter n c.take_all.new.self) next
          (tally_more ledger zone range a b d meter (turn * 65536) c.loop-turn.tally c.take_all.new.self c.in-Ok.piece kept c.loop-turn.invariant.tallied
          asks c.in-Ok.ensures.listed
          (λ before is.
          subst (λ (es : List MeterEntry). c.take_all.new.self ≡ tally_of zone range (before ++ es)) c.deref.ensures.value (c.take_all.ensures before is)));
      kept = kept_on ledger a b d kept (asked ledger b d c.in-Ok.piece asks);
      going = λ lt stopped. goes_on ledger b d c.in-Ok.piece asks (kept.stays ∙ stopped);
    }
