use Rattle.std.proofs.Common.{◌≡◌, ◌+◌, ◌*◌, ◌++◌, List, length, subst, ap, ◌∙◌, arith}
use Rattle.office_books.specs.declared.entries.MeterEntry.{MeterEntry}
use Rattle.run_http.specs.Voids.{voided_in}
use Rattle.office_core.proofs.SeveralAsked.{asked, goes_on, kept_on, unasked}
use Rattle.run_http.proofs.ReplyLemmas.Voids.{AreKept, more_kept, no_room, refused, reported}
use Rattle.run_http.proofs.voids.ask_voids.Goals as goal

pub loop-turn-init : goal.loop-turn-init
loop-turn-init g c = record {
  are = λ past stands clean opening is. c.new-kept.ensures.items;
  keeps = unasked g.B.Books.ledger c.args.office.now;
  going = λ lt. absurd (omega (arith, lt));
}

pub returns-in-Err : goal.returns-in-Err
returns-in-Err g c =
    refused g.B.Books.ledger c.args.office.now c.loop-turn.office c.entries.new.self c.args.meter.now (c.loop-turn.turn * 65536) c.in-Err.why
    c.loop-turn.invariant.keeps c.in-Err.ensures.asks c.in-Err.ensures.listed

pub returns-then-len-lt65536 : goal.returns-then-len-lt65536
returns-then-len-lt65536 g c =
    let same : length c.deref.result.now ≡ length c.in-Ok.piece.items = ap length c.deref.ensures.value in
    reported g.B.Books.ledger c.args.office.now c.loop-turn.office c.entries.new.self c.args.meter.now (c.loop-turn.turn * 65536) c.loop-turn.kept.items
    c.in-Ok.piece c.keep_voided.new.kept c.loop-turn.invariant.keeps c.loop-turn.invariant.are c.in-Ok.ensures.asks c.in-Ok.ensures.listed
    (c.in_ok-keep_voided-in-Ok.ensures ∙ ap (λ (piece : List MeterEntry). c.loop-turn.kept.items ++ voided_in piece) c.deref.ensures.value)
    (omega (arith, same, c.len.ensures, c.deref.ensures.len, c.if-len-lt65536.true))

pub loop-turn-preserved : goal.loop-turn-preserved
loop-turn-preserved g c =
    let ledger = g.B.Books.ledger in
    let a = c.args.office.now in
    let b = c.loop-turn.office in
    let d = c.entries.new.self in
    let meter = c.args.meter.now in
    let turn = c.loop-turn.turn in
    let keeps = c.loop-turn.invariant.keeps in
    let asks = c.in-Ok.ensures.asks in
    let next : turn * 65536 + 65536 ≡ (turn + 1) * 65536 = omega arith in
    record {
      are = subst (λ n. AreKept ledger a d meter n c.keep_voided.new.kept.items) next
          (more_kept ledger a b d meter (turn * 65536) c.loop-turn.kept.items c.keep_voided.new.kept.items c.in-Ok.piece keeps c.loop-turn.invariant.are asks
          c.in-Ok.ensures.listed
          (c.in_ok-keep_voided-in-Ok.ensures ∙ ap (λ (piece : List MeterEntry). c.loop-turn.kept.items ++ voided_in piece) c.deref.ensures.value));
      keeps = kept_on ledger a b d keeps (asked ledger b d c.in-Ok.piece asks);
      going = λ lt stopped. goes_on ledger b d c.in-Ok.piece asks (keeps.stays ∙ stopped);
    }

pub returns : goal.returns
returns g c =
    no_room g.B.Books.ledger c.args.office.now c.loop-turn.office c.args.meter.now _
    (c.loop-turn.invariant.going (omega (arith, c.loop-turn-test.false))) c.loop-turn.invariant.keeps
