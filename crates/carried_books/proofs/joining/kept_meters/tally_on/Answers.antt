use Rattle.std.proofs.Common.{◌≡◌, ◌+◌, ◌*◌, Ok, length, refl, ap, subst, ◌∙◌, arith}
use Rattle.office_books.proofs.Moving.{consults_then, passes, passes_well}
use Rattle.carried_books.proofs.JoiningLemmas.KeptMeters.{HasTallied, tally_all, tally_more, tally_none}
use Rattle.carried_books.proofs.joining.kept_meters.tally_on.Goals as goal

pub loop-turn-init : goal.loop-turn-init
loop-turn-init g c = record {
  found = λ known holds clean. tally_none c.args.zone.now c.args.range.now known c.args.meter.now c.args.goes_on c.args.begun;
  reads = record { goes = record { clean = λ is. is; faults = refl; zone = refl }; keeps = record { facts = λ known holds. holds; left = λ left may. may } };
}

pub returns-then-len-lt65536-clause-found : goal.returns-then-len-lt65536-clause-found
returns-then-len-lt65536-clause-found g c known holds clean =
    let zone = c.args.zone.now in
    let range = c.args.range.now in
    let before = c.loop-turn.invariant.reads.keeps.facts known holds in
    let was_clean = c.in_ok-piece.ensures.reads.goes.clean clean in
    tally_all zone range known c.args.meter.now c.args.goes_on (c.loop-turn.turn * 65536) c.first_place-first.result c.deref.result.now c.args.begun
    c.loop-turn.tally c.take_all.new.self c.first_place-first.ensures.place
    (c.deref.ensures.value ∙ c.in_ok-piece.ensures.found known before clean) (c.loop-turn.invariant.found known holds was_clean)
    c.take_all.ensures (omega (arith, ap length c.deref.ensures.value, c.len.ensures, c.deref.ensures.len, c.if-len-lt65536.true))

pub loop-turn-preserved : goal.loop-turn-preserved
loop-turn-preserved g c =
    let ledger = g.B.Books.ledger in
    let a = ledger c.args.books.now in
    let b = ledger c.loop-turn.books in
    let d = ledger c.entries.new.self in
    let zone = c.args.zone.now in
    let range = c.args.range.now in
    let meter = c.args.meter.now in
    let turn = c.loop-turn.turn in
    let reads = c.in_ok-piece.ensures.reads in
    let next : turn * 65536 + 65536 ≡ (turn + 1) * 65536 = omega arith in
    record {
      found = λ known holds clean.
          let before = c.loop-turn.invariant.reads.keeps.facts known holds in
          subst (λ n. HasTallied zone range known meter c.args.goes_on n c.args.begun c.take_all.new.self) next
          (tally_more zone range known meter c.args.goes_on (turn * 65536) c.first_place-first.result c.deref.result.now c.args.begun c.loop-turn.tally
          c.take_all.new.self c.first_place-first.ensures.place (c.deref.ensures.value ∙ c.in_ok-piece.ensures.found known before clean)
          (c.loop-turn.invariant.found known holds (reads.goes.clean clean)) c.take_all.ensures);
      reads =
          consults_then a b d tt (Ok tt) c.loop-turn.invariant.reads
          (record { goes = passes_well b d c.in_ok-piece.piece tt (passes b d (Ok c.in_ok-piece.piece) reads.goes); keeps = reads.keeps });
    }
