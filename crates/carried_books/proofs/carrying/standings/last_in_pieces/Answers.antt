use Rattle.std.proofs.Common.{◌≡◌, ◌+◌, ◌*◌, take, Ok, subst, ◌∙◌, arith}
use Rattle.office_books.specs.Entries.{all_entries}
use Rattle.office_books.proofs.Moving.{consults_then, passes, passes_well}
use Rattle.carried_books.specs.Carrying.Standings.{last_among}
use Rattle.carried_books.proofs.CarryingLemmas.Lasts.{piece_last, piece_more}
use Rattle.carried_books.proofs.carrying.standings.last_in_pieces.Goals as goal

pub returns-then-len-lt65536-clause-found : goal.returns-then-len-lt65536-clause-found
returns-then-len-lt65536-clause-found g c known holds clean =
    let before = c.loop-turn.invariant.reads.keeps.facts known holds in
    let was_clean = c.in_ok-piece.ensures.reads.goes.clean clean in
    piece_last c.args.until known c.args.meter.now (c.loop-turn.turn * 65536) c.deref.result.now c.loop-turn.last c.last_after-last.result
    (c.deref.ensures.value ∙ c.in_ok-piece.ensures.found known before clean) (c.loop-turn.invariant.found known holds was_clean)
    c.last_after-last.ensures (omega (arith, c.len.ensures, c.if-len-lt65536.true))

pub loop-turn-preserved : goal.loop-turn-preserved
loop-turn-preserved g c =
    let ledger = g.B.Books.ledger in
    let a = ledger c.args.books.now in
    let b = ledger c.loop-turn.books in
    let d = ledger c.entries.new.self in
    let reads = c.in_ok-piece.ensures.reads in
    let next : c.loop-turn.turn * 65536 + 65536 ≡ (c.loop-turn.turn + 1) * 65536 = omega arith in
    record {
      found = λ known holds clean.
          let before = c.loop-turn.invariant.reads.keeps.facts known holds in
          subst (λ n. c.last_after-last.result ≡ last_among c.args.until (take n (all_entries known c.args.meter.now))) next
          (piece_more c.args.until known c.args.meter.now (c.loop-turn.turn * 65536) c.deref.result.now c.loop-turn.last c.last_after-last.result
          (c.deref.ensures.value ∙ c.in_ok-piece.ensures.found known before clean) (c.loop-turn.invariant.found known holds (reads.goes.clean clean))
          c.last_after-last.ensures);
      reads =
          consults_then a b d tt (Ok tt) c.loop-turn.invariant.reads
          (record { goes = passes_well b d c.in_ok-piece.piece tt (passes b d (Ok c.in_ok-piece.piece) reads.goes); keeps = reads.keeps });
    }
