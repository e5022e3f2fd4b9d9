use Rattle.std.proofs.Common.{◌≡◌, Ok, true, sym, ◌∙◌}
use Rattle.office_events.specs.declared.facts.Register.{Register}
use Rattle.office_books.proofs.Lookups.{none_from_is_some}
use Rattle.office_books.proofs.Moving.{consults_then, passes_well}
use Rattle.carried_books.specs.Joining.Earlier.{NewDoesNotJoin}
use Rattle.carried_books.specs.Joining.Files.{is_recorded}
use Rattle.carried_books.proofs.JoiningLemmas.Collected.{here_read, new_before, one_register_more}
use Rattle.carried_books.proofs.JoiningLemmas.Earlier.{parts_as}
use Rattle.carried_books.proofs.joining.earlier.add_registers.Goals as goal

pub loop-register-preserved : goal.loop-register-preserved
loop-register-preserved g c =
    let a = g.B.Books.ledger c.args.books.now in
    let b = g.B.Books.ledger c.loop-register.books in
    let d = g.B.Books.ledger c.add_new.new.books in
    let so_far = c.loop-register.invariant in
    let reads = c.in-Ok.ensures.reads in
    let joined = none_from_is_some c.in-Ok.why (sym c.is_some.ensures ∙ c.if-is_some.false) in
    record {
      adds = λ known holds clean recorded.
          let here = here_read (λ (it : Register). is_recorded it.name known ≡ true) c.args.registers.now c.loop-register.register-index
          c.register-item.result c.loop-register-test.true c.register-item.is recorded in
          let mid = so_far.reads.keeps.facts known holds in
          one_register_more c.args.zone known c.args.registers.now c.loop-register.register-index c.register-item.result c.args.kept.now.items c.loop-register.kept.items
          c.add_new.new.kept.items c.loop-register-test.true c.register-item.is (so_far.adds known holds (reads.goes.clean clean) recorded)
          (c.in-Ok.ensures.adds known mid clean here joined) (c.in-Ok.ensures.kept joined);
      reads = consults_then a b d tt (Ok tt) so_far.reads (record { goes = passes_well b d c.in-Ok.why tt reads.goes; keeps = reads.keeps });
    }

pub returns-then-is_some-clause-unjoined : goal.returns-then-is_some-clause-unjoined
returns-then-is_some-clause-unjoined g c known holds clean recorded =
    let zone = c.args.zone in
    let old = c.args.kept.now.items in
    let mid = c.loop-register.kept.items in
    let so_far = c.loop-register.invariant in
    let adds = so_far.adds known holds (c.in-Ok.ensures.reads.goes.clean clean) recorded in
    let here = here_read (λ (it : Register). is_recorded it.name known ≡ true) c.args.registers.now c.loop-register.register-index
    c.register-item.result c.loop-register-test.true c.register-item.is recorded in
    parts_as (NewDoesNotJoin zone known mid) (NewDoesNotJoin zone known old) (λ why it. new_before zone known old mid why adds.more it) c.in-Ok.why
    (c.in-Ok.ensures.unjoined known (so_far.reads.keeps.facts known holds) clean here)
