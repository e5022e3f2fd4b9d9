use Rattle.std.proofs.Common.{Ok, sym, ◌∙◌}
use Rattle.office_books.proofs.Lookups.{none_from_is_some}
use Rattle.office_books.proofs.Moving.{consults_then, passes_well}
use Rattle.carried_books.specs.Joining.Earlier.{NewDoesNotJoin}
use Rattle.carried_books.proofs.JoiningLemmas.Collected.{new_before, one_device_more}
use Rattle.carried_books.proofs.JoiningLemmas.Earlier.{parts_as}
use Rattle.carried_books.proofs.joining.earlier.add_devices.Goals as goal

pub loop-device-preserved : goal.loop-device-preserved
loop-device-preserved g c =
    let a = g.B.Books.ledger c.args.books.now in
    let b = g.B.Books.ledger c.loop-device.books in
    let d = g.B.Books.ledger c.add_device.new.books in
    let so_far = c.loop-device.invariant in
    let reads = c.in-Ok.ensures.reads in
    let joined = none_from_is_some c.in-Ok.why (sym c.is_some.ensures ∙ c.if-is_some.false) in
    record {
      adds = λ known holds clean.
          let mid = so_far.reads.keeps.facts known holds in
          one_device_more c.args.zone known c.args.devices.now c.loop-device.device-index c.device-item.result c.args.kept.now.items c.loop-device.kept.items
          c.add_device.new.kept.items c.loop-device-test.true c.device-item.is (so_far.adds known holds (reads.goes.clean clean))
          (c.in-Ok.ensures.adds known mid clean joined);
      reads = consults_then a b d tt (Ok tt) so_far.reads (record { goes = passes_well b d c.in-Ok.why tt reads.goes; keeps = reads.keeps });
    }

pub returns-then-is_some-clause-unjoined : goal.returns-then-is_some-clause-unjoined
returns-then-is_some-clause-unjoined g c known holds clean =
    let zone = c.args.zone in
    let old = c.args.kept.now.items in
    let mid = c.loop-device.kept.items in
    let so_far = c.loop-device.invariant in
    let adds = so_far.adds known holds (c.in-Ok.ensures.reads.goes.clean clean) in
    parts_as (NewDoesNotJoin zone known mid) (NewDoesNotJoin zone known old) (λ why it. new_before zone known old mid why adds.more it) c.in-Ok.why
    (c.in-Ok.ensures.unjoined known (so_far.reads.keeps.facts known holds) clean)
