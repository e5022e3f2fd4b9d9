use Rattle.std.proofs.Common.{◌≡◌, ◌<◌, Global, Ok, Option, Vec, arith, get_or, length, set, sym, ap, subst, ◌∙◌}
use Rattle.std.proofs.lemmas.List.{get_or_read, length-set}
use Rattle.office_books.specs.Ledgers.{Consults}
use Rattle.office_books.specs.declared.spans.Span.TheVariants as span
use Rattle.office_books.proofs.Lookups.{none_from_is_some}
use Rattle.office_books.proofs.Moving.{consults_then, passes_well}
use Rattle.carried_books.specs.Joining.Earlier.{HasNext, KeptDoesNotJoin}
use Rattle.carried_books.specs.Joining.Files.{AllJoin, DoesNotJoin}
use Rattle.carried_books.specs.declared.joining.earlier.KeptRegister.{KeptRegister}
use Rattle.carried_books.specs.declared.joining.files.Unjoined.{Unjoined}
use Rattle.carried_books.proofs.JoiningLemmas.Collected.{contains_next, rest_after, zip_after}
use Rattle.carried_books.proofs.JoiningLemmas.Earlier.{parts_as}
use Rattle.carried_books.proofs.joining.earlier.add_all.Goals.{then-place-len+in-Ok+else-is_some, else-place-len}
use Rattle.carried_books.proofs.joining.earlier.add_all.Goals as goal

pub loop-place-preserved : goal.loop-place-preserved
loop-place-preserved g c = elim c.if-place-len.branch [
  | then-place-len+in-Ok+else-is_some w ↦
      let ledger = g.B.Books.ledger in
      let a = ledger c.args.books.now in
      let b = ledger c.loop-place.books in
      let d = ledger w.add_next_file.new.books in
      let i = c.loop-place.place in
      let old = c.args.kept.now.items in
      let now = c.loop-place.kept.items in
      let one = w.add_next_file.new.kept in
      let before = w.index_mut.result.now in
      let so_far = c.loop-place.invariant in
      let reads = w.in-Ok.ensures.reads in
      let joined = none_from_is_some w.in-Ok.why (sym w.is_some.ensures ∙ w.if-is_some.false) in
      let inside : i < length now = omega (arith, w.if-place-len.true, c.len.ensures) in
      let is : c.if-place-len.kept.items ≡ set now i one = ap (λ (v : Vec KeptRegister Global). v.items) w.kept-is in
      let long : length c.if-place-len.kept.items ≡ length old = ap length is ∙ length-set now i one ∙ so_far.long in
      let at : before ≡ get_or now i one = get_or_read now i before inside w.index_mut.ensures.value one in
      record {
        long = long;
        rest = rest_after old now c.if-place-len.kept.items i one inside so_far.long so_far.rest is;
        joins = λ known holds clean.
            let after = subst (λ (books : g.row.B.Denot). (ledger books).is_clean) w.books-is clean in
            let mid = so_far.reads.keeps.facts known holds in
            let step : HasNext known before one = record {
              name = w.in-Ok.ensures.name;
              files = subst (λ (why : Option Unjoined). AllJoin span.All before.name known before.files one.files why) joined
                  (w.in-Ok.ensures.joins known mid after);
            } in
            zip_after old now c.if-place-len.kept.items i one inside so_far.long so_far.rest is (HasNext known)
            (so_far.joins known holds (reads.goes.clean after))
            (subst (λ (it : KeptRegister). HasNext known it one) at step);
        reads = subst (λ (books : g.row.B.Denot). Consults {T = Unit {0}} a (ledger books) (Ok tt)) (sym w.books-is)
            (consults_then a b d tt (Ok tt) so_far.reads (record { goes = passes_well b d w.in-Ok.why tt reads.goes; keeps = reads.keeps }));
      }
  | else-place-len w ↦ absurd (omega (arith, w.if-place-len.false, c.loop-place-test.true, c.loop-place.invariant.long, c.len.ensures, c.len-place-end.ensures))
]

pub returns-then-is_some-clause-unjoined : goal.returns-then-is_some-clause-unjoined
returns-then-is_some-clause-unjoined g c known holds clean =
    let i = c.loop-place.place in
    let old = c.args.kept.now.items in
    let now = c.loop-place.kept.items in
    let before = c.index_mut.result.now in
    let so_far = c.loop-place.invariant in
    let inside : i < length now = omega (arith, c.if-place-len.true, c.len.ensures) in
    let among = contains_next old now i before inside so_far.long so_far.rest c.index_mut.ensures.value in
    parts_as (DoesNotJoin span.All before.name known before.files) (KeptDoesNotJoin known old)
    (λ why parts. record { one = before; among = among; parts = parts }) c.in-Ok.why
    (c.in-Ok.ensures.unjoined known (so_far.reads.keeps.facts known holds) clean)
