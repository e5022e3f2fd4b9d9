use Rattle.std.proofs.Common.{◌≤◌, None, Ok, Option, arith, length, sym, subst, ◌∙◌}
use Rattle.std.specs.Prelude.{All, Contains}
use Rattle.std.proofs.lemmas.List.{take_all}
use Rattle.std.proofs.lemmas.List.Elements.{All-contains_itself, All-more}
use Rattle.office_books.proofs.Lookups.{none_from_is_some}
use Rattle.office_books.proofs.Moving.{consults_then, passes_well}
use Rattle.carried_books.specs.Joining.Earlier.{HoldsFile}
use Rattle.carried_books.specs.declared.joining.earlier.KeptRegister.{KeptRegister}
use Rattle.carried_books.specs.declared.joining.files.Unjoined.{Unjoined}
use Rattle.carried_books.proofs.JoiningLemmas.Earlier.{held_apart}
use Rattle.carried_books.proofs.joining.earlier.compare_all.Goals as goal

pub returns-then-is_some-clause-holds : goal.returns-then-is_some-clause-holds
returns-then-is_some-clause-holds g c known holds clean =
    let kept = c.args.kept.now in
    let i = c.loop-one.one-index in
    let one = c.one-item.result in
    held_apart kept known one c.in-Ok.why (sym c.is_some.ensures ∙ c.if-is_some.true)
    (subst (Contains kept) (sym c.one-item.is) (All-contains_itself kept i one c.loop-one-test.true))
    (c.in-Ok.ensures.holds known (c.loop-one.invariant.reads.keeps.facts known holds) clean)

pub loop-one-preserved : goal.loop-one-preserved
loop-one-preserved g c =
    let a = g.B.Books.ledger c.args.books.now in
    let b = g.B.Books.ledger c.loop-one.books in
    let d = g.B.Books.ledger c.compare_file.new.books in
    let one = c.one-item.result in
    let so_far = c.loop-one.invariant in
    let reads = c.in-Ok.ensures.reads in
    let joined = none_from_is_some c.in-Ok.why (sym c.is_some.ensures ∙ c.if-is_some.false) in
    record {
      holds = λ known stands clean.
          let Holds : KeptRegister → Type 0 = λ it. HoldsFile it known None in
          let mid = so_far.reads.keeps.facts known stands in
          let here : Holds one = subst (λ (why : Option Unjoined). HoldsFile one known why) joined (c.in-Ok.ensures.holds known mid clean) in
          All-more Holds c.args.kept.now c.loop-one.one-index one c.loop-one-test.true (so_far.holds known stands (reads.goes.clean clean))
          (subst Holds c.one-item.is here);
      reads = consults_then a b d tt (Ok tt) so_far.reads (record { goes = passes_well b d c.in-Ok.why tt reads.goes; keeps = reads.keeps });
    }

pub returns-clause-holds : goal.returns-clause-holds
returns-clause-holds g c known holds clean =
    let kept = c.args.kept.now in
    let i = c.loop-one.one-index in
    let all : length kept ≤ i = omega (arith, c.loop-one-test.false) in
    subst (All (λ (one : KeptRegister). HoldsFile one known None)) (take_all i kept all) (c.loop-one.invariant.holds known holds clean)
