use Rattle.std.proofs.Common.{◌≡◌, ◌+◌, ◌++◌, ◌∷◌, [], List, subst, sym, take}
use Rattle.std.specs.List.{AllZip}
use Rattle.std.proofs.lemmas.List.{take_all}
use Rattle.std.proofs.lemmas.List.Elements.{all_zip_more}
use Rattle.carried_books.specs.Joining.Earlier.{IsCopy}
use Rattle.carried_books.specs.declared.joining.earlier.KeptRegister.{KeptRegister}
use Rattle.carried_books.proofs.joining.earlier.copies_of.Goals as goal

pub loop-one-preserved : goal.loop-one-preserved
loop-one-preserved c =
    let kept = c.args.kept.now in
    let i = c.loop-one.one-index in
    subst (λ (copies : List KeptRegister). AllZip IsCopy (take (i + 1) kept) copies) (sym c.in_ok-push.ensures.items)
    (all_zip_more IsCopy kept c.loop-one.copies.items i c.one-item.result c.in_ok-copy_of.field-0 c.loop-one-test.true c.one-item.is c.loop-one.invariant c.in_ok-copy_of.ensures)

pub returns : goal.returns
returns c =
    subst (λ (all : List KeptRegister). AllZip IsCopy all c.loop-one.copies.items) (take_all c.loop-one.one-index c.args.kept.now c.loop-one-test.false) c.loop-one.invariant
