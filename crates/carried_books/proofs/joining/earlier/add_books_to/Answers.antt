use Rattle.std.proofs.Common.{◌≡◌, Option, None, inr, reverse, sym, ◌∙◌}
use Rattle.std.proofs.lemmas.Result.{IfOk-weaker}
use Rattle.office_books.specs.Facts.{devices_in}
use Rattle.office_books.proofs.Lookups.{none_from_is_some}
use Rattle.carried_books.specs.Joining.Earlier.{AddsDevices, AddsFile, FileDoesNotJoin, NewDoesNotJoin}
use Rattle.carried_books.specs.Joining.Keeping.{PartsFile}
use Rattle.carried_books.specs.declared.joining.files.Unjoined.{Unjoined}
use Rattle.carried_books.proofs.JoiningLemmas.Collected.{adds_file, new_at_first}
use Rattle.carried_books.proofs.JoiningLemmas.Earlier.{parts_as}
use Rattle.carried_books.proofs.joining.earlier.add_books_to.Goals as goal

pub returns-else-is_some-clause-joins : goal.returns-else-is_some-clause-joins
returns-else-is_some-clause-joins g c known holds clean =
    let zone = c.args.zone in
    let old = c.args.kept.now.items in
    let mid = c.add_all.new.kept.items in
    let new = c.add_others.new.kept.items in
    let joined = none_from_is_some c.in-Ok.why (sym c.is_some.ensures ∙ c.if-is_some.false) in
    let all = c.in-Ok.ensures.joins known holds (c.add_others.ensures.reads.goes.clean clean) joined in
    IfOk-weaker c.add_others.result (λ (why : Option Unjoined). why ≡ None → AddsDevices zone known (reverse (devices_in known)) mid new)
    (λ (why : Option Unjoined). why ≡ None → AddsFile zone known old new)
    (λ why adds none. adds_file zone known old mid new all (adds none))
    (c.add_others.ensures.adds known (c.in-Ok.ensures.reads.keeps.facts known holds) clean)

pub returns-else-is_some-clause-unjoined : goal.returns-else-is_some-clause-unjoined
returns-else-is_some-clause-unjoined g c known holds clean =
    let zone = c.args.zone in
    let old = c.args.kept.now.items in
    let mid = c.add_all.new.kept.items in
    let joined = none_from_is_some c.in-Ok.why (sym c.is_some.ensures ∙ c.if-is_some.false) in
    let all = c.in-Ok.ensures.joins known holds (c.add_others.ensures.reads.goes.clean clean) joined in
    let New : Unjoined → Type 0 = NewDoesNotJoin zone known mid in
    let Apart : Unjoined → Type 0 = FileDoesNotJoin zone known old in
    IfOk-weaker c.add_others.result (PartsFile New) (PartsFile Apart)
    (parts_as New Apart (λ why it. inr (new_at_first zone known old mid why all it)))
    (c.add_others.ensures.unjoined known (c.in-Ok.ensures.reads.keeps.facts known holds) clean)
