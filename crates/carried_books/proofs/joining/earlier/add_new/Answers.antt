use Rattle.std.proofs.Common.{◌≡◌, ◌∙◌, Option, false, refl, sym, ap, subst}
use Rattle.std.proofs.lemmas.Slice.Eq.{bytes_eq-Decides}
use Rattle.office_books.specs.declared.spans.Span.TheVariants as span
use Rattle.office_books.proofs.Lookups.{none_from_is_some}
use Rattle.carried_books.specs.Joining.Earlier.{NewDoesNotJoin, is_kept}
use Rattle.carried_books.specs.Joining.Files.{AllJoin, DoesNotJoin}
use Rattle.carried_books.specs.declared.joining.earlier.KeptRegister.{KeptRegister}
use Rattle.carried_books.specs.declared.joining.files.Unjoined.{Unjoined}
use Rattle.carried_books.proofs.JoiningLemmas.Collected.{adds_new, kept_last}
use Rattle.carried_books.proofs.JoiningLemmas.Earlier.{parts_as}
use Rattle.carried_books.proofs.joining.earlier.add_new.Goals as goal

pub returns-in_ok-push_register-in-Ok-clause-kept : goal.returns-in_ok-push_register-in-Ok-clause-kept
returns-in_ok-push_register-in-Ok-clause-kept g c = λ none.
    ap (is_kept c.args.name) c.in_ok-push_register-in-Ok.ensures.kept
    ∙ kept_last c.args.name c.args.kept.now.items _ ((bytes_eq-Decides c.args.name c.args.name).1 refl)

pub returns-in_ok-push_register-in-Ok-clause-adds : goal.returns-in_ok-push_register-in-Ok-clause-adds
returns-in_ok-push_register-in-Ok-clause-adds g c known holds clean recorded none =
    let one : KeptRegister = record { name = c.args.name; files = c.add_next_file.new.kept.files } in
    let empty = c.no_files.result in
    let isnt : is_kept c.args.name c.args.kept.now.items ≡ false = cc in
    let joined = none_from_is_some c.in-Ok.why (sym c.is_some.ensures ∙ c.if-is_some.false) in
    adds_new c.args.zone known c.args.kept.now.items c.push_register.new.kept.items one empty c.in_ok-push_register-in-Ok.ensures.kept isnt recorded
    (c.no_files.ensures span.All c.args.name)
    (subst (λ (why : Option Unjoined). AllJoin span.All c.args.name known empty one.files why) joined (c.in-Ok.ensures.joins known holds clean))

pub returns-then-is_some-clause-unjoined : goal.returns-then-is_some-clause-unjoined
returns-then-is_some-clause-unjoined g c known holds clean recorded =
    let empty = c.no_files.result in
    let isnt : is_kept c.args.name c.args.kept.now.items ≡ false = cc in
    parts_as (DoesNotJoin span.All c.args.name known empty) (NewDoesNotJoin c.args.zone known c.args.kept.now.items)
    (λ why parts. record { name = c.args.name; recorded = recorded; new = isnt; none = empty; empty = c.no_files.ensures span.All c.args.name; parts = parts }) c.in-Ok.why
    (c.in-Ok.ensures.unjoined known holds clean)
