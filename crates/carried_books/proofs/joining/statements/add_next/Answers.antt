use Rattle.std.proofs.Common.{List, not, find, refl, sym, ap, ◌∙◌}
use Rattle.std.specs.Option.{option_map}
use Rattle.carried_books.specs.Joining.Meters.{is_before}
use Rattle.carried_books.specs.Joining.Statements.{stands_of}
use Rattle.carried_books.specs.declared.joining.kept_meters.KeptMeter.{KeptMeter}
use Rattle.carried_books.proofs.JoiningLemmas.KeptMeters.{reports_first}
use Rattle.carried_books.proofs.JoiningLemmas.Statements.{comes_after_reported, stand_earlier, stands_apart, stands_next}
use Rattle.carried_books.proofs.joining.statements.add_next.Goals as goal

pub returns-in-Some-clause-joins : goal.returns-in-Some-clause-joins
returns-in-Some-clause-joins g c =
    let row = c.args.row.now in
    let apart = stands_apart row c.in-Some.stands c.args.known.now.items
    (ap (λ (known : List KeptMeter). option_map stands_of (find (λ one. not (is_before one.stands row)) known)) (sym c.as_slice.ensures.value)
    ∙ sym c.not_before.ensures ∙ c.in-Some.is) in
    (refl, apart.0, apart.1)

pub returns-in_ok-push-in-None-clause-joins : goal.returns-in_ok-push-in-None-clause-joins
returns-in_ok-push-in-None-clause-joins g c =
    let row = c.args.row.now in
    stands_next row _ c.args.known.now.items c.push.new.self.items
    (stand_earlier row c.args.known.now.items
    (ap (λ (known : List KeptMeter). option_map stands_of (find (λ one. not (is_before one.stands row)) known)) (sym c.as_slice.ensures.value)
    ∙ sym c.not_before.ensures ∙ c.in-None.is))
    c.in_ok-push-in-None.ensures.items refl

pub returns-in_ok-push-in-None-clause-reports : goal.returns-in_ok-push-in-None-clause-reports
returns-in_ok-push-in-None-clause-reports g c facts holds clean =
    let zone = c.args.zone.now in
    let range = c.args.range.now in
    let row = c.args.row.now in
    comes_after_reported zone range facts row _ c.args.known.now.items c.push.new.self.items
    (stand_earlier row c.args.known.now.items
    (ap (λ (known : List KeptMeter). option_map stands_of (find (λ one. not (is_before one.stands row)) known)) (sym c.as_slice.ensures.value)
    ∙ sym c.not_before.ensures ∙ c.in-None.is))
    (reports_first zone range facts row _ c.new-none.result (c.new-none.ensures.none zone range) refl (c.in_ok-reported-in-None.ensures.found facts holds clean))
    c.in_ok-push-in-None.ensures.items
