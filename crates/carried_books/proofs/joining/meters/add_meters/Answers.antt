use Rattle.std.proofs.Common.{List, [], ◌∷◌, ◌++◌, take, refl, sym, ap, subst, ◌∙◌}
use Rattle.std.specs.Prelude.{Contains}
use Rattle.std.proofs.lemmas.List.{take_more}
use Rattle.std.proofs.lemmas.List.Elements.{All-contains_itself}
use Rattle.office_events.specs.declared.questions.Installation.{Installation}
use Rattle.office_books.proofs.Handing.{takes_more}
use Rattle.carried_books.specs.Joining.Meters.{AddMeters, AddsMeter}
use Rattle.carried_books.proofs.JoiningLemmas.Meters.{apart_among, joined_one}
use Rattle.carried_books.proofs.joining.meters.add_meters.Goals as goal

pub returns-then-is_some : goal.returns-then-is_some
returns-then-is_some c =
    let listed = c.args.listed.now in
    let i = c.loop-row.row-index in
    let row = c.row-item.result in
    apart_among c.args.known.now.items listed c.loop-row.known.items c.add_meter.new.known.items c.add_meter.new.known.items row (take i listed) c.in-Ok.apart
    (sym c.is_some.ensures ∙ c.if-is_some.true) i refl c.loop-row.invariant
    (subst (Contains listed) (sym c.row-item.is) (All-contains_itself listed i row c.loop-row-test.true)) c.in-Ok.ensures

pub loop-row-preserved : goal.loop-row-preserved
loop-row-preserved c =
    let listed = c.args.listed.now in
    let i = c.loop-row.row-index in
    let row = c.row-item.result in
    let before = take i listed in
    let same = take_more listed i row c.loop-row-test.true in
    let one = joined_one c.loop-row.known.items row c.add_meter.new.known.items c.in-Ok.apart (sym c.is_some.ensures ∙ c.if-is_some.false) c.in-Ok.ensures in
    let more = takes_more AddsMeter c.args.known.now.items c.loop-row.known.items c.add_meter.new.known.items before row c.loop-row.invariant one in
    subst (λ (rows : List Installation). AddMeters c.args.known.now.items rows c.add_meter.new.known.items)
    (sym (same ∙ ap (λ (r : Installation). before ++ r ∷ []) (sym c.row-item.is))) more
