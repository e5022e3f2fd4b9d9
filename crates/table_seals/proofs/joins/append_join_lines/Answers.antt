use Rattle.std.proofs.Common.{rules, ◌≡◌, take, ap, ◌∙◌}
use Rattle.std.proofs.lemmas.List.{take_min}
use Rattle.table_seals.specs.Joins.{known_of}
use Rattle.table_seals.specs.JoinTexts.{texts_of}
use Rattle.table_seals.proofs.Joined.{joins_reported}
use Rattle.table_seals.proofs.joins.append_join_lines.Goals as goal

pub returns : goal.returns
returns c =
    let meters : c.as_slice-meters.result.now ≡ c.args.known.now.meters.items = search rules in
    let news : c.deref.result.now ≡ c.args.next.now.meters.items = search rules in
    joins_reported (known_of c.args.known.now) (known_of c.args.next.now) c.as_slice-meters.result.now c.deref.result.now
    (take c.min-latest.result c.as_slice-meters.result.now) (texts_of c.args.lines.now.items) (texts_of c.append_zone.new.lines.items)
    (texts_of c.append_meters.new.lines.items) (texts_of c.append_each_missing.new.lines.items) meters news
    (ap (λ n. take n c.as_slice-meters.result.now) c.min-latest.ensures ∙ take_min c.args.known.now.latest c.as_slice-meters.result.now
    ∙ ap (take c.args.known.now.latest) meters)
    c.in_ok-append_zone.ensures c.in_ok-append_meters.ensures c.in_ok-append_each_missing.ensures
