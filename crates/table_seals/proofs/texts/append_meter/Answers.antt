use Rattle.std.proofs.Common.{rules, ◌≡◌, List, ℕ, ◌++◌, sym, ap, ◌∙◌}
use Rattle.std.specs.List.{flat_map}
use Rattle.std.proofs.lemmas.List.Folds.{flat_map-map}
use Rattle.table_seals.specs.Sealed.{sealed_month_of, sealed_of}
use Rattle.table_seals.specs.Texts.{meter_line, month_line, month_line_of, void_line}
use Rattle.table_seals.proofs.Opened.{last_three}
use Rattle.table_seals.proofs.texts.append_meter.Goals as goal

pub returns : goal.returns
returns c =
    let s = sealed_of c.args.seal.now in
    let same : flat_map (month_line_of s.meter) c.args.seal.now.months.items ≡ flat_map (month_line s.meter) s.months =
    sym (flat_map-map (month_line s.meter) sealed_month_of c.args.seal.now.months.items) in
    let made : c.write_months.new.text.items
    ≡ ((c.args.text.now.items ++ meter_line s) ++ flat_map (void_line s.meter) s.voids) ++ flat_map (month_line_of s.meter) c.args.seal.now.months.items =
    search rules in
    made ∙ last_three c.args.text.now.items (meter_line s) (flat_map (void_line s.meter) s.voids) (flat_map (month_line_of s.meter) c.args.seal.now.months.items)
    ∙ ap (λ (t : List ℕ). c.args.text.now.items ++ ((meter_line s ++ flat_map (void_line s.meter) s.voids) ++ t)) same
