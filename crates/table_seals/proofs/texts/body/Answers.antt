use Rattle.std.proofs.Common.{rules, ◌≡◌, List, ℕ, ◌++◌, map, sym, ap, ◌∙◌}
use Rattle.std.specs.Prelude.{codes}
use Rattle.std.specs.List.{flat_map}
use Rattle.std.proofs.lemmas.List.Folds.{flat_map-map}
use Rattle.table_seals.specs.Sealed.{line_bytes, sealed_of, sealed_polls_of}
use Rattle.table_seals.specs.Texts.{text_of, meter_text, polls_part, setup_line, setup_line_of, setup_text}
use Rattle.table_seals.proofs.texts.body.Goals as goal

pub returns : goal.returns
returns c =
    let lines : flat_map setup_line_of c.args.seal.now.setup.items ≡ setup_text (map line_bytes c.args.seal.now.setup.items) =
    sym (flat_map-map setup_line line_bytes c.args.seal.now.setup.items) in
    let same : flat_map text_of c.args.seal.now.meters.items ≡ flat_map meter_text (map sealed_of c.args.seal.now.meters.items) =
    sym (flat_map-map meter_text sealed_of c.args.seal.now.meters.items) in
    let made : c.write_polls_part.new.text.items
    ≡ ((codes "seal 3\n" ++ flat_map setup_line_of c.args.seal.now.setup.items) ++ flat_map text_of c.args.seal.now.meters.items)
    ++ polls_part (sealed_polls_of c.args.seal.now.polls) =
    search rules in
    made
    ∙ ap (λ (t : List ℕ). ((codes "seal 3\n" ++ t) ++ flat_map text_of c.args.seal.now.meters.items) ++ polls_part (sealed_polls_of c.args.seal.now.polls)) lines
    ∙ ap (λ (t : List ℕ). ((codes "seal 3\n" ++ setup_text (map line_bytes c.args.seal.now.setup.items)) ++ t) ++ polls_part (sealed_polls_of c.args.seal.now.polls)) same
