use Rattle.std.proofs.Common.{List, ℕ, take, ◌∙◌, ap}
use Rattle.std.proofs.lemmas.List.{take_min}
use Rattle.std.specs.List.{flat_map}
use Rattle.sun_points.specs.Text.{shown_byte, text_bytes}
use Rattle.sun_points.proofs.text.shown.Goals as goal

pub returns : goal.returns
returns c =
    c.shown_registers.ensures
    ∙ ap (λ (count : ℕ). flat_map shown_byte (text_bytes (take count c.args.words.now))) c.min.ensures
    ∙ ap (λ (first : List ℕ). flat_map shown_byte (text_bytes first)) (take_min 125 c.args.words.now)
