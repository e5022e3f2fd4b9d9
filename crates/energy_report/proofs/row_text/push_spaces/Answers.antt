use Rattle.std.proofs.Common.{◌∙◌, ◌++◌, List, ℕ, ap}
use Rattle.std.proofs.lemmas.List.{take-replicate}
use Rattle.energy_report.proofs.row_text.push_spaces.Goals as goal

pub returns-clause-bytes : goal.returns-clause-bytes
returns-clause-bytes c =
    c.push.ensures.bytes ∙ ap (λ (spaces : List ℕ). c.args.line.now ++ spaces) (take-replicate c.args.count 24 32 c.requires.few)
