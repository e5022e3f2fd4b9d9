use Rattle.std.proofs.Common.{ℕ, List, ◌++◌, ◌/◌, ◌%◌, ◌∙◌, ap, append_assoc}
use Rattle.jiff_fmt.specs.Text.{pad2}
use Rattle.energy_report.proofs.DecimalLemmas.{decimals}
use Rattle.energy_report.proofs.row_text.push_decimals.Goals as goal

pub returns-clause-bytes : goal.returns-clause-bytes
returns-clause-bytes c =
    let n = c.args.number in
    let front = c.args.energy.now in
    let a = pad2 (n / 10_000) in
    let b = pad2 (n / 100 % 100) in
    c.push_pair-3.ensures.bytes
    ∙ ap (λ (xs : List ℕ). xs ++ pad2 (n % 100)) (c.push_pair-2.ensures.bytes ∙ ap (λ (xs : List ℕ). xs ++ b) c.push_pair.ensures.bytes)
    ∙ append_assoc (front ++ a) b (pad2 (n % 100)) ∙ append_assoc front a (b ++ pad2 (n % 100))
    ∙ ap (λ (xs : List ℕ). front ++ xs) (decimals n c.requires.few)
