use Rattle.std.proofs.Common.{ℕ, ◌+◌, max, min, ap, ◌∙◌}
use Rattle.memory_books.specs.declared.figures.Figures.{Figures}
use Rattle.memory_books.proofs.Counting.{figures_after}
use Rattle.memory_books.proofs.figures.Figures.after.Goals as goal

pub returns : goal.returns
returns c = λ known are few.
    let old : Figures = c.args.self.now in
    figures_after old _ c.args.fact.now known are few
    (c.saturating_add.ensures ∙ ap (λ (n : ℕ). min (old.installations + n) 18446744073709551615) c.openings.ensures)
    (c.max.ensures ∙ ap (λ (n : ℕ). max n old.latest) c.moment.ensures)
