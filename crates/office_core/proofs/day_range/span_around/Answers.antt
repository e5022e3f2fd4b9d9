use Rattle.std.proofs.Common.{◌≡◌, true, sym, subst}
use Rattle.office_books.specs.Spans.{is_within}
use Rattle.office_core.proofs.Around.{has_each}
use Rattle.office_core.proofs.day_range.span_around.Goals as goal

pub returns-clause-around : goal.returns-clause-around
returns-clause-around c = λ zone start is.
    subst (λ span. is_within span start ≡ true) (sym c.span_between.ensures) (has_each c.args.range.from c.args.range.till zone start is)
