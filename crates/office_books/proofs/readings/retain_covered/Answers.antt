use Rattle.std.proofs.Common.{rules}
use Rattle.std.proofs.lemmas.Fn.{filter_same}
use Rattle.office_books.specs.Readings.{is_read_by}
use Rattle.office_books.proofs.readings.retain_covered.Goals as goal

pub returns : goal.returns
returns c = filter_same _ (is_read_by c.args.span) _ (λ x b f r. (search rules, search rules)) _ _ c.retain.ensures.filtered
