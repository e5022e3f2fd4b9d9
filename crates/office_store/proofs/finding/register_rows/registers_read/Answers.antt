use Rattle.std.proofs.Common.{ap, ◌∙◌}
use Rattle.std.specs.List.{filter}
use Rattle.office_books.specs.Readings.{is_read_by}
use Rattle.office_store.proofs.FindingLemmas.Found.{answered}
use Rattle.office_store.proofs.finding.register_rows.registers_read.Goals as goal

pub returns : goal.returns
returns g c =
    answered g.S.Store c.args.conn.now c.registers.new.conn c.in_ok-found.found _ _ _ _ _ c.in_ok-found.ensures
    (λ facts are. c.retain_covered.ensures ∙ ap (filter (is_read_by c.args.span)) are)
