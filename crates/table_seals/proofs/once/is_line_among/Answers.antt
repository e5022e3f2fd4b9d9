use Rattle.std.proofs.Common.{sym, ◌∙◌}
use Rattle.std.specs.Prelude.{bytes_eq}
use Rattle.table_seals.specs.Sealed.{line_bytes}
use Rattle.table_seals.proofs.Repeats.{list_any-map}
use Rattle.table_seals.proofs.once.is_line_among.Goals as goal

pub returns : goal.returns
returns c =
    c.has_line.ensures ∙ sym (list_any-map line_bytes (λ other. bytes_eq other c.args.line.now) c.args.lines.now)
