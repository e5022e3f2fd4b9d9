use Rattle.std.proofs.Common.{◌++◌, ap, ◌∙◌}
use Rattle.std.specs.Prelude.{flat_map}
use Rattle.interval_core.specs.Lines.{share_line}
use Rattle.run_http.proofs.ReplyLemmas.Pieces.{rest_on}
use Rattle.run_http.proofs.pieces.write_last_rows.Goals as goal

pub returns : goal.returns
returns c =
    rest_on c.args.left.now c.args.text.now.items c.write_share_lines.new.text.items c.append_end.new.text.items c.in-Some.count c.append_end.result
    (c.in_ok-write_share_lines.ensures ∙ ap (λ rows. c.args.text.now.items ++ flat_map share_line rows) c.deref.ensures.value) c.in-Some.ensures
    c.append_end.ensures
