use Rattle.std.proofs.Common.{◌-◌, take, length, ap, ◌∙◌, arith}
use Rattle.std.proofs.lemmas.List.{take_min}
use Rattle.table_audit.specs.declared.differences.TheConstants.{MOST}
use Rattle.table_seals.proofs.Joined.{lines_put}
use Rattle.table_seals.proofs.join_lines.append_joins.Goals as goal

pub returns : goal.returns
returns c =
    let shown = c.min-shown.ensures in
    let one = c.in_ok-write_lines.ensures in
    let two = c.in_ok-write_more.ensures in
    let three = c.in_ok-put_all.ensures in
    lines_put c.args.lines.now (take c.min-shown.result c.args.lines.now) c.args.text.now.items c.write_lines.new.text.items c.write_more.new.text.items
    c.put_all.new.text.items (length c.args.lines.now - c.min-shown.result)
    (ap (λ n. take n c.args.lines.now) c.min-shown.ensures ∙ take_min MOST c.args.lines.now)
    (omega (arith, shown)) one two three
