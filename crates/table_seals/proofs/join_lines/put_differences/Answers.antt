use Rattle.std.proofs.Common.{◌++◌, ap, ◌∙◌, codes, append-nil, append_assoc}
use Rattle.std.proofs.lemmas.Result.{on_ok_weaker}
use Rattle.table_audit.specs.Values.{number_of}
use Rattle.table_seals.proofs.join_lines.put_differences.Goals as goal

pub returns : goal.returns
returns c =
    let number = number_of c.args.all (codes "difference") (codes "differences") in
    on_ok_weaker c.append_bytes.result
    (λ is. is
    ∙ ap (λ t. t ++ codes " between files\n") (c.in_ok-write_count.ensures ∙ ap (λ t. t ++ number) (append-nil c.args.text.now.items))
    ∙ append_assoc c.args.text.now.items number (codes " between files\n"))
    c.append_bytes.ensures
