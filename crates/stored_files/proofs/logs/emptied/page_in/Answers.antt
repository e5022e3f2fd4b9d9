use Rattle.std.proofs.Common.{◌≡◌, ◌+◌, ◌-◌, ◌*◌, take, drop, sym, ◌∙◌, ap, arith}
use Rattle.sqlite_wal.proofs.FormatLemmas.{part_is}
use Rattle.stored_files.proofs.logs.emptied.page_in.Goals as goal

pub returns : goal.returns
returns c =
    let at = (c.args.number - 1) * c.args.page_size in
    let count : at + c.args.page_size - at ≡ c.args.page_size = omega arith in
    ap (λ n. take n (drop at c.args.db.now)) count ∙ sym (part_is c.args.db.now _ _)
