use Rattle.std.proofs.Common.{rules, ◌≡◌, ℕ, ◌++◌, Ok, Some, sym, ap, ◌∙◌}
use Rattle.sqlite.specs.Order.{column}
use Rattle.table_seals.specs.PollReading.{numbers_in, word_in}
use Rattle.table_seals.specs.PollTexts.{unless_ended}
use Rattle.table_seals.proofs.PollNumbers.{poll_read}
use Rattle.table_seals.proofs.poll_texts.append_poll.Goals as goal

pub returns-clause-puts : goal.returns-clause-puts
returns-clause-puts c =
    let number : c.in-Ok.poll.number ≡ c.args.number = search rules in
    let read : numbers_in c.args.row.now ≡ Ok c.in-Ok.poll = search rules in
    let word : word_in (column c.args.row.now 7) ≡ Some c.in-Some.device.now = search rules in (
      record { numbers = c.in-Ok.poll; device = c.in-Some.device.now; ending = c.args.ending },
      poll_read c.args.number c.args.row.now c.args.ending c.in-Ok.poll c.in-Some.device.now read word number,
      c.in_ok-write_then.ensures,
      c.in_ok-keep_pending.ensures ∙ ap (λ (n : ℕ). c.args.pending.now.items ++ unless_ended n c.args.ending) (sym number),
    )
