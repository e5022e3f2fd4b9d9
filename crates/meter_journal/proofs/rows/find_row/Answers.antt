use Rattle.std.proofs.Common.{◌-◌, inl, inr, arith}
use Rattle.meter_journal.proofs.Forward.{found_in, none_there}
use Rattle.meter_journal.proofs.rows.find_row.Goals as goal
use Rattle.meter_journal.proofs.rows.find_row.Goals.{then-place-lt2-via-then-place-lt2, then-place-lt2-via-else-place-lt2+then-place-rows}

pub returns-then-place-lt2-clause-missing : goal.returns-then-place-lt2-clause-missing
returns-then-place-lt2-clause-missing c =
    elim c.then-place-lt2.branch [
      | then-place-lt2-via-then-place-lt2 w ↦ none_there c.args.place c.args.rows.now c.requires (inl (omega arith))
      | then-place-lt2-via-else-place-lt2+then-place-rows w ↦ none_there c.args.place c.args.rows.now c.requires (inr (omega arith))
    ]

pub returns-clause-found : goal.returns-clause-found
returns-clause-found c =
    found_in c.args.rows.now c.args.place (c.args.place - 2) _ c.next_standing.result c.requires (omega arith) (omega arith) c.next_standing.ensures
