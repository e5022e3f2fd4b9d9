use Rattle.file_commands.proofs.carries.carry_into_part.Goals as goal

pub returns-in-Ok-carry_stored : goal.returns-in-Ok-carry_stored
returns-in-Ok-carry_stored g c = record { new = _; carries = λ past has. c.in-Ok-carry_stored.ensures.carried past has }
