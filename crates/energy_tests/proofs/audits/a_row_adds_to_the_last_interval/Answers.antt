use Rattle.energy_tests.proofs.audits.a_row_adds_to_the_last_interval.Goals as goal

pub take_row-requires-2-clause-sound : goal.take_row-requires-2-clause-sound
take_row-requires-2-clause-sound g c = c.drop_done.ensures.sound _ c.in_ok-_first.ensures.sound
