use Rattle.std.proofs.Common.{refl}
use Rattle.meter_journal.proofs.AuditLemmas.Going.{left_is_sound, drops_done}
use Rattle.meter_journal.specs.Audit.Going.{settled_in}
use Rattle.meter_journal.proofs.audit.progress.drop_done.Goals as goal

pub returns-clause-sound : goal.returns-clause-sound
returns-clause-sound c = λ meter sound.
    left_is_sound (settled_in c.args.progress.now.wanted.items) meter c.args.progress.now
    (record { check = c.args.progress.now.check; wanted = c.leave_last.new.wanted }) refl c.leave_last.ensures sound

pub returns-clause-goes_on : goal.returns-clause-goes_on
returns-clause-goes_on c =
    drops_done c.args.progress.now (record { check = c.args.progress.now.check; wanted = c.leave_last.new.wanted }) refl
    c.leave_last.ensures
