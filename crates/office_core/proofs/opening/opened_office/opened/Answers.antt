use Rattle.std.proofs.Common.{◌≡◌, true, None, ap}
use Rattle.std.proofs.Math.Bool.{Bool-set}
use Rattle.office_core.specs.declared.sessions.slots.Slot.{Slot}
use Rattle.office_core.specs.Opening.OpenedOffice.{opened}
use Rattle.office_core.proofs.opening.opened_office.opened.Goals as goal

pub returns : goal.returns
unfolding opened
returns c =
    let made : true ≡ true → Slot = λ idle. record { device = c.args.device.now; session = None; idle = idle } in
    ap made (Bool-set true true _ _)
