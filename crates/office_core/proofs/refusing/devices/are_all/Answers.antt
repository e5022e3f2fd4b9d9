use Rattle.std.proofs.Common.{ap, nat_le}
use Rattle.office_core.proofs.SessionsLemmas.Keeping.{same_length}
use Rattle.office_core.proofs.refusing.devices.are_all.Goals as goal

pub returns : goal.returns
returns c kept keeps = ap (nat_le 64) (same_length c.args.slots.now kept keeps)
