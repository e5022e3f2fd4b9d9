use Rattle.std.proofs.Common.{◌≡◌, drop}
use Rattle.stored_files.specs.Recoveries.{with_open_meters}
use Rattle.stored_files.proofs.recoveries.write_open_meters.Given as goal

abbrev pub invariant-loop-meter : goal.invariant-loop-meter
invariant-loop-meter l =
    with_open_meters l.text.items (drop l.meter-index l.meters) ≡ with_open_meters l.fn.text.items l.meters
