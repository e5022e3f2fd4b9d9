-- The greatest number of turns (reads) of a connection to a simulated device.
use Rattle.std.proofs.Common.{◌≡◌, refl}
use Rattle.mb_device.specs.declared.stand_in.connections.TheConstants.{MOST_TURNS}

most_turns : MOST_TURNS ≡ 100000
most_turns = refl
