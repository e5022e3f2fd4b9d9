-- Defines which register maps a simulated device may have after a connection.
use Rattle.std.specs.Prelude.{◌≡◌, ℕ, List}
use Rattle.mb_device.specs.Maps.{Maps}
use Rattle.mb_device.specs.Server.{maps_after_all}

-- True if the register map `new` results from the register map `old` when the device executes some
-- list of frames.
abbrev pub Exchanged : (old new : Maps) → Type 0
Exchanged old new = (frames : List (List ℕ)) × (new ≡ maps_after_all old frames)
