-- Defines how many HTTP clients the server accepts at the same time, given the limit on open file
-- descriptors.
use Rattle.std.specs.Prelude.{ℕ, ◌+◌, ◌-◌, ◌^◌, min}

-- The number of file descriptors that connections need: one for each device, one for each of 64
-- client slots, and four spare ones.
abbrev pub wanted_descriptors : (devices : ℕ) → ℕ
wanted_descriptors devices = min (devices + 68) (2 ^ 64 - 1)

-- The limit on file descriptors that the program needs. The limit covers the descriptors of
-- connections, and twelve descriptors that are open from the start.
abbrev pub needed_limit : (devices : ℕ) → ℕ
needed_limit devices = min (devices + 80) (2 ^ 64 - 1)

-- The number of clients that the server accepts at the same time. Each client needs one descriptor.
-- The descriptors of the devices and four spare descriptors are subtracted first. The greatest
-- number of clients is 64.
abbrev pub clients_for : (descriptors devices : ℕ) → ℕ
clients_for descriptors devices = min (descriptors - devices - 4) 64
