-- Defines the effects of one connection to a simulated device.
use Rattle.std.specs.Prelude.{ℕ, List, []}
use Rattle.std.specs.declared.result.Result.{Result}
use Rattle.mb_device.specs.Server.{Around, Serves, Standing}
use Rattle.mb_device.specs.Tricks.{begun}
use Rattle.mb_device.specs.declared.server.ServeFault.{ServeFault}
use Rattle.mb_device.specs.declared.trick.Trick.{Trick}

-- True if the simulated device served a new connection, with these injected faults.
pub record ServesSome (tricks : List (ℕ × Trick)) (result : Result ℕ ServeFault)
    (old new : Around) : Type 0 where
  pub left : Standing
  pub serves : Serves [] (begun tricks) result old new left
