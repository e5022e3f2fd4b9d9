use Rattle.std.proofs.Common.{take}
use Rattle.run_schedule.specs.Periods.Folders.{texts_in}
use Rattle.run_schedule.specs.Periods.Led.{IsLed}
use Rattle.run_schedule.proofs.periods.folders.active_period.Given as goal

abbrev pub invariant-loop-name : goal.invariant-loop-name
invariant-loop-name l = IsLed l.file l.length (texts_in (take l.name-index l.names)) l.led.text
