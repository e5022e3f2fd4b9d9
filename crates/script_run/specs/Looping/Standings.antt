-- Defines the state of a loop (the run of a script against simulated devices), and the bytes that
-- the loop has written so far.
use Rattle.std.specs.Prelude.{◌≡◌, ◌⊎◌, ℕ, Bool, List, [], Option, Result, Ok, Err}
use Rattle.std.specs.Io.KnownBytes.{Appends}
use Rattle.mb_device.specs.Maps.{Maps}
use Rattle.office_core.specs.Standing.{Stands}
use Rattle.office_core.specs.declared.office.Office.{Office}
use Rattle.memory_books.specs.Listed.{ledger_of}
use Rattle.memory_books.specs.declared.list_books.ListBooks.{ListBooks}
use Rattle.office_books.specs.History.{History}
use Rattle.script_run.specs.Replaying.TextRun.{stage_of}
use Rattle.script_run.specs.Replaying.Stages.{Stage}
use Rattle.sun_points.specs.Writing.{GotPart}

-- The modeled state of a loop (a script with simulated devices). It has the state of the script,
-- the simulator's register map, and whether a line has connected a device.
pub record LoopStage : Type 0 where
  pub script : Stage
  pub maps : Maps
  pub connected : Bool

-- The state of a running loop (a script with simulated devices). It has the program, the
-- simulator's register map, and the bytes written so far.
pub record LoopState : Type 0 where
  pub office : Office ListBooks
  pub maps : Maps
  pub connected : Bool
  pub output : Option (List ℕ)

-- Builds the state of a running loop (a script with simulated devices) from the program, the
-- register map and the output.
abbrev pub loop_state : Office ListBooks → Maps → (connected : Bool)
    → (output : Option (List ℕ)) → LoopState
loop_state office maps connected output =
    record { office = office; maps = maps; connected = connected; output = output }

-- Builds the modeled state of a loop (a script with simulated devices) from the history of accepted
-- events and the running state.
abbrev pub stage_on : History → LoopState → LoopStage
stage_on past here =
    record { script = stage_of past here.office; maps = here.maps; connected = here.connected }

-- States that a script line printed an output that the specification `Prints` allows. Also states
-- that the stored records are those of the history of accepted events after the line.
pub record CarriedOut (Prints : LoopStage → List ℕ → LoopStage → Type 0) (past : History)
    (from to : LoopState)
    : Type 0 where
  pub printed : List ℕ
  pub after : History
  pub prints : Prints (stage_on past from) printed (stage_on after to)
  pub appended : Appends from.output to.output printed
  pub stands : Stands ledger_of after to.office

-- States the output of a call that was interrupted: nothing, or a beginning of an output that the
-- specification `Prints` allows.
abbrev pub Begins : (Prints : List ℕ → Type 0) → (output output' : Option (List ℕ)) → Type 0
Begins Prints output output' =
    Appends output output' []
    ⊎ ((printed : List ℕ) × Prints printed × GotPart printed output output')

-- States the outcome of a call for a script line. A successful call executed the line. A failed
-- call wrote a beginning of the line's output, and leaves the next state unspecified.
abbrev pub CarriesOut : {X E : Type 0} → Result X E → (X → LoopStage → List ℕ → LoopStage → Type 0)
    → (from to : LoopState) → Type 0
CarriesOut (Ok x) Prints from to =
    (past : History) → Stands ledger_of past from.office → CarriedOut (Prints x) past from to
CarriesOut {X = X} (Err error) Prints from to =
    (past : History) → Stands ledger_of past from.office
    → Begins (λ printed. (x : X) × (next : LoopStage) × Prints x (stage_on past from) printed next)
    from.output to.output

-- States that a script line printed an output that the specification `Prints` allows. The line may
-- change the state of `sunreg`, but not the simulated devices.
pub record Carried (Prints : Stage → List ℕ → Stage → Type 0) (past : History)
    (office office' : Office ListBooks) (output output' : Option (List ℕ)) : Type 0 where
  pub printed : List ℕ
  pub after : History
  pub prints : Prints (stage_of past office) printed (stage_of after office')
  pub appended : Appends output output' printed
  pub stands : Stands ledger_of after office'

-- States the outcome of a call for a script line that does not change the simulated devices. A
-- successful call executed the line, and a failed call wrote a beginning of the line's output.
abbrev pub Carries : {X E : Type 0} → Result X E → (X → Stage → List ℕ → Stage → Type 0)
    → (office office' : Office ListBooks) → (output output' : Option (List ℕ)) → Type 0
Carries (Ok x) Prints office office' output output' =
    (past : History) → Stands ledger_of past office
    → Carried (Prints x) past office office' output output'
Carries {X = X} (Err error) Prints office office' output output' =
    (past : History) → Stands ledger_of past office
    → Begins (λ printed. (x : X) × (next : Stage) × Prints x (stage_of past office) printed next)
    output output'
