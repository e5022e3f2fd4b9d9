-- Lemmas on executing single lines of a script with simulated devices. Lines that do not use these
-- devices have the same effect as in a script without them.
use Rattle.std.proofs.Common.{◌≡◌, ◌⊎◌, inl, inr, ℕ, Bool, true, false, List, [], Option, refl, sym, subst}
use Rattle.std.specs.Prelude.{Result, Ok, Err, IsErr}
use Rattle.std.specs.Io.KnownBytes.{Appends}
use Rattle.std.specs.declared.io.Error.{Error}
use Rattle.office_core.specs.Standing.{Stands}
use Rattle.office_core.specs.declared.office.Office.{Office}
use Rattle.memory_books.specs.Listed.{ledger_of}
use Rattle.memory_books.specs.declared.list_books.ListBooks.{ListBooks}
use Rattle.office_books.specs.History.{History}
use Rattle.mb_device.specs.Maps.{Maps}
use Rattle.office_events.specs.declared.events.Event.{Event}
use Rattle.office_events.specs.declared.commands.Command.{Command}
use Rattle.office_events.specs.declared.events.Event.TheVariants as event
use Rattle.office_events.specs.declared.refusals.Refusal.{Refusal}
use Rattle.poll_core.specs.declared.outcome.Closing.{Closing}
use Rattle.office_events.specs.declared.events.Asked.{Asked}
use Rattle.script_text.specs.declared.script.ScriptLine.{ScriptLine}
use Rattle.script_run.specs.Looping.Lines.{AlikePrints, CommandPrints, HappensPrints, PlainPrints, SaidPrints, round_of}
use Rattle.script_run.specs.Replaying.Lines.{LinePrints}
use Rattle.script_run.specs.Replaying.Events.{EventPrints}
use Rattle.script_run.specs.Replaying.TextRun.{IsCarriedOut, MayCarryOut, stage_of}
use Rattle.script_run.specs.Replaying.Stages.{Stage}
use Rattle.sun_points.specs.Writing.{GotText}
use Rattle.script_run.specs.Looping.TextRun.{LineRuns}
use Rattle.script_run.specs.Looping.Standings.{Begins, Carried, CarriedOut, Carries, CarriesOut, LoopState, LoopStage, loop_state, stage_on}
use Rattle.script_run.proofs.LoopingLemmas.Breaking.{begins_as}

-- States that a script line was executed with the given text as its output. Also states that the
-- stored records are those of the history of accepted events after the line.
pub record Reported (P : Stage → List ℕ → Stage → Type 0) (past : History) (office office' : Office ListBooks) (text : List ℕ) : Type 0 where
  pub after : History
  pub prints : P (stage_of past office) text (stage_of after office')
  pub stands : Stands ledger_of after office'

pub record ReportedOut (P : LoopStage → List ℕ → LoopStage → Type 0) (past : History) (from to : LoopState) (text : List ℕ) : Type 0 where
  pub after : History
  pub prints : P (stage_on past from) text (stage_on after to)
  pub stands : Stands ledger_of after to.office

-- If the complete output of a script line was written, then the line was executed. If the write
-- failed, then the writer received a beginning of this output.
pub writing : (r : Result (Unit {0}) Error) (text : List ℕ) (office office' : Office ListBooks) (o o' : Option (List ℕ))
    (P : Stage → List ℕ → Stage → Type 0) → GotText r text o o'
    → ((past : History) → Stands ledger_of past office → Reported P past office office' text)
    → Carries r (λ done. P) office office' o o'
writing (Ok done) text office office' o o' P got reported = λ past stands.
    let this = reported past stands in
    record { printed = text; after = this.after; prints = this.prints; appended = got; stands = this.stands }
writing (Err error) text office office' o o' P got reported = λ past stands.
    let this = reported past stands in
    inr (text, (tt, stage_of this.after office', this.prints), got)

pub writing_out : (r : Result (Unit {0}) Error) (text : List ℕ) (from to : LoopState) (P : LoopStage → List ℕ → LoopStage → Type 0)
    → GotText r text from.output to.output
    → ((past : History) → Stands ledger_of past from.office → ReportedOut P past from to text)
    → CarriesOut r (λ done. P) from to
writing_out (Ok done) text from to P got reported = λ past stands.
    let this = reported past stands in
    record { printed = text; after = this.after; prints = this.prints; appended = got; stands = this.stands }
writing_out (Err error) text from to P got reported = λ past stands.
    let this = reported past stands in
    inr (text, (tt, stage_on this.after to, this.prints), got)

-- Suppose that a line was executed as in a script without simulated devices, and left the simulator
-- unchanged. Then it was also executed as in a script with simulated devices.
pub out : (P : Stage → List ℕ → Stage → Type 0) (Q : LoopStage → List ℕ → LoopStage → Type 0) (past : History) (from to : LoopState)
    → Carried P past from.office to.office from.output to.output
    → ((printed : List ℕ) (after : History) → P (stage_of past from.office) printed (stage_of after to.office)
    → Q (stage_on past from) printed (stage_on after to))
    → CarriedOut Q past from to
out P Q past from to done turn = record {
  printed = done.printed;
  after = done.after;
  prints = turn done.printed done.after done.prints;
  appended = done.appended;
  stands = done.stands;
}

-- If a line does not use the simulated devices, then it has the same effect as in a script without
-- simulated devices.
pub as_script : (P : Stage → List ℕ → Stage → Type 0) (past : History) (office office' : Office ListBooks) (ok : Unit {0})
    (o o' : Option (List ℕ)) → IsCarriedOut P past office office' (Ok ok) o o' → Carried P past office office' o o'
as_script P past office office' ok o o' done = record {
  printed = done.printed;
  after = done.after;
  prints = done.prints;
  appended = done.got;
  stands = done.stands;
}

pub as_script_may : (P : Stage → List ℕ → Stage → Type 0) (past : History) (office office' : Office ListBooks) (ok : Unit {0})
    (o o' : Option (List ℕ)) → MayCarryOut P past office office' (Ok ok) o o' → Carried P past office office' o o'
as_script_may P past office office' ok o o' (inl done) = as_script P past office office' ok o o' done
as_script_may P past office office' ok o o' (inr none) = absurd (let e = none.0 in cc)

-- If a script line was executed according to the specification `P`, then it was also executed
-- according to every weaker specification `Q`.
pub out_as : (P Q : LoopStage → List ℕ → LoopStage → Type 0) (past : History) (from to : LoopState)
    → ((now : LoopStage) (printed : List ℕ) (next : LoopStage) → P now printed next → Q now printed next)
    → CarriedOut P past from to → CarriedOut Q past from to
out_as P Q past from to turn done = record {
  printed = done.printed;
  after = done.after;
  prints = turn (stage_on past from) done.printed (stage_on done.after to) done.prints;
  appended = done.appended;
  stands = done.stands;
}

pub runs_as : (r : Result Bool Error) (P Q : LoopStage → List ℕ → LoopStage → Type 0) (Wrong Worse : Type 0) (from to : LoopState)
    → ((now : LoopStage) (printed : List ℕ) (next : LoopStage) → P now printed next → Q now printed next) → (Wrong → Worse)
    → LineRuns r P Wrong from to → LineRuns r Q Worse from to
runs_as (Ok true) P Q Wrong Worse from to turn worse runs = λ past stands. out_as P Q past from to turn (runs past stands)
runs_as (Ok false) P Q Wrong Worse from to turn worse runs = (worse runs.0, runs.1)
runs_as (Err error) P Q Wrong Worse from to turn worse runs = λ past stands.
    begins_as _ _ from.output to.output (λ printed broken. (broken.0, turn (stage_on past from) printed broken.0 broken.1)) (runs past stands)

-- If an event does not use the simulated devices, then it has the same effect as in a script
-- without simulated devices.
pub plain_carried : (at : ℕ) (e : Event) (past : History) (office office' : Office ListBooks) (maps : Maps) (connected : Bool) (o o' : Option (List ℕ))
    → Carried (λ now printed next. EventPrints now at e printed next) past office office' o o'
    → CarriedOut (PlainPrints at e) past (loop_state office maps connected o) (loop_state office' maps connected o')
plain_carried at e past office office' maps connected o o' done =
    out (λ now printed next. EventPrints now at e printed next) (PlainPrints at e) past (loop_state office maps connected o)
    (loop_state office' maps connected o') done (λ printed after prints. record { prints = prints; by = record { maps = refl; connected = refl } })

pub plain : (r : Result (Unit {0}) Error) (at : ℕ) (e : Event) (office office' : Office ListBooks) (maps : Maps) (connected : Bool)
    (o o' : Option (List ℕ))
    → ((past : History) → Stands ledger_of past office
    → IsCarriedOut (λ now printed next. EventPrints now at e printed next) past office office' r o o')
    → CarriesOut r (λ done. PlainPrints at e) (loop_state office maps connected o) (loop_state office' maps connected o')
plain (Ok done) at e office office' maps connected o o' feeds = λ past stands.
    plain_carried at e past office office' maps connected o o'
    (as_script (λ now printed next. EventPrints now at e printed next) past office office' done o o' (feeds past stands))
plain (Err error) at e office office' maps connected o o' feeds = λ past stands.
    let done = feeds past stands in
    inr (
      done.printed,
      (
        tt,
        stage_on done.after (loop_state office' maps connected o'),
        record { prints = done.prints; by = record { maps = refl; connected = refl } },
      ),
      done.got,
    )

broken_alike : (said : ScriptLine) (past : History) (office office' : Office ListBooks) (maps : Maps) (connected : Bool) (error : Error)
    (o o' : Option (List ℕ)) → MayCarryOut (λ now printed next. LinePrints now said printed next) past office office' (Err error) o o'
    → Begins (λ printed. (done : Unit {0}) × (next : LoopStage) × AlikePrints said (stage_on past (loop_state office maps connected o)) printed next) o o'
broken_alike said past office office' maps connected error o o' (inl done) =
    inr (
      done.printed,
      (
        tt,
        stage_on done.after (loop_state office' maps connected o'),
        record { prints = done.prints; by = record { maps = refl; connected = refl } },
      ),
      done.got,
    )
broken_alike said past office office' maps connected error o o' (inr none) = inl none.1

-- If a script line does not use the simulated devices, then it has the same effect as in a script
-- without simulated devices.
pub alike : (r : Result (Unit {0}) Error) (said : ScriptLine) (office office' : Office ListBooks) (maps : Maps) (connected : Bool)
    (o o' : Option (List ℕ))
    → ((past : History) → Stands ledger_of past office
    → MayCarryOut (λ now printed next. LinePrints now said printed next) past office office' r o o')
    → CarriesOut r (λ done. AlikePrints said) (loop_state office maps connected o) (loop_state office' maps connected o')
alike (Ok done) said office office' maps connected o o' carries = λ past stands.
    out (λ now printed next. LinePrints now said printed next) (AlikePrints said) past (loop_state office maps connected o)
    (loop_state office' maps connected o')
    (as_script_may (λ now printed next. LinePrints now said printed next) past office office' done o o' (carries past stands))
    (λ printed after prints. record { prints = prints; by = record { maps = refl; connected = refl } })
alike (Err error) said office office' maps connected o o' carries = λ past stands.
    broken_alike said past office office' maps connected error o o' (carries past stands)

pub as_alike : (said other : ScriptLine) → said ≡ other
    → ((now : LoopStage) (printed : List ℕ) (next : LoopStage) → AlikePrints other now printed next → SaidPrints other now printed next)
    → (now : LoopStage) (printed : List ℕ) (next : LoopStage) → AlikePrints said now printed next → SaidPrints said now printed next
as_alike said other is turn now printed next =
    let P : ScriptLine → Type 0 = λ s. AlikePrints s now printed next → SaidPrints s now printed next in
    subst P (sym is) (turn now printed next)

pub as_happens : (at : ℕ) (e other : Event) → e ≡ other
    → ((now : LoopStage) (printed : List ℕ) (next : LoopStage) → PlainPrints at other now printed next → HappensPrints at other now printed next)
    → (now : LoopStage) (printed : List ℕ) (next : LoopStage) → PlainPrints at e now printed next → HappensPrints at e now printed next
as_happens at e other is turn now printed next =
    let P : Event → Type 0 = λ s. PlainPrints at s now printed next → HappensPrints at s now printed next in
    subst P (sym is) (turn now printed next)

pub as_command : (at : ℕ) (e : Event) (asked : Command) (round : Option (Option (List ℕ))) → e ≡ event.Command asked → round ≡ round_of asked
    → (now : LoopStage) (printed : List ℕ) (next : LoopStage) → CommandPrints round at e now printed next → HappensPrints at e now printed next
as_command at e asked round is same now printed next =
    let P : Event → Type 0 = λ s. CommandPrints round at s now printed next → HappensPrints at s now printed next in
    let Q : Option (Option (List ℕ)) → Type 0 = λ r. CommandPrints r at (event.Command asked) now printed next in
    subst P (sym is) (λ prints. subst Q same prints)

pub happens_connected : (at : ℕ) (e : Event) (device : Option (List ℕ)) (past : History) (office office' : Office ListBooks) (maps : Maps)
    (connected : Bool) (o o' : Option (List ℕ)) → e ≡ event.Connected device
    → Carried (λ now printed next. EventPrints now at (event.Connected device) printed next) past office office' o o'
    → CarriedOut (HappensPrints at e) past (loop_state office maps connected o) (loop_state office' maps true o')
happens_connected at e device past office office' maps connected o o' is done =
    let P : Event → Type 0 = λ s. CarriedOut (HappensPrints at s) past (loop_state office maps connected o) (loop_state office' maps true o') in
    subst P (sym is)
    (out (λ now printed next. EventPrints now at (event.Connected device) printed next) (HappensPrints at (event.Connected device)) past
    (loop_state office maps connected o) (loop_state office' maps true o') done
    (λ printed after prints. record { prints = prints; maps = refl; connected = refl }))

-- Suppose that a failed write interrupts the output of a script line, and that the line's event
-- does not use the simulator. Then the writer received a beginning of this output.
pub plain_begun : (at : ℕ) (e : Event) (past : History) (office : Office ListBooks) (maps : Maps) (connected : Bool) (o o' : Option (List ℕ))
    → Begins (λ printed. (done : Unit {0}) × (next : Stage) × EventPrints (stage_of past office) at e printed next) o o'
    → Begins (λ printed. (next : LoopStage) × PlainPrints at e (stage_on past (loop_state office maps connected o)) printed next) o o'
plain_begun at e past office maps connected o o' begun =
    begins_as _ _ o o' (λ printed broken. (
      record { script = broken.1; maps = maps; connected = connected },
      record { prints = broken.2; by = record { maps = refl; connected = refl } },
    )) begun

pub happens_begun : (at : ℕ) (e : Event) (device : Option (List ℕ)) (past : History) (office : Office ListBooks) (maps : Maps)
    (connected : Bool) (o o' : Option (List ℕ)) → e ≡ event.Connected device
    → Begins (λ printed. (done : Unit {0}) × (next : Stage) × EventPrints (stage_of past office) at (event.Connected device) printed next) o o'
    → Begins (λ printed. (next : LoopStage) × HappensPrints at e (stage_on past (loop_state office maps connected o)) printed next) o o'
happens_begun at e device past office maps connected o o' is begun =
    let P : Event → Type 0 = λ s.
    Begins (λ printed. (next : LoopStage) × HappensPrints at s (stage_on past (loop_state office maps connected o)) printed next) o o' in
    subst P (sym is)
    (begins_as _ _ o o' (λ printed broken. (
      record { script = broken.1; maps = maps; connected = true },
      record { prints = broken.2; maps = refl; connected = refl },
    )) begun)

-- If a call for a script line returns `true`, then the call executed the line. The line's output
-- and the history after the line satisfy the line's specification.
pub line_done : (fine : Bool) (P : LoopStage → List ℕ → LoopStage → Type 0) (Wrong : Type 0) (from to : LoopState) → fine ≡ true
    → LineRuns (Ok fine) P Wrong from to → (past : History) → Stands ledger_of past from.office → CarriedOut P past from to
line_done true P Wrong from to is runs = runs
line_done false P Wrong from to is runs = absurd (let e : false ≡ true = is in cc)

pub line_wrong : (fine : Bool) (P : LoopStage → List ℕ → LoopStage → Type 0) (Wrong : Type 0) (from to : LoopState) → fine ≡ false
    → LineRuns (Ok fine) P Wrong from to → Wrong × Appends from.output to.output []
line_wrong false P Wrong from to is runs = runs
line_wrong true P Wrong from to is runs = absurd (let e : true ≡ false = is in cc)
