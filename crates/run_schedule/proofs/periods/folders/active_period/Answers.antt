use Rattle.std.proofs.Common.{◌≡◌, ◌+◌, ◌++◌, ◌∷◌, ℕ, List, [], take, length, subst, sym}
use Rattle.std.proofs.lemmas.List.{take_all}
use Rattle.run_schedule.specs.Periods.Folders.{texts_in}
use Rattle.run_schedule.specs.Periods.Led.{IsLed}
use Rattle.run_schedule.proofs.FolderLemmas.{one_more}
use Rattle.run_schedule.proofs.periods.folders.active_period.Goals as goal

pub loop-name-preserved : goal.loop-name-preserved
loop-name-preserved c =
    let names = c.args.names.now in
    let i = c.loop-name.name-index in
    subst (λ (ns : List (List ℕ)). IsLed c.args.file.now c.args.length ns c.see.new.self.text)
    (sym (one_more names i c.name-item.result c.as_slice.result.now c.loop-name-test.true c.name-item.is c.as_slice.ensures.value))
    (c.in_ok-see.ensures.seen (texts_in (take i names)) c.loop-name.invariant)

pub returns : goal.returns
returns c =
    subst (λ ns. IsLed c.args.file.now c.args.length (texts_in ns) c.loop-name.led.text)
    (take_all c.loop-name.name-index c.args.names.now c.loop-name-test.false) c.loop-name.invariant
