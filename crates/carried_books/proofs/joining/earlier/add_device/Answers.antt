use Rattle.std.proofs.Common.{◌≡◌, List, None, Option, sym, subst, ◌∙◌}
use Rattle.std.specs.Prelude.{IfOk}
use Rattle.office_events.specs.declared.facts.Register.{Register}
use Rattle.office_books.specs.Facts.{registers_of}
use Rattle.carried_books.specs.Joining.Earlier.{AddsRegisters, AreRecorded}
use Rattle.carried_books.specs.declared.joining.files.Unjoined.{Unjoined}
use Rattle.carried_books.proofs.JoiningLemmas.Recorded.{registers_recorded}
use Rattle.carried_books.proofs.joining.earlier.add_device.Goals as goal

pub returns-in-Ok-clause-adds : goal.returns-in-Ok-clause-adds
returns-in-Ok-clause-adds g c known holds clean =
    let device = c.args.device.now.name in
    let mid = c.in-Ok.ensures.reads.keeps.facts known holds in
    let found : c.deref.result.now ≡ registers_of known device =
    c.deref.ensures.value ∙ c.in-Ok.ensures.found known holds (c.add_registers.ensures.reads.goes.clean clean) in
    let recorded = subst (λ (registers : List Register). AreRecorded registers known) (sym found) (registers_recorded known device) in
    subst
    (λ (registers : List Register). IfOk c.add_registers.result (λ (why : Option Unjoined). why ≡ None → AddsRegisters c.args.zone known registers c.args.kept.now.items c.add_registers.new.kept.items))
    found
    (c.add_registers.ensures.adds known mid clean recorded)

pub returns-in-Ok-clause-unjoined : goal.returns-in-Ok-clause-unjoined
returns-in-Ok-clause-unjoined g c known holds clean =
    let device = c.args.device.now.name in
    let mid = c.in-Ok.ensures.reads.keeps.facts known holds in
    let found : c.deref.result.now ≡ registers_of known device =
    c.deref.ensures.value ∙ c.in-Ok.ensures.found known holds (c.add_registers.ensures.reads.goes.clean clean) in
    let recorded = subst (λ (registers : List Register). AreRecorded registers known) (sym found) (registers_recorded known device) in
    c.add_registers.ensures.unjoined known mid clean recorded
