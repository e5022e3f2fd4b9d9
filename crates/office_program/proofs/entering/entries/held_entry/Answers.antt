use Rattle.std.proofs.Common.{List, ℕ, subst}
use Rattle.office_program.specs.Entering.Lines.{ReadsList}
use Rattle.office_program.proofs.entering.entries.held_entry.Goals as goal

pub returns-in-Ok : goal.returns-in-Ok
returns-in-Ok c =
    let P : List ℕ → Type 0 = λ request. ReadsList c.args.caller c.args.named.now.number c.args.named.now.device c.args.text.now request c.list_entry.result in
    subst P c.in-Ok.ensures c.list_entry.ensures
