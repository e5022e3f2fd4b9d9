use Rattle.std.proofs.Common.{List, subst}
use Rattle.std.specs.Prelude.{IfOk}
use Rattle.carried_books.specs.Joining.Earlier.{HoldAll}
use Rattle.carried_books.specs.declared.joining.earlier.KeptRegister.{KeptRegister}
use Rattle.carried_books.proofs.JoiningLemmas.Earlier.{registers_held, registers_part}
use Rattle.carried_books.proofs.joining.earlier.ComparedRegistersKeeping.add.Goals as goal

pub returns-clause-joins : goal.returns-clause-joins
returns-clause-joins g c zone known holds clean =
    registers_held zone known c.args.self.now c.compare_all.result
    (subst (λ (kept : List KeptRegister). IfOk c.compare_all.result (HoldAll kept known)) c.as_slice.ensures.value
    (c.compare_all.ensures.holds known holds clean))

pub returns-clause-unjoined : goal.returns-clause-unjoined
returns-clause-unjoined g c known holds clean =
    registers_part known c.args.self.now c.compare_all.result
    (subst (λ (kept : List KeptRegister). IfOk c.compare_all.result (HoldAll kept known)) c.as_slice.ensures.value
    (c.compare_all.ensures.holds known holds clean))
