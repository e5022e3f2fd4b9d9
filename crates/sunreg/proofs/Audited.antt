-- The lemma on how the command `audit` ends over several database files.
use Rattle.std.proofs.Common.{◌≤◌, ℕ, List, [], ◌∷◌, length, Option, arith}
use Rattle.std.specs.Borrow.{Bor}
use Rattle.sqlite.specs.Store.{Ghosts}
use Rattle.sqlite.specs.Held.{Held}
use Rattle.command_words.specs.declared.line.Sealing.{Sealing}
use Rattle.stored_files.specs.declared.ends.ending.Ending.{Ending}
use Rattle.file_commands.specs.JoinedAudits.{EndsSeveral}
use Rattle.sunreg.specs.Commands.{EndsAudited}

module _ {S : Type 0} (g : Ghosts S) (opens : List ℕ → Held S → Type 0) (seal : Sealing) (had holds : Option (List ℕ)) (ending : Ending) where
  -- If `audit` was given two files or more, and ended as its contract for several files says, then
  -- the command ended as it must.
  pub more_audited : (paths : List (Bor (List ℕ))) → 2 ≤ length paths → EndsSeveral g opens paths had holds ending → EndsAudited g opens paths seal ending
  more_audited [] many audits = absurd (omega (arith, many))
  more_audited (path ∷ []) many audits = absurd (omega (arith, many))
  more_audited (path ∷ other ∷ others) many audits = record { had = had; holds = holds; audits = audits }
