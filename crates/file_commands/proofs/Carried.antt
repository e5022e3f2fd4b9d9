-- Lemmas: if the command `carry` (which begins a new database file) ends with success, then the
-- open meters of the old file continue in the new file.
use Rattle.std.proofs.Common.{ℕ, List, Option, Result, Ok, Err, IfOk}
use Rattle.sqlite.specs.Store.{Ghosts}
use Rattle.sqlite.specs.Held.{Held}
use Rattle.stored_files.specs.declared.ends.ending.Ending.{Ending}
use Rattle.stored_files.specs.declared.ends.ending.Ending.TheVariants.{Fine, Refused, Wrong, NoText, NoZone, NoDay, Backward, NoSeal, Twice, Failed}
use Rattle.file_commands.specs.Rollovers.{Carries, CarriesFile, EndsCarry}

module _ {S : Type 0} (g : Ghosts S) where
  -- Suppose that a connection to the file at `path` was opened, and its database was rolled over
  -- into a new file. Then the file at `path` was rolled over.
  pub file_carried : {E : Type 0} (opens : List ℕ → Held S → Type 0) (path : List ℕ) (until : Option ℕ) (opened : Held S) (r : Result ℕ E)
      → opens path opened → IfOk r (Carries g opened until) → IfOk r (CarriesFile g opens path until)
  file_carried opens path until opened (Ok meters) is_opened carries = record { opened = opened; is_opened = is_opened; carries = carries }
  file_carried opens path until opened (Err why) is_opened carries = tt

  -- Suppose that the condition `all` on connections allows every connection that `some` allows,
  -- such as one to a copy. Then a rollover of a file opened under `some` is also a rollover of a
  -- file opened under `all`.
  pub ends_carry : (some all : List ℕ → Held S → Type 0) → ((p : List ℕ) (h : Held S) → some p h → all p h) → (path : List ℕ) (until : Option ℕ) (ending : Ending)
      → EndsCarry g some path until ending → EndsCarry g all path until ending
  ends_carry some all to_all path until Fine it =
      (it.0, record { opened = it.1.opened; is_opened = to_all path it.1.opened it.1.is_opened; carries = it.1.carries })
  ends_carry some all to_all path until Refused it = tt
  ends_carry some all to_all path until (Wrong text) it = tt
  ends_carry some all to_all path until NoText it = tt
  ends_carry some all to_all path until (NoZone zone) it = tt
  ends_carry some all to_all path until (NoDay option word) it = tt
  ends_carry some all to_all path until Backward it = tt
  ends_carry some all to_all path until (NoSeal file) it = tt
  ends_carry some all to_all path until (Twice file) it = tt
  ends_carry some all to_all path until (Failed failure) it = tt
