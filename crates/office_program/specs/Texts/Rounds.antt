-- The text of a device's polling round (one poll for each Modbus read of its plan), and of the
-- refusal that ended the round early.
use Rattle.std.specs.Prelude.{◌≡◌, ◌⊎◌, ℕ, List, Option, Result, Ok, Err}
use Rattle.std.specs.Io.KnownBytes.{Appends}
use Rattle.std.specs.declared.io.Write as writers
use Rattle.mb_wire.specs.declared.link.Link as links
use Rattle.mb_wire.specs.declared.sockets.clock.Clock as clocks
use Rattle.command_io.specs.declared.status.ExitStatus.{ExitStatus}
use Rattle.command_io.specs.declared.status.ExitStatus.TheVariants as status
use Rattle.office_books.specs.History.{History}
use Rattle.office_books.specs.Ledgers.{Ledger}
use Rattle.office_books.specs.declared.books.Books as stores
use Rattle.office_core.specs.Standing.{After}
use Rattle.office_core.specs.declared.office.Office.{Office}
use Rattle.office_program.specs.Between.{passage_of}
use Rattle.office_program.specs.Rounds.{Passage, round_state, passage}
use Rattle.office_program.specs.Rounds as one
use Rattle.office_program.specs.declared.fault.RoundFault.{RoundFault}
use Rattle.office_program.specs.declared.fault.RoundFault.TheVariants.{Refused, Link, Output, TurnsUsed}
use Rattle.script_text.specs.AnswerText.{refused_line}
use Rattle.sun_points.specs.Writing.{GotPart}

-- True if the refusal that ended the polling round early was printed. If the write failed, a part
-- of the refusal was printed, and the fault is `Output`.
--
-- If the polling round succeeded, or ended early for another reason than a refusal, nothing was
-- printed.
abbrev pub IsRefusalReported : (done result : Result (Unit {0}) RoundFault)
    → (old new : Option (List ℕ)) → Type 0
IsRefusalReported (Ok x) result old new = (result ≡ Ok x) × (new ≡ old)
IsRefusalReported (Err (Refused why)) result old new =
    ((result ≡ Err (Refused why)) × Appends old new (refused_line why))
    ⊎ ((result ≡ Err Output) × GotPart (refused_line why) old new)
IsRefusalReported (Err Link) result old new = (result ≡ Err Link) × (new ≡ old)
IsRefusalReported (Err Output) result old new = (result ≡ Err Output) × (new ≡ old)
IsRefusalReported (Err TurnsUsed) result old new = (result ≡ Err TurnsUsed) × (new ≡ old)

-- The states at the start and the end of a polling round, without the final refusal in the printed
-- text. `printed` is the text that was printed before this refusal.
abbrev pub without_cause : Passage → (printed : Option (List ℕ)) → Passage
without_cause through printed =
    passage through.begun
    (round_state printed through.ended.moments through.ended.failures) through.from through.to

-- True if the device was polled in a polling round. If a refusal ended the round early, the refusal
-- was printed.
pub record PollsRound {B : Type 0} (ledger : B → Ledger) (device : Option (List ℕ)) (past : History)
    (through : Passage)
    (office : Office B) (result : Result (Unit {0}) RoundFault) : Type 0 where
  pub printed : Option (List ℕ)
  pub done : Result (Unit {0}) RoundFault
  pub round : one.Rounds ledger device past (without_cause through printed) office done
  pub reported : IsRefusalReported done result printed through.ended.printed

-- The contract of a polling round of one device. `PollsRound` states the result, whatever events
-- the office (the event engine) accepted before.
abbrev pub PollsRoundOver : {L B C W : Type 0} → links.Ghosts L → stores.Ghosts B → clocks.Ghosts C
    → writers.Ghosts W → (device : Option (List ℕ)) → (from to : L) → (old new : Office B)
    → (before after : C) → (had holds : W) → Result (Unit {0}) RoundFault → Type 0
PollsRoundOver l b c w device from to old new before after had holds result =
    After b.ledger old new (λ past. PollsRound b.ledger device past
    (passage_of l b c w from to old new before after had holds) new result)

-- The exit status of the command that polls a device once, for the result of its polling round.
abbrev pub round_status : Result (Unit {0}) RoundFault → ExitStatus
round_status (Ok x) = status.Fine
round_status (Err (Refused why)) = status.Refused
round_status (Err Link) = status.Failed
round_status (Err Output) = status.Failed
round_status (Err TurnsUsed) = status.Failed
