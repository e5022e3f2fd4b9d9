-- Theorems on which the check of a seal depends: after later records are added, the text that the
-- seal digested is unchanged.
use Rattle.std.specs.Prelude.{⊤, ◌≡◌, ◌⊎◌, [], ◌∷◌, Some, None, ℕ, ◌==◌, Bool, true, ◌&&◌, List, ◌++◌, take, length, reverse}
use Rattle.std.specs.List.{list_any}
use Rattle.meter_journal.specs.declared.lines.Installed.{Installed}
use Rattle.meter_journal.specs.Books.{IsWellInstalled}
use Rattle.meter_journal.specs.Fitting.{AreFitting}
use Rattle.meter_journal.specs.Journal.{Journal, rows_of}
use Rattle.meter_journal.specs.declared.audit.rows.TableRow.{TableRow}
use Rattle.meter_journal.specs.Audit.Rows.{table_rows}
use Rattle.table_audit.specs.declared.poll_rows.RunRows.{RunRows}
use Rattle.table_seals.specs.PollReading.{ReadPoll, polls_of}
use Rattle.table_seals.specs.PollTexts.{polls_text, polls_text_then, pending_among}
use Rattle.table_seals.specs.Texts.{entries_text}

-- The rows of `entries` for a meter whose journal (history) is `lines`. The opening, the first
-- entry, comes first.
abbrev pub entries_by : Installed → Journal → List TableRow
entries_by meter lines = reverse (table_rows meter (rows_of meter.opening lines))

-- Whether the entry at the index `place` is voided (cancelled).
abbrev pub is_voided_at : (place : ℕ) → List TableRow → Bool
is_voided_at place entries = list_any (λ entry. (entry.place == place) && entry.is_voided) entries

-- Theorem: if lines are added to a meter's journal (its history), the earlier entries are still its
-- first entries, and a seal digests them as the same text.
abbrev pub FirstEntriesStay : Type 0
FirstEntriesStay = (meter : Installed) (more lines : Journal) → IsWellInstalled meter
    → AreFitting meter (more ++ lines)
    → entries_text (take (length (entries_by meter lines)) (entries_by meter (more ++ lines)))
    ≡ entries_text (entries_by meter lines)

-- Theorem: if lines are added to a meter's journal (its history), every voided (cancelled) entry is
-- still voided.
abbrev pub VoidsStay : Type 0
VoidsStay = (meter : Installed) (more lines : Journal) → IsWellInstalled meter
    → AreFitting meter (more ++ lines) → (place : ℕ)
    → is_voided_at place (entries_by meter lines) ≡ true
    → is_voided_at place (entries_by meter (more ++ lines)) ≡ true

-- States that `later` is the poll `poll`, read at a later time. If the poll was pending, it may
-- have received an outcome since. Otherwise its outcome is unchanged.
pub record IsLater (poll later : ReadPoll) : Type 0 where
  pub numbers : later.numbers ≡ poll.numbers
  pub device : later.device ≡ poll.device
  pub ending : (poll.ending ≡ None) ⊎ (later.ending ≡ poll.ending)

-- States that `later` begins with the polls in `polls`, read at a later time. `later` may have
-- further polls.
abbrev pub AreLater : (polls later : List ReadPoll) → Type 0
AreLater [] more = ⊤
AreLater (poll ∷ polls) [] = ⊥
AreLater (poll ∷ polls) (other ∷ later) = IsLater poll other × AreLater polls later

-- Theorem: after further polls and outcomes of pending polls are recorded, the text that a seal
-- digested for the earlier polls can still be computed.
abbrev pub PollsStay : Type 0
PollsStay = (rows later_rows : List RunRows) (polls later : List ReadPoll)
    → polls_of rows ≡ Some polls → polls_of later_rows ≡ Some later → AreLater polls later
    → polls_text_then (length polls) (pending_among polls) later ≡ polls_text polls
