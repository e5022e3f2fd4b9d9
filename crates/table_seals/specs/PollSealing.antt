-- Defines the seal (digests of earlier records) of the polls in the tables, and the check of the
-- polls against a seal. A run of polls has `RUN` consecutive poll numbers.
use Rattle.std.specs.Prelude.{⊤, ◌≡◌, ◌≤◌, ◌↔◌, ◌+◌, ◌*◌, ◌++◌, ℕ, Bool, true, false, List, length, Option, Some, None, Ok, Err, Result, IfSome, unwrap_or}
use Rattle.sha2.specs.declared.Sha256.{Sha256}
use Rattle.sha2.specs.Hashers.{Holds256}
use Rattle.sha2.specs.Sha256.{sha256}
use Rattle.sqlite.specs.Order.{Row}
use Rattle.store_tables.specs.declared.faults.RowFault.{RowFault}
use Rattle.store_tables.specs.Columns.{first_in}
use Rattle.store_tables.specs.Content.{Content}
use Rattle.store_tables.specs.Limits.{greatest_place}
use Rattle.table_audit.specs.declared.poll_rows.RunRows.{RunRows}
use Rattle.table_audit.specs.declared.poll_rows.TheConstants.{RUN}
use Rattle.table_audit.specs.PollShowing.{AreRowsOfRun, ShowsLast}
use Rattle.table_audit.specs.Polls.{AreRuns}
use Rattle.table_seals.specs.declared.seals.PollSeal.{PollSeal}
use Rattle.table_seals.specs.PollReading.{ReadPoll, polls_in, polls_of}
use Rattle.table_seals.specs.PollTexts.{polls_text, polls_text_then, text_then, pending_of, pending_among}
use Rattle.table_seals.specs.Sealed.{SealedPolls, sealed_polls_of}

-- States that `polls` are the polls of all runs (`RUN` consecutive poll numbers each), up to the
-- run of the poll `last`. None means that a row can't be parsed, a poll number is missing, or an
-- outcome has no poll.
pub record ReadsRuns (last : ℕ) (content : Content) (polls : Option (List ReadPoll)) : Type 0 where
  pub runs : List RunRows
  pub theirs : AreRuns content 0 runs
  pub read : polls_of runs ≡ polls
  pub all : IfSome polls (λ _. last ≤ length runs * RUN)

-- States that a result has the polls up to the greatest poll number that a query found. The list is
-- empty if the tables have no polls. If the greatest number is out of range, the result is None.
abbrev pub ReadsUpTo : Result (Option ℕ) RowFault → Content → Option (List ReadPoll) → Type 0
ReadsUpTo (Ok last) content polls = ReadsRuns (unwrap_or last 0) content polls
ReadsUpTo (Err e) content polls = polls ≡ None

-- States that `polls` are all polls in the tables. None means that a row can't be parsed, a poll
-- number is missing, or an outcome has no poll.
pub record ReadsPolls (content : Content) (polls : Option (List ReadPoll)) : Type 0 where
  pub rows : List Row
  pub shown : ShowsLast content rows
  pub reads : ReadsUpTo (first_in 1 greatest_place rows) content polls

-- States that the polls' seal has their number, the SHA-256 digest of the text that lists them and
-- their outcomes, and the numbers of the pending polls.
pub record IsSealOfPolls (polls : List ReadPoll) (sealed : SealedPolls) : Type 0 where
  pub count : sealed.count ≡ length polls
  pub digest_is : sealed.digest ≡ sha256 (polls_text polls)
  pub pending_are : sealed.pending ≡ pending_among polls

-- States that a result is the seal of the given polls, with a digest of the text that lists the
-- polls and their outcomes. None means that a row can't be parsed, a poll number is missing, or an
-- outcome has no poll.
abbrev pub ArePollsSealed : Option (List ReadPoll) → Option PollSeal → Type 0
ArePollsSealed None None = ⊤
ArePollsSealed (Some polls) (Some seal) = IsSealOfPolls polls (sealed_polls_of seal)
ArePollsSealed None (Some seal) = ⊥
ArePollsSealed (Some polls) None = ⊥

-- States that `found` is the seal of all polls in the tables, with a digest of the text that lists
-- the polls and their outcomes. None means that the rows of the polls can't be parsed.
pub record SealsPolls (content : Content) (found : Option PollSeal) : Type 0 where
  pub polls : Option (List ReadPoll)
  pub reads : ReadsPolls content polls
  pub are_sealed : ArePollsSealed polls found

-- States that the tables have at least the sealed number of polls. The sealed digest is that of the
-- text that these polls had when they were sealed. Polls that were pending may have an outcome by
-- now.
pub record HasSealedPolls (polls : List ReadPoll) (sealed : SealedPolls) : Type 0 where
  pub enough : sealed.count ≤ length polls
  pub same : sha256 (polls_text_then sealed.count sealed.pending polls) ≡ sealed.digest

-- States that the polls can be read and match their seal, which has a digest of their earlier text.
abbrev pub KeepsPolls : Option (List ReadPoll) → SealedPolls → Type 0
KeepsPolls None sealed = ⊥
KeepsPolls (Some polls) sealed = HasSealedPolls polls sealed

-- States that `differ` is false if and only if the polls in the tables match their seal, which has
-- a digest of their earlier text.
pub record ReportsPolls (sealed : SealedPolls) (content : Content) (differ : Bool) : Type 0 where
  pub polls : Option (List ReadPoll)
  pub reads : ReadsPolls content polls
  pub reported : (differ ≡ false) ↔ KeepsPolls polls sealed

-- The effect of appending one poll to the digested text. True as the result means that the text
-- that the poll had when it was sealed (digested) was appended to the text `old`. If the poll is
-- pending now, its number was also appended to the list of pending polls. False means that the poll
-- can't be parsed from its rows.
abbrev pub PutsPoll : (last : ℕ) → (hidden : List ℕ) → Option ReadPoll
    → (old new old_pending new_pending : List ℕ) → Bool → Type 0
PutsPoll last hidden poll old new old_pending new_pending false = poll ≡ None
PutsPoll last hidden poll old new old_pending new_pending true =
    (read : ReadPoll) × (poll ≡ Some read) × (new ≡ old ++ text_then last hidden read)
    × (new_pending ≡ old_pending ++ pending_of read)

-- States that the texts that a run of `RUN` polls had when they were sealed (digested) were
-- appended to the text `old`. The numbers of the polls that are pending now were appended to the
-- list `old_pending`.
pub record PutsPolls (last : ℕ) (hidden : List ℕ) (first next : ℕ) (rows outcomes : List Row)
    (old new old_pending new_pending : List ℕ) : Type 0 where
  pub polls : List ReadPoll
  pub read : polls_in first rows outcomes ≡ Some polls
  pub next_is : next ≡ first + length polls
  pub text : new ≡ old ++ polls_text_then last hidden polls
  pub pending : new_pending ≡ old_pending ++ pending_among polls

-- States that a function that appends the texts of a run of `RUN` polls returned the next poll
-- number. None means that a row can't be parsed, a poll number is missing, or an outcome has no
-- poll.
abbrev pub PutsRows : (last : ℕ) → (hidden : List ℕ) → (first : ℕ) → (rows outcomes : List Row)
    → (old new old_pending new_pending : List ℕ) → Option ℕ → Type 0
PutsRows last hidden first rows outcomes old new old_pending new_pending None =
    polls_in first rows outcomes ≡ None
PutsRows last hidden first rows outcomes old new old_pending new_pending (Some next) =
    PutsPolls last hidden first next rows outcomes old new old_pending new_pending

-- States that the texts that a run of `RUN` polls had when they were sealed were added to a SHA-256
-- hasher. The numbers of the polls that are pending now were appended to a list.
pub record AddsPolls (last : ℕ) (hidden : List ℕ) (first next : ℕ) (rows : RunRows)
    (old new : Sha256) (old_pending new_pending : List ℕ) : Type 0 where
  pub polls : List ReadPoll
  pub read : polls_in first rows.polls.items rows.outcomes.items ≡ Some polls
  pub next_is : next ≡ first + length polls
  pub text : (m : List ℕ) → Holds256 old m → Holds256 new (m ++ polls_text_then last hidden polls)
  pub pending : new_pending ≡ old_pending ++ pending_among polls

-- States that a function that adds the texts of a run of `RUN` polls to a SHA-256 hasher returned
-- the next poll number. None means that a row can't be parsed, a poll number is missing, or an
-- outcome has no poll.
abbrev pub AddsRun : (last : ℕ) → (hidden : List ℕ) → (first : ℕ) → RunRows → (old new : Sha256)
    → (old_pending new_pending : List ℕ) → Option ℕ → Type 0
AddsRun last hidden first rows old new old_pending new_pending None =
    polls_in first rows.polls.items rows.outcomes.items ≡ None
AddsRun last hidden first rows old new old_pending new_pending (Some next) =
    AddsPolls last hidden first next rows old new old_pending new_pending

-- States that the polls of the run (`RUN` consecutive numbers) with the index `run` were read from
-- the tables. The text that these polls had when they were sealed was added to a SHA-256 hasher,
-- unless a row can't be parsed.
pub record LooksAtRun (run last : ℕ) (hidden : List ℕ) (first : ℕ) (old new : Sha256)
    (old_pending new_pending : List ℕ) (content : Content) (found : Option ℕ) : Type 0 where
  pub rows : RunRows
  pub theirs : AreRowsOfRun run content rows
  pub adds : AddsRun last hidden first rows old new old_pending new_pending found

-- States that a digest has the number of polls, the SHA-256 digest of the text that listed them and
-- their outcomes when sealed, and the numbers of the pending polls.
abbrev pub IsDigested : (last : ℕ) → (hidden : List ℕ) → List ReadPoll → SealedPolls → Type 0
IsDigested last hidden polls found =
    (found.count ≡ length polls)
    × (found.digest ≡ sha256 (polls_text_then last hidden polls))
    × (found.pending ≡ pending_among polls)

-- States that a result is the digest of the given polls, as they were when sealed, with their
-- number and the pending polls. None means that a row can't be parsed, a poll number is missing, or
-- an outcome has no poll.
abbrev pub AreDigested : (last : ℕ) → (hidden : List ℕ) → Option (List ReadPoll) → Option PollSeal
    → Type 0
AreDigested last hidden None None = ⊤
AreDigested last hidden (Some polls) (Some found) =
    IsDigested last hidden polls (sealed_polls_of found)
AreDigested last hidden None (Some found) = ⊥
AreDigested last hidden (Some polls) None = ⊥

-- States that a result is the digest of the polls of all runs (`RUN` consecutive numbers each) in
-- the tables.
pub record DigestsRuns (greatest last : ℕ) (hidden : List ℕ) (content : Content)
    (found : Option PollSeal) : Type 0 where
  pub polls : Option (List ReadPoll)
  pub reads : ReadsRuns greatest content polls
  pub digested : AreDigested last hidden polls found

-- States that `found` is the digest of all polls in the tables.
pub record DigestsPolls (last : ℕ) (hidden : List ℕ) (content : Content) (found : Option PollSeal)
    : Type 0 where
  pub polls : Option (List ReadPoll)
  pub reads : ReadsPolls content polls
  pub digested : AreDigested last hidden polls found

-- States that the tables have at least the sealed number of polls. The digest of the text that
-- these polls had when they were sealed equals the sealed digest.
abbrev pub AreAsSealed : Option PollSeal → SealedPolls → Type 0
AreAsSealed None sealed = ⊥
AreAsSealed (Some found) sealed = (sealed.count ≤ found.count) × (found.digest ≡ sealed.digest)
