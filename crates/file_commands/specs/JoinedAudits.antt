-- Defines what the command `audit` prints about several successive database files, and when it
-- reports success.
use Rattle.std.specs.Prelude.{◌≡◌, ◌↔◌, ◌⊎◌, ℕ, Bool, true, false, not, bytes_eq, ◌&&◌, List, [], ◌∷◌, ◌++◌, Option, Some, None, IsTrue, Vec}
use Rattle.std.specs.List.{list_any}
use Rattle.std.specs.Borrow.{Bor}
use Rattle.std.specs.Option.{option_map}
use Rattle.std.specs.declared.alloc.Global.{Global}
use Rattle.std.specs.Io.KnownBytes.{Appends}
use Rattle.sqlite.specs.Store.{Ghosts}
use Rattle.sqlite.specs.Held.{Held, state}
use Rattle.sqlite.specs.State.{HasCleanDisk}
use Rattle.store_tables.specs.Content.{Content}
use Rattle.table_audit.specs.Looking.{HoldsRows}
use Rattle.table_seals.specs.declared.filed.FiledMeter.{FiledMeter}
use Rattle.table_seals.specs.declared.joining.Joining.{Joining}
use Rattle.table_seals.specs.Filing.{FilesMeters}
use Rattle.table_seals.specs.Joins.{after_next, joins_after, known_as, known_of}
use Rattle.table_seals.specs.JoinTexts.{joined_text, lines_of, texts_of}
use Rattle.command_words.specs.declared.line.Sealing.TheVariants.{Nothing}
use Rattle.stored_files.specs.declared.ends.ending.Ending.{Ending}
use Rattle.stored_files.specs.declared.ends.ending.Ending.TheVariants.{Fine, Refused, Twice}
use Rattle.file_commands.specs.Audits.{AuditsTables}

-- States that a file with the tables `content` was compared with the earlier files. A line was
-- added to the output for each difference (in the time zone, or in a meter that does not continue).
-- The definition does not state that `zone`, the compared time zone, is that of the file.
pub record JoinsNext (file : List ℕ) (content : Content) (old new : Joining) : Type 0 where
  pub meters : Vec FiledMeter Global
  pub filed : FilesMeters file content (Some meters)
  pub zone : List ℕ
  pub lines : texts_of new.lines.items ≡ texts_of old.lines.items
      ++ lines_of (joins_after (option_map known_of old.known) (known_as file zone meters.items))
  pub known : option_map known_of new.known
      ≡ Some (after_next (option_map known_of old.known) (known_as file zone meters.items))

-- States that a file with the tables `content` was audited. `audited` is true if and only if the
-- tables do not differ from those that the program would write. Such a difference is, for example,
-- an entry that the rules for meter entries reject. If the earlier files had no such differences
-- either (`so_far`), the file's time zone and meters were compared with theirs (`JoinsNext`).
pub record AuditsNext (file : List ℕ) (content : Content) (so_far : Bool) (old new : Joining)
    (had holds : Option (List ℕ)) (fine : Bool) : Type 0 where
  pub audited : Bool
  pub audits : AuditsTables content Nothing had holds audited
  pub both : fine ≡ audited && so_far
  pub joins : IsTrue fine → JoinsNext file content old new

-- True if no two paths in a list are equal.
abbrev pub are_apart : List (Bor (List ℕ)) → Bool
are_apart [] = true
are_apart (path ∷ paths) =
    not (list_any (λ other. bytes_eq other.now path.now) paths) && are_apart paths

-- States that some line of text was printed to the output.
pub record PrintsLine (had holds : Option (List ℕ)) : Type 0 where
  pub line : List ℕ
  pub printed : Appends had holds line

module _ {S : Type 0} (g : Ghosts S) (opens : List ℕ → Held S → Type 0) where
  -- States that a line was printed, and that the file at a path was then opened and audited. The
  -- claim `audits` assumes that all reads of the disk returned what was written to it. The
  -- definition does not state that the line has the name of the file.
  pub record AuditsPath (path : List ℕ) (so_far : Bool) (old new : Joining)
      (had holds : Option (List ℕ)) (fine : Bool) : Type 0 where
    pub named : Option (List ℕ)
    pub name : PrintsLine had named
    pub opened : Held S
    pub is_opened : opens path opened
    pub left : Held S
    pub audits : HasCleanDisk (state g left) → (content : Content) → HoldsRows g opened content
        → AuditsNext path content so_far old new named holds fine

  -- States that the files at the given paths were audited in order. `fine` is true if and only if
  -- these files and the files before them (`so_far`) do not differ from what the program would
  -- write.
  abbrev pub AuditsPaths : (paths : List (Bor (List ℕ))) → (so_far : Bool) → (old new : Joining)
      → (had holds : Option (List ℕ)) → (fine : Bool) → Type 0
  AuditsPaths [] so_far old new had holds fine =
      (new ≡ old) × (holds ≡ had) × (fine ≡ so_far)
  AuditsPaths (path ∷ paths) so_far old new had holds fine =
      (next : Joining) × (printed : Option (List ℕ)) × (passed : Bool)
      × AuditsPath path.now so_far old next had printed passed
      × AuditsPaths paths passed next new printed holds fine

  -- States that all files were audited, and do not differ from what the program would write.
  -- `joined` is true if and only if each file also continues the meter history of the earlier
  -- files. The differences between the files were printed.
  pub record FindsJoined (paths : List (Bor (List ℕ))) (had holds : Option (List ℕ))
      (joined : Bool) : Type 0 where
    pub none : Joining
    pub unknown : none.known ≡ None
    pub nothing : none.lines.items ≡ []
    pub all : Joining
    pub printed : Option (List ℕ)
    pub audits : AuditsPaths paths true none all had printed true
    pub lines : Appends printed holds (joined_text all.lines.items)
    pub verdict : IsTrue joined ↔ (all.lines.items ≡ [])

  -- States that all files were audited, and that at least one differs from what the program would
  -- write. The findings were printed.
  pub record FindsDifferent (paths : List (Bor (List ℕ))) (had holds : Option (List ℕ)) : Type 0
    where
      pub none : Joining
      pub all : Joining
      pub audits : AuditsPaths paths true none all had holds false

  -- States when the audit of several files reports success: only if each file is as the program
  -- would write it, and continues the meter history of the earlier files.
  abbrev pub AuditsSeveral : (paths : List (Bor (List ℕ))) → (had holds : Option (List ℕ))
      → (fine : Bool) → Type 0
  AuditsSeveral paths had holds true = FindsJoined paths had holds true
  AuditsSeveral paths had holds false =
      FindsJoined paths had holds false ⊎ FindsDifferent paths had holds

  -- States how the command `audit` over several files ends. It ends with success (`Fine`) or a
  -- refusal only if the audit had this result (`AuditsSeveral`). It ends with `Twice` only if a
  -- file was given twice. Any other ending reports a failure.
  abbrev pub EndsSeveral : (paths : List (Bor (List ℕ))) → (had holds : Option (List ℕ)) → Ending
      → Type 0
  EndsSeveral paths had holds Fine = AuditsSeveral paths had holds true
  EndsSeveral paths had holds Refused = AuditsSeveral paths had holds false
  EndsSeveral paths had holds (Twice file) = are_apart paths ≡ false
  EndsSeveral paths had holds _ = Unit {0}
