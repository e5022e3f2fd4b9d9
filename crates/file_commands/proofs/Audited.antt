-- Lemmas: the successive steps of an audit of a database file satisfy the contracts for what the
-- audit prints, and for how the command `audit` ends.
use Rattle.std.proofs.Common.{◌≡◌, ◌↔◌, inl, inr, ℕ, Bool, true, false, List, [], ◌∷◌, ◌++◌, ◌&&◌, Option, Some, None, Vec, option_map, sym, ◌≤◌, length, get_or, drop, take, ◌-◌, arith, subst, Result, Ok, Err, IfOk, OnOk, IsTrue, refl, ap, ◌∙◌, not, bytes_eq}
use Rattle.std.specs.List.{list_any}
use Rattle.std.specs.Option.{MatchOption}
use Rattle.std.specs.Borrow.{Bor}
use Rattle.std.specs.Io.KnownBytes.{Appends}
use Rattle.std.proofs.lemmas.List.{take_all}
use Rattle.sqlite.specs.Store.{Ghosts}
use Rattle.sqlite.specs.Held.{Held}
use Rattle.store_tables.specs.Content.{Content}
use Rattle.table_audit.specs.FileMark.{ReportsMark}
use Rattle.table_audit.specs.Looking.{HoldsRows, HoldsTables, OnlyLooks}
use Rattle.table_audit.specs.Polls.{ReportsTables as ReportsFindings}
use Rattle.table_audit.specs.JsonTexts.{with_json}
use Rattle.table_audit.specs.Texts.{with_findings}
use Rattle.table_audit.specs.declared.findings.Findings.{Findings}
use Rattle.table_audit.proofs.Looking.{holds_on}
use Rattle.table_seals.specs.Checking.{IsAsSealed, ReportsTables as ReportsChecked}
use Rattle.table_seals.specs.Reading.{IsSealText}
use Rattle.table_seals.specs.Sealed.{SealedTables}
use Rattle.table_seals.specs.Texts.{seal_text, checked_text}
use Rattle.table_seals.specs.declared.checks.Checked.{Checked}
use Rattle.std.specs.declared.alloc.Global.{Global}
use Rattle.table_seals.specs.Filing.{FilesMeters}
use Rattle.table_seals.specs.Joins.{after_next, joins_after, known_as, known_of}
use Rattle.table_seals.specs.JoinTexts.{joined_text, lines_of, texts_of}
use Rattle.table_seals.specs.declared.filed.FiledMeter.{FiledMeter}
use Rattle.table_seals.specs.declared.joining.Joining.{Joining}
use Rattle.file_commands.specs.JoinedAudits.{are_apart, AuditsPath, AuditsPaths, AuditsSeveral, EndsSeveral, FindsDifferent, FindsJoined, JoinsNext}
use Rattle.command_words.specs.declared.line.Sealing.{Sealing}
use Rattle.command_words.specs.declared.line.Sealing.TheVariants.{Nothing, Json, Print, Against}
use Rattle.stored_files.specs.declared.audits.AuditFault.{AuditFault}
use Rattle.stored_files.specs.declared.ends.ending.Ending.{Ending}
use Rattle.stored_files.specs.declared.ends.ending.Ending.TheVariants.{Fine, Refused, Wrong, NoText, NoZone, NoDay, Backward, NoSeal, Twice, Failed}
use Rattle.stored_files.specs.declared.ends.failure.Failure.{Failure}
use Rattle.file_commands.specs.Audits.{Audits, AuditsAs, AuditsFile, AuditsTables, EndsAudit, FindsNone, PrintsChecked, PrintsFindings, PrintsJson, PrintsSeal, ending_of_audit, findings_text}

-- If a call only reads the tables of a database, then the tables have the same rows after the call.
module _ {S : Type 0} (g : Ghosts S) where
  rows_of : (h : Held S) (content : Content) → HoldsTables g h content → HoldsRows g h content
  unfolding HoldsRows HoldsTables
  rows_of h content holds clean is_open = let t = holds clean is_open in record { rows = t.rows; apart = t.apart }

  pub rows_on : (old new : Held S) (content : Content) → OnlyLooks g old new → HoldsTables g old content → HoldsRows g new content
  rows_on old new content looks holds = rows_of new content (holds_on g old new content looks holds)

pub on_ok : {A E P : Type 0} (r : Result A E) → P → OnOk r P
on_ok (Ok a) p = p
on_ok (Err e) p = tt

-- If an audit reported its findings, printed them, and returned their verdict, then it satisfies
-- `PrintsFindings`, which states what an audit prints.
pub findings_printed : (content : Content) (findings : Findings) (had holds : Option (List ℕ)) (r : Result Bool AuditFault)
    → ReportsFindings content findings → IfOk r (λ fine. IsTrue fine ↔ (findings.first.items ≡ [])) → OnOk r (Appends had holds (with_findings [] findings))
    → IfOk r (PrintsFindings content had holds)
findings_printed content findings had holds (Ok fine) reported verdict printed = record { findings = findings; reported = reported; printed = printed; verdict = verdict }
findings_printed content findings had holds (Err fault) reported verdict printed = tt

different : (fine : Bool) {P : Type 0} → IsTrue fine ↔ P → ((p : P) → ⊥) → fine ≡ false
different true verdict none = absurd (none (verdict.0 refl))
different false verdict none = refl

-- The findings were printed as JSON, with their verdict.
pub json_printed : (content : Content) (findings : Findings) (had holds : Option (List ℕ)) (r : Result Bool AuditFault)
    → ReportsFindings content findings → IfOk r (λ fine. IsTrue fine ↔ (findings.first.items ≡ [])) → OnOk r (Appends had holds (with_json [] findings))
    → IfOk r (PrintsJson content had holds)
json_printed content findings had holds (Ok fine) reported verdict printed = record { findings = findings; reported = reported; printed = printed; verdict = verdict }
json_printed content findings had holds (Err fault) reported verdict printed = tt

to_any : (seal : Sealing) (content : Content) (findings : Findings) (had holds : Option (List ℕ)) (fine : Bool) → ReportsFindings content findings
    → (IsTrue fine ↔ (findings.first.items ≡ [])) → Appends had holds (findings_text seal findings) → fine ≡ false → Audits content seal had holds fine
to_any Nothing content findings had holds fine reported verdict printed differ = record { findings = findings; reported = reported; printed = printed; verdict = verdict }
to_any Json content findings had holds fine reported verdict printed differ = record { findings = findings; reported = reported; printed = printed; verdict = verdict }
to_any Print content findings had holds fine reported verdict printed differ =
    inl (record { findings = findings; reported = reported; printed = printed; verdict = verdict }, differ)
to_any (Against text) content findings had holds fine reported verdict printed differ =
    inl (record { findings = findings; reported = reported; printed = printed; verdict = verdict }, differ)

-- Suppose that an audit found a difference between a file's tables and those that the program would
-- write, and printed its findings. Then it satisfies the contract `Audits` (what an audit prints),
-- whether or not a seal (digest) was requested.
pub differences_printed : (seal : Sealing) (content : Content) (findings : Findings) (had holds : Option (List ℕ)) (r : Result Bool AuditFault)
    → ReportsFindings content findings → ((none : findings.first.items ≡ []) → ⊥)
    → IfOk r (λ fine. IsTrue fine ↔ (findings.first.items ≡ [])) → OnOk r (Appends had holds (findings_text seal findings))
    → IfOk r (Audits content seal had holds)
differences_printed seal content findings had holds (Ok fine) reported some verdict printed =
    to_any seal content findings had holds fine reported verdict printed (different fine verdict some)
differences_printed seal content findings had holds (Err fault) reported some verdict printed = tt

-- If an audit compared a database file with a seal (digests of the records of a file at one time),
-- it printed the result of the comparison, unless it failed.
pub checked_printed : (content : Content) (text : List ℕ) (checked : Checked) (had holds : Option (List ℕ)) (r : Result Bool AuditFault)
    → ((seal : SealedTables) × IsSealText seal text × ReportsChecked seal content checked)
    → IfOk r (λ fine. IsTrue fine ↔ IsAsSealed checked) → OnOk r (Appends had holds (checked_text checked))
    → IfOk r (PrintsChecked content text had holds)
checked_printed content text checked had holds (Ok fine) seal verdict printed =
    record { seal = seal.0; is_text = seal.1; checked = checked; reported = seal.2; printed = printed; verdict = verdict }
checked_printed content text checked had holds (Err fault) seal verdict printed = tt

pub seal_audited : (content : Content) (had holds : Option (List ℕ)) (r : Result Bool AuditFault) → FindsNone content
    → IfOk r (PrintsSeal content had holds) → IfOk r (Audits content Print had holds)
seal_audited content had holds (Ok fine) none printed = inr (none, printed)
seal_audited content had holds (Err fault) none printed = tt

pub checked_audited : (content : Content) (text : Bor (List ℕ)) (had holds : Option (List ℕ)) (r : Result Bool AuditFault) → FindsNone content
    → IfOk r (PrintsChecked content text.now had holds) → IfOk r (Audits content (Against text) had holds)
checked_audited content text had holds (Ok fine) none printed = inr (none, printed)
checked_audited content text had holds (Err fault) none printed = tt

pub tables_audited : (content : Content) (seal : Sealing) (had holds : Option (List ℕ)) (r : Result Bool AuditFault) → ReportsMark content true
    → IfOk r (Audits content seal had holds) → IfOk r (AuditsTables content seal had holds)
tables_audited content seal had holds (Ok fine) marked audits = record { marked = marked; audits = audits }
tables_audited content seal had holds (Err fault) marked audits = tt

pub both_true : (a b : Bool) → a ≡ true → b ≡ true → true ≡ (a && b)
both_true true true p q = refl
both_true true false p q = sym q
both_true false b p q = sym p

-- Suppose that a file is compared with the earlier files, and a line is added for each difference
-- (in the time zone, or in a meter that does not continue). Then the contract `JoinsNext` of this
-- comparison is satisfied.
pub joined : (file : List ℕ) (content : Content) (meters : Vec FiledMeter Global) (zone : List ℕ) (old new : Joining) (r : Result (Unit {0}) AuditFault)
    → FilesMeters file content (Some meters)
    → OnOk r (texts_of new.lines.items ≡ texts_of old.lines.items ++ lines_of (joins_after (option_map known_of old.known) (known_as file zone meters.items)))
    → OnOk r (option_map known_of new.known ≡ Some (after_next (option_map known_of old.known) (known_as file zone meters.items)))
    → OnOk r (JoinsNext file content old new)
joined file content meters zone old new (Ok done) filed lines known = record { meters = meters; filed = filed; zone = zone; lines = lines; known = known }
joined file content meters zone old new (Err fault) filed lines known = tt

-- Lemmas: the command `audit` of one database file ends as its contract states.
module _ {S : Type 0} (g : Ghosts S) (path : List ℕ) (had holds : Option (List ℕ)) where
  module _ (opens : List ℕ → Held S → Type 0) where
    pub ends_plainly : (r : Result Bool Failure) → IfOk r (AuditsFile g opens path Nothing had holds) → EndsAudit g opens path Nothing had holds (ending_of_audit r)
    ends_plainly (Ok true) audits = audits
    ends_plainly (Ok false) audits = audits
    ends_plainly (Err failure) audits = tt

    pub ends_as_json : (r : Result Bool Failure) → IfOk r (AuditsFile g opens path Json had holds) → EndsAudit g opens path Json had holds (ending_of_audit r)
    ends_as_json (Ok true) audits = audits
    ends_as_json (Ok false) audits = audits
    ends_as_json (Err failure) audits = tt

    pub ends_sealed : (r : Result Bool Failure) → IfOk r (AuditsFile g opens path Print had holds) → EndsAudit g opens path Print had holds (ending_of_audit r)
    ends_sealed (Ok true) audits = audits
    ends_sealed (Ok false) audits = audits
    ends_sealed (Err failure) audits = tt

    pub ends_against : (file text : Bor (List ℕ)) (r : Result Bool Failure) → IfOk r (AuditsFile g opens path (Against text) had holds)
        → EndsAudit g opens path (Against file) had holds (ending_of_audit r)
    ends_against file text (Ok true) audits = record { text = text; audits = audits }
    ends_against file text (Ok false) audits = record { text = text; audits = audits }
    ends_against file text (Err failure) audits = tt

  -- Suppose that every connection that satisfies the condition `some` also satisfies the condition
  -- `all`. Then an audit of a file whose connection satisfies `some` is also an audit of one whose
  -- connection satisfies `all`.
  module _ (some all : List ℕ → Held S → Type 0) (to_all : (p : List ℕ) (h : Held S) → some p h → all p h) where
    pub file_of : (seal : Sealing) (fine : Bool) → AuditsFile g some path seal had holds fine → AuditsFile g all path seal had holds fine
    file_of seal fine it = record { opened = it.opened; is_opened = to_all path it.opened it.is_opened; audits = it.audits }

    as_of : (seal : Sealing) (fine : Bool) → AuditsAs g some path seal had holds fine → AuditsAs g all path seal had holds fine
    as_of Nothing fine it = file_of Nothing fine it
    as_of Json fine it = file_of Json fine it
    as_of Print fine it = file_of Print fine it
    as_of (Against file) fine it = record { text = it.text; audits = file_of (Against it.text) fine it.audits }

    pub ends_of : (seal : Sealing) (ending : Ending) → EndsAudit g some path seal had holds ending → EndsAudit g all path seal had holds ending
    ends_of seal Fine it = as_of seal true it
    ends_of seal Refused it = as_of seal false it
    ends_of seal (Wrong text) it = tt
    ends_of seal NoText it = tt
    ends_of seal (NoZone zone) it = tt
    ends_of seal (NoDay option word) it = tt
    ends_of seal Backward it = tt
    ends_of seal (NoSeal file) it = tt
    ends_of seal (Twice file) it = tt
    ends_of seal (Failed failure) it = tt

-- Lemmas: the audit of several database files prints what its contract states, and ends as this
-- contract states.
module _ {S : Type 0} (g : Ghosts S) where
  -- Suppose that no audited file differs from what the program would write, and the differences
  -- between the files (such as a meter that does not continue) were printed. Then the contract
  -- `AuditsSeveral` of the audit is satisfied.
  pub several_joined : (opens : List ℕ → Held S → Type 0) (paths : List (Bor (List ℕ))) (none all : Joining) (had printed holds : Option (List ℕ)) (r : Result Bool Failure)
      → none.known ≡ None → none.lines.items ≡ [] → AuditsPaths g opens paths true none all had printed true
      → IfOk r (λ joined. IsTrue joined ↔ (all.lines.items ≡ [])) → OnOk r (Appends printed holds (joined_text all.lines.items))
      → IfOk r (AuditsSeveral g opens paths had holds)
  several_joined opens paths none all had printed holds (Ok true) unknown nothing audits verdict lines =
      record { none = none; unknown = unknown; nothing = nothing; all = all; printed = printed; audits = audits; lines = lines; verdict = verdict }
  several_joined opens paths none all had printed holds (Ok false) unknown nothing audits verdict lines =
      inl (record { none = none; unknown = unknown; nothing = nothing; all = all; printed = printed; audits = audits; lines = lines; verdict = verdict })
  several_joined opens paths none all had printed holds (Err failure) unknown nothing audits verdict lines = tt

  module _ (some all : List ℕ → Held S → Type 0) (to_all : (p : List ℕ) (h : Held S) → some p h → all p h) where
    path_of : (path : List ℕ) (so_far : Bool) (old new : Joining) (had holds : Option (List ℕ)) (fine : Bool)
        → AuditsPath g some path so_far old new had holds fine → AuditsPath g all path so_far old new had holds fine
    path_of path so_far old new had holds fine it =
        record { named = it.named; name = it.name; opened = it.opened; is_opened = to_all path it.opened it.is_opened; left = it.left; audits = it.audits }

    paths_of : (paths : List (Bor (List ℕ))) (so_far : Bool) (old new : Joining) (had holds : Option (List ℕ)) (fine : Bool)
        → AuditsPaths g some paths so_far old new had holds fine → AuditsPaths g all paths so_far old new had holds fine
    paths_of [] so_far old new had holds fine it = it
    paths_of (path ∷ paths) so_far old new had holds fine it =
        (it.0, it.1, it.2, path_of path.now so_far old it.0 had it.1 it.2 it.3, paths_of paths it.2 it.0 new it.1 holds fine it.4)

    joined_of : (paths : List (Bor (List ℕ))) (had holds : Option (List ℕ)) (joined : Bool) → FindsJoined g some paths had holds joined → FindsJoined g all paths had holds joined
    joined_of paths had holds joined it =
        record { none = it.none; unknown = it.unknown; nothing = it.nothing; all = it.all; printed = it.printed; audits = paths_of paths true it.none it.all had it.printed true it.audits; lines = it.lines; verdict = it.verdict }

    different_of : (paths : List (Bor (List ℕ))) (had holds : Option (List ℕ)) → FindsDifferent g some paths had holds → FindsDifferent g all paths had holds
    different_of paths had holds it = record { none = it.none; all = it.all; audits = paths_of paths true it.none it.all had holds false it.audits }

    either_of : (paths : List (Bor (List ℕ))) (had holds : Option (List ℕ)) → AuditsSeveral g some paths had holds false → AuditsSeveral g all paths had holds false
    either_of paths had holds (inl it) = inl (joined_of paths had holds false it)
    either_of paths had holds (inr it) = inr (different_of paths had holds it)

    pub ends_several : (paths : List (Bor (List ℕ))) (had holds : Option (List ℕ)) (r : Result Bool Failure) → IfOk r (AuditsSeveral g some paths had holds)
        → EndsSeveral g all paths had holds (ending_of_audit r)
    ends_several paths had holds (Ok true) it = joined_of paths had holds true it
    ends_several paths had holds (Ok false) it = either_of paths had holds it
    ends_several paths had holds (Err failure) it = tt

  pub paths_audited : (opens : List ℕ → Held S → Type 0) (paths : List (Bor (List ℕ))) (other : Bor (List ℕ)) (so_far passed : Bool) (old next new : Joining) (had printed holds : Option (List ℕ))
      (r : Result Bool Failure) → 1 ≤ length paths → AuditsPath g opens (get_or paths 0 other).now so_far old next had printed passed
      → IfOk r (AuditsPaths g opens (take (length paths - 1) (drop 1 paths)) passed next new printed holds) → IfOk r (AuditsPaths g opens paths so_far old new had holds)
  paths_audited opens [] other so_far passed old next new had printed holds r some one rest = absurd (omega (arith, some))
  paths_audited opens (path ∷ paths) other so_far passed old next new had printed holds (Ok fine) some one rest =
      (next, printed, passed, one, subst (λ ps. AuditsPaths g opens ps passed next new printed holds fine) (take_all (length (path ∷ paths) - 1) paths (omega arith)) rest)
  paths_audited opens (path ∷ paths) other so_far passed old next new had printed holds (Err failure) some one rest = tt

-- Suppose that the first path of a list does not occur again. Then the list has a repeated path if
-- and only if the list without its first path has one.
pub apart_more : (paths : List (Bor (List ℕ))) (other : Bor (List ℕ)) (b : Bool) (r : Option (Bor (List ℕ))) → 1 ≤ length paths
    → b ≡ list_any (λ (o : Bor (List ℕ)). bytes_eq o.now (get_or paths 0 other).now) (take (length paths - 1) (drop 1 paths)) → b ≡ false
    → MatchOption r (are_apart (take (length paths - 1) (drop 1 paths)) ≡ true) (λ path. are_apart (take (length paths - 1) (drop 1 paths)) ≡ false)
    → MatchOption r (are_apart paths ≡ true) (λ path. are_apart paths ≡ false)
apart_more [] other b r some is none later = absurd (omega (arith, some))
apart_more (path ∷ paths) other b r some is none later =
    let rest : take (length (path ∷ paths) - 1) paths ≡ paths = take_all (length (path ∷ paths) - 1) paths (omega arith) in
    let none_left : list_any (λ (o : Bor (List ℕ)). bytes_eq o.now path.now) (take (length (path ∷ paths) - 1) paths) ≡ false = sym is ∙ none in
    let first : list_any (λ (o : Bor (List ℕ)). bytes_eq o.now path.now) paths ≡ false =
    subst (λ (ps : List (Bor (List ℕ))). list_any (λ (o : Bor (List ℕ)). bytes_eq o.now path.now) ps ≡ false) rest none_left in
    let same : are_apart (path ∷ paths) ≡ are_apart paths = ap (λ (it : Bool). not it && are_apart paths) first in
    by r (subst (λ (ps : List (Bor (List ℕ))). MatchOption r (are_apart ps ≡ true) (λ p. are_apart ps ≡ false)) rest later) same
  where
    by : (r : Option (Bor (List ℕ))) {a c : Bool} → MatchOption r (a ≡ true) (λ p. a ≡ false) → c ≡ a → MatchOption r (c ≡ true) (λ p. c ≡ false)
    by None it same = same ∙ it
    by (Some p) it same = same ∙ it
