-- The request that an input line makes.
--
-- An input line is a line of a script (a text of commands), whose first word is the request's
-- number instead of a timestamp. The line may end with the mark ` !`, which confirms an entry by
-- hand, or name the file of a point list.
use Rattle.std.specs.Prelude.{◌≡◌, ◌≢◌, ◌⊎◌, ℕ, ℤ, Bool, true, false, List, [], ◌∷◌, ◌++◌, Option, Some, None, Result, Ok, Err, if◌then◌else◌}
use Rattle.point_list.specs.Lists.{SpellsList, list_faults, rows_read}
use Rattle.read_plan.specs.PlannedLists.{IsPlanned, Planned}
use Rattle.office_events.specs.declared.commands.Command.{Command}
use Rattle.office_events.specs.declared.commands.Command.TheVariants as command
use Rattle.office_events.specs.declared.events.Asked.{Asked}
use Rattle.office_events.specs.declared.events.Event.{Event}
use Rattle.office_events.specs.declared.events.Event.TheVariants as event
use Rattle.office_events.specs.declared.facts.Device.{Device}
use Rattle.office_events.specs.declared.facts.Register.{Register}
use Rattle.script_text.specs.Forms.{IsLine}
use Rattle.script_text.specs.LineWords.Words.{words_of}
use Rattle.script_text.specs.Seen.{IsOnly}
use Rattle.script_text.specs.declared.line_fault.LineFault.{LineFault}
use Rattle.script_text.specs.declared.line_fault.LineFault.TheVariants.{Bad, Memory}
use Rattle.script_text.specs.declared.script.GivenList.{GivenList}
use Rattle.script_text.specs.declared.script.ScriptLine.{ScriptLine}
use Rattle.script_text.specs.declared.script.ScriptLine.TheVariants as line
use Rattle.office_program.specs.declared.entering.wanted.Wanted.{Wanted}
use Rattle.office_program.specs.declared.entering.wanted.Wanted.TheVariants as wanted
use Rattle.office_program.specs.declared.entering.entries.Entry.{Entry}
use Rattle.office_program.specs.declared.entering.entries.Entry.TheVariants.{Ask, Faulty, Read}
use Rattle.office_program.specs.declared.entering.files.NamedFiles as surroundings
use Rattle.office_program.specs.declared.entering.files.Shown.{Shown}
use Rattle.office_program.specs.declared.entering.read_line.ReadLine.{ReadLine}
use Rattle.office_program.specs.declared.entering.read_line.ReadRequest.{ReadRequest}
use Rattle.office_program.specs.Entering.FileLines.{FileLine, IsFileLine, IsNoFileLine}
use Rattle.office_program.specs.Entering.Marks.{is_marked, unmarked}
use Rattle.office_program.specs.Entering.ReadLines.{IsNoRead, IsRead, asked_at}

-- The possible results of reading files and counters: for a file its bytes or `None`, and for an
-- accounting register's counter its reading or `None`.
pub record Reporting : Type 1 where
  pub files : List ℕ → Option (List ℕ) → Type 0
  pub counters : Device → Register → Option Shown → Type 0

-- The possible results of reading files and counters, for an implementation of the trait
-- `NamedFiles` (a reader of the files and counters that an input names).
abbrev pub reporting_of : {F : Type 0} → surroundings.Ghosts F → F → Reporting
reporting_of f files = record { files = f.reports files; counters = f.shows files }

-- The request in a line of a script (a text of commands). The line has the request's number instead
-- of a timestamp.

-- True if the command is allowed in an input line. Only commands that start polls are not allowed.
abbrev pub is_request : Command → Bool
is_request (command.StartPoll c) = false
is_request (command.StartRound c) = false
is_request _ = true

-- True if the command makes an entry by hand.
abbrev pub is_by_hand : Command → Bool
is_by_hand (command.Exchange c) = true
is_by_hand (command.Reset c) = true
is_by_hand (command.Rescale c) = true
is_by_hand (command.Manual c) = true
is_by_hand (command.Close c) = true
is_by_hand _ = false

-- True if the command is allowed in an input line. The mark ` !` confirms an entry by hand, so only
-- such an entry is allowed in a line with the mark.
abbrev pub can_be_asked : (marked : Bool) → Command → Bool
can_be_asked marked c = if marked then is_by_hand c else is_request c

-- The request in a line with the given command: the command with the request's number, or `Nothing`
-- if the command is not allowed in the line.
abbrev pub wanted_by : (marked : Bool) → (number : ℕ) → Command → Wanted
wanted_by marked number c =
    if can_be_asked marked c then wanted.Command number c else wanted.Nothing

-- The request of an input line that has an event. It is the event's command, or `Nothing` for an
-- event of a device or for a command that the line may not have.
abbrev pub wanted_of : (marked : Bool) → (number : ℕ) → Event → Wanted
wanted_of marked number (event.Command c) = wanted_by marked number c
wanted_of marked number _ = wanted.Nothing

-- The request in a line with a point list. The request is the list, or `Nothing` if the line has
-- the mark ` !`, which can only confirm an entry by hand.
abbrev pub wanted_list : (marked : Bool) → (number : ℕ) → GivenList → Wanted
wanted_list marked number list = if marked then wanted.Nothing else wanted.List number list

-- The request in a line of a script (a text of commands). The line has the request's number instead
-- of a timestamp.
abbrev pub wanted_in : (marked : Bool) → ScriptLine → Wanted
wanted_in marked (line.Event number e) = wanted_of marked number e
wanted_in marked (line.List number list) = wanted_list marked number list
wanted_in marked _ = wanted.Nothing

-- The next definitions give the parsed form of an input line: a request, a request that needs a
-- counter's reading, or faulty rows.

-- The request for the given command, with the caller, the number, and the bytes of the request that
-- the store keeps.
abbrev pub asked_by : (caller : Option (List ℕ)) → (number : ℕ) → (request : List ℕ) → Command
    → Asked
asked_by caller number request c =
    record { caller = caller; number = number; request = request; command = c }

-- True if the text spells the point list `list`, and the list's plan has the Modbus reads that
-- cover the list's points.
pub record IsListOf (text : List ℕ) (list : Planned) : Type 0 where
  pub points : SpellsList text list.points
  pub planned : IsPlanned list

-- The command that stores a point list (the points to poll) for a device.
abbrev pub append_by : (device : Option (List ℕ)) → Planned → Command
append_by device list = command.PutList (record { device = device; list = list })

-- True if `entry` is the parsed form of an input line with the point list `text`: a request for
-- this list, or the list's faulty rows.
abbrev pub IsListEntry : (caller : Option (List ℕ)) → (number : ℕ) → (device : Option (List ℕ))
    → (text request : List ℕ) → Entry → Type 0
IsListEntry caller number device text request (Ask asked) =
    (list : Planned) × IsListOf text list
    × (asked ≡ asked_by caller number request (append_by device list))
IsListEntry caller number device text request (Faulty rows) =
    (list_faults (rows_read text) ≢ []) × (rows ≡ list_faults (rows_read text))
IsListEntry caller number device text request (Read read) = ⊥

-- True if `entry` is the parsed form of an input line with this request. The store keeps the line's
-- bytes, including the mark ` !`, which confirms an entry by hand.
abbrev pub IsWantedEntry : (caller : Option (List ℕ)) → (text : List ℕ) → Wanted → Entry → Type 0
IsWantedEntry caller text (wanted.Command number c) entry =
    entry ≡ Ask (asked_by caller number text c)
IsWantedEntry caller text (wanted.List number list) entry =
    IsListEntry caller number list.device list.text text entry
IsWantedEntry caller text wanted.Nothing entry = ⊥

-- True if `entry` is the parsed form of an input line that is a line of a script (a text of
-- commands).
pub record IsScriptEntry (caller : Option (List ℕ)) (text : List ℕ) (entry : Entry) : Type 0 where
  pub said : ScriptLine
  pub is : IsOnly (words_of (unmarked text)) said
  pub comes : IsWantedEntry caller text (wanted_in (is_marked text) said) entry

-- The bytes that the store keeps for an input line that names a file: the line, a line feed (10),
-- and the bytes of the file.
abbrev pub file_request : (text bytes : List ℕ) → List ℕ
file_request text bytes = text ++ 10 ∷ bytes

-- True if the line names the file of a point list, the file exists, and `entry` is the parsed form
-- of the line.
pub record IsFileEntry (reports : Reporting) (caller : Option (List ℕ)) (text : List ℕ) (entry : Entry)
    : Type 0 where
  pub line : FileLine
  pub is : IsFileLine (words_of text) line
  pub bytes : List ℕ
  pub reported : reports.files line.name (Some bytes)
  pub comes : IsListEntry caller line.number line.device bytes (file_request text bytes) entry

-- True if `entry` is the parsed form of a line with `@read`, a placeholder for the counter's
-- present reading. The store keeps the line without the reading, so that a retry matches at any
-- reading.
pub record IsReadEntry (caller : Option (List ℕ)) (text : List ℕ) (entry : Entry) : Type 0 where
  pub line : ReadLine
  pub is : IsRead text line
  pub comes : entry ≡ Read (record { caller = caller; request = text; line = line })

-- True if `entry` is the parsed form of the input line. The line is of one of three kinds. It names
-- the file of a point list, or has `@read` (a placeholder for the counter's reading, which is read
-- later). Otherwise it is a line of a script (a text of commands).
abbrev pub IsEntry : Reporting → (caller : Option (List ℕ)) → (text : List ℕ) → Entry → Type 0
IsEntry reports caller text entry =
    IsFileEntry reports caller text entry
    ⊎ (IsNoFileLine (words_of text)
    × (IsReadEntry caller text entry ⊎ (IsNoRead text × IsScriptEntry caller text entry)))

-- True if a parsed line can make the given request. A line with `@read` (the placeholder for a
-- reading) makes one request with the reading of a counter. Any reading is allowed here, because
-- the counter is read later.
abbrev pub MayAsk : Entry → Asked → Type 0
MayAsk (Ask asked) request = request ≡ asked
MayAsk (Read read) request = (raw : ℕ) × (sf : ℤ) × (request ≡ asked_at read raw sf)
MayAsk (Faulty rows) request = ⊥

-- True if the input line names a file that does not exist.
abbrev pub LacksFile : Reporting → (text : List ℕ) → Type 0
LacksFile reports text =
    (named : FileLine) × IsFileLine (words_of text) named × reports.files named.name None

-- True if the text is no line of a script (a text of commands) that makes a request.
abbrev pub IsNoRequest : (text : List ℕ) → Type 0
IsNoRequest text = (said : ScriptLine) → IsLine (words_of (unmarked text)) said
    → wanted_in (is_marked text) said ≡ wanted.Nothing

-- True if the line is bad. A bad line names a file that does not exist, or has none of the three
-- forms of an input line. These are a line that names a file, a line with `@read` (a reading's
-- placeholder), and a line of a script (a text of commands) with a request.
abbrev pub IsBad : Reporting → (text : List ℕ) → Type 0
IsBad reports text =
    LacksFile reports text ⊎ (IsNoFileLine (words_of text) × IsNoRead text × IsNoRequest text)

-- The next definitions give the result of parsing an input line. They state nothing about the line
-- if memory ran out.

-- States that an `Ok` result is the parsed form of a line of a script (a text of commands), and
-- that a result `Bad` means a line without a request. States nothing if memory ran out.
abbrev pub ReadsWanted : (caller : Option (List ℕ)) → (text : List ℕ) → Wanted
    → Result Entry LineFault → Type 0
ReadsWanted caller text want (Ok entry) = IsWantedEntry caller text want entry
ReadsWanted caller text want (Err Bad) = want ≡ wanted.Nothing
ReadsWanted caller text want (Err Memory) = Unit {0}

-- States that an `Ok` result is the parsed form of the input line with the point list `text`. An
-- error can only be `Memory` (out of memory), never `Bad` (no such line).
abbrev pub ReadsList : (caller : Option (List ℕ)) → (number : ℕ) → (device : Option (List ℕ))
    → (text request : List ℕ) → Result Entry LineFault → Type 0
ReadsList caller number device text request (Ok entry) =
    IsListEntry caller number device text request entry
ReadsList caller number device text request (Err Bad) = ⊥
ReadsList caller number device text request (Err Memory) = Unit {0}

-- States that an `Ok` result is the parsed form of a line of a script (a text of commands), and
-- that a result `Bad` means a line without a request.
abbrev pub ReadsScript : (caller : Option (List ℕ)) → (text : List ℕ) → Result Entry LineFault
    → Type 0
ReadsScript caller text (Ok entry) = IsScriptEntry caller text entry
ReadsScript caller text (Err Bad) = IsNoRequest text
ReadsScript caller text (Err Memory) = Unit {0}

-- States that an `Ok` result is the parsed form of the line with `@read` (the reading's
-- placeholder), and that the result is not `Bad`.
abbrev pub ReadsCounter : (caller : Option (List ℕ)) → (text : List ℕ) → ReadLine
    → Result Entry LineFault → Type 0
ReadsCounter caller text line (Ok entry) =
    entry ≡ Read (record { caller = caller; request = text; line = line })
ReadsCounter caller text line (Err Bad) = ⊥
ReadsCounter caller text line (Err Memory) = Unit {0}

-- States that an `Ok` result is the parsed form of a line that names no file. If the result is
-- `Bad`, the line has no `@read` and makes no request of a script (a text of commands).
abbrev pub ReadsUnnamed : (caller : Option (List ℕ)) → (text : List ℕ) → Result Entry LineFault
    → Type 0
ReadsUnnamed caller text (Ok entry) =
    IsReadEntry caller text entry ⊎ (IsNoRead text × IsScriptEntry caller text entry)
ReadsUnnamed caller text (Err Bad) = IsNoRead text × IsNoRequest text
ReadsUnnamed caller text (Err Memory) = Unit {0}

-- States that an `Ok` result is the parsed form of a line that names a file. If the result is
-- `Bad`, the file does not exist.
abbrev pub ReadsFile : Reporting → (caller : Option (List ℕ)) → (text : List ℕ) → FileLine
    → Result Entry LineFault → Type 0
ReadsFile reports caller text named (Ok entry) =
    (bytes : List ℕ) × reports.files named.name (Some bytes)
    × IsListEntry caller named.number named.device bytes (file_request text bytes) entry
ReadsFile reports caller text named (Err Bad) = reports.files named.name None
ReadsFile reports caller text named (Err Memory) = Unit {0}

-- States that an `Ok` result of parsing an input line is the line's parsed form. If the result is
-- `Bad`, the line has no permitted form, or names a missing file. States nothing if memory ran out.
abbrev pub ReadsEntry : Reporting → (caller : Option (List ℕ)) → (text : List ℕ)
    → Result Entry LineFault → Type 0
ReadsEntry reports caller text (Ok entry) = IsEntry reports caller text entry
ReadsEntry reports caller text (Err Bad) = IsBad reports text
ReadsEntry reports caller text (Err Memory) = Unit {0}
