-- Proofs that parsing an input line returns the request, the point list or the faulty rows that the
-- specification gives for the line.
use Rattle.std.proofs.Common.{◌≡◌, inl, inr, ℕ, List, Option, Some, Result, Ok, Err, refl, sym, ap, subst, ◌∙◌}
use Rattle.point_list.specs.Lists.{AreFaults, ExplainsList, SpellsList, list_faults, rows_read}
use Rattle.point_list.specs.declared.fault.FaultyRow.{FaultyRow}
use Rattle.point_list.specs.declared.fault.ListFault.{ListFault}
use Rattle.point_list.specs.declared.fault.ListFault.TheVariants.{Faults}
use Rattle.point_list.specs.declared.point.ListedPoint.{ListedPoint}
use Rattle.read_plan.specs.PlannedLists.{IsPlanned, Planned}
use Rattle.office_events.specs.declared.commands.Command.{Command}
use Rattle.script_text.specs.LineWords.Words.{words_of}
use Rattle.script_text.specs.Seen.{IsOnly, Reads}
use Rattle.script_text.specs.declared.line_fault.LineFault.{LineFault}
use Rattle.script_text.specs.declared.line_fault.LineFault.TheVariants.{Bad, Memory}
use Rattle.script_text.specs.declared.script.GivenList.{GivenList}
use Rattle.script_text.specs.declared.script.ScriptLine.{ScriptLine}
use Rattle.office_program.specs.declared.entering.entries.Entry.{Entry}
use Rattle.office_program.specs.declared.entering.entries.Entry.TheVariants.{Ask, Faulty}
use Rattle.office_program.specs.declared.entering.wanted.Wanted.{Wanted}
use Rattle.office_program.specs.declared.entering.wanted.Wanted.TheVariants as wanted
use Rattle.office_program.specs.Entering.FileLines.{FileLine, IsFileLine, IsNoFileLine}
use Rattle.office_program.specs.Entering.Marks.{is_marked, unmarked}
use Rattle.office_program.specs.declared.entering.read_line.ReadLine.{ReadLine}
use Rattle.office_program.specs.Entering.ReadLines.{IsNoRead, IsRead}
use Rattle.office_program.specs.Entering.Lines.{IsWantedEntry, ReadsCounter, ReadsEntry, ReadsFile, ReadsList, ReadsScript, ReadsUnnamed, ReadsWanted, Reporting, asked_by, file_request, append_by, wanted_in}

-- If an input line has a command, then its request has this command. The request also has the
-- line's bytes, which the store keeps.
pub command_wanted : (caller : Option (List ℕ)) (text kept : List ℕ) (number : ℕ) (c : Command) (want : Wanted) → want ≡ wanted.Command number c → kept ≡ text
    → ReadsWanted caller text want (Ok (Ask (asked_by caller number kept c)))
command_wanted caller text kept number c want is same = rw is (ap (λ bytes. Ask (asked_by caller number bytes c)) same)

list_reads : (caller : Option (List ℕ)) (text : List ℕ) (number : ℕ) (list : GivenList) (result : Result Entry LineFault)
    → ReadsList caller number list.device list.text text result → ReadsWanted caller text (wanted.List number list) result
list_reads caller text number list (Ok entry) reads = reads
list_reads caller text number list (Err Bad) reads = absurd reads
list_reads caller text number list (Err Memory) reads = tt

-- If an input line has a point list (the points to poll), then its request has this list. The
-- request also has the line's bytes, which the store keeps.
pub list_wanted : (caller : Option (List ℕ)) (text kept bytes : List ℕ) (number : ℕ) (list : GivenList) (want : Wanted) (result : Result Entry LineFault)
    → want ≡ wanted.List number list → kept ≡ text → bytes ≡ list.text → ReadsList caller number list.device bytes kept result
    → ReadsWanted caller text want result
list_wanted caller text kept bytes number list want result is same its reads =
    let P : List ℕ → Type 0 = λ t. ReadsList caller number list.device bytes t result in
    let Q : List ℕ → Type 0 = λ b. ReadsList caller number list.device b text result in
    rw is (list_reads caller text number list result (subst Q its (subst P same reads)))

-- If an input line is a line of a script (the text of commands that `sunreg` reads), then its
-- parsed form is the request in the line.
pub script_reads : (caller : Option (List ℕ)) (text : List ℕ) (said : ScriptLine) (want : Wanted) (result : Result Entry LineFault)
    → want ≡ wanted_in (is_marked text) said → IsOnly (words_of (unmarked text)) said → ReadsWanted caller text want result → ReadsScript caller text result
script_reads caller text said want (Ok entry) is only reads = record {
  said = said;
  is = only;
  comes = subst (λ (w : Wanted). IsWantedEntry caller text w entry) is reads;
}
script_reads caller text said want (Err Bad) is only reads =
    λ other line. ap (wanted_in (is_marked text)) (only.only other line) ∙ sym is ∙ reads
script_reads caller text said want (Err Memory) is only reads = tt

-- If an input line can't be parsed as a line of a script (a text of commands), then the line makes
-- no request of a script.
pub no_script : (caller : Option (List ℕ)) (text : List ℕ) (fault : LineFault) → (let r : Result ScriptLine LineFault = Err fault in Reads (words_of (unmarked text)) r)
    → ReadsScript caller text (Err fault)
no_script caller text Bad reads = λ said line. absurd (reads said line)
no_script caller text Memory reads = tt

-- If an input line names a file, then the line's parsed form has the point list in the file.
pub file_reads : (reports : Reporting) (caller : Option (List ℕ)) (text bytes : List ℕ) (named : FileLine) (result : Result Entry LineFault)
    → reports.files named.name (Some bytes) → ReadsList caller named.number named.device bytes (file_request text bytes) result
    → ReadsFile reports caller text named result
file_reads reports caller text bytes named (Ok entry) reported reads = (bytes, reported, reads)
file_reads reports caller text bytes named (Err Bad) reported reads = absurd reads
file_reads reports caller text bytes named (Err Memory) reported reads = tt

-- If an input line names a file, then the parser returns the request with the file's point list.
-- Otherwise it parses the line as a line without a file.
pub named_reads : (reports : Reporting) (caller : Option (List ℕ)) (text : List ℕ) (named : FileLine) (result : Result Entry LineFault)
    → IsFileLine (words_of text) named → ReadsFile reports caller text named result → ReadsEntry reports caller text result
named_reads reports caller text named (Ok entry) is reads =
    inl (record { line = named; is = is; bytes = reads.0; reported = reads.1; comes = reads.2 })
named_reads reports caller text named (Err Bad) is reads = inl (named, is, reads)
named_reads reports caller text named (Err Memory) is reads = tt

pub unnamed_reads : (reports : Reporting) (caller : Option (List ℕ)) (text : List ℕ) (result : Result Entry LineFault)
    → IsNoFileLine (words_of text) → ReadsUnnamed caller text result → ReadsEntry reports caller text result
unnamed_reads reports caller text (Ok entry) none reads = inr (none, reads)
unnamed_reads reports caller text (Err Bad) none reads = inr (none, reads.0, reads.1)
unnamed_reads reports caller text (Err Memory) none reads = tt

-- If an input line has `@read`, the placeholder that a reading of the counter replaces, then the
-- parser returns the line's parsed form. Any other line that names no file is parsed as a line of a
-- script (a text of commands).
pub counter_reads : (caller : Option (List ℕ)) (text : List ℕ) (line : ReadLine) (result : Result Entry LineFault) → IsRead text line
    → ReadsCounter caller text line result → ReadsUnnamed caller text result
counter_reads caller text line (Ok entry) is reads = inl (record { line = line; is = is; comes = reads })
counter_reads caller text line (Err Bad) is reads = absurd reads
counter_reads caller text line (Err Memory) is reads = tt

pub script_reads_on : (caller : Option (List ℕ)) (text : List ℕ) (result : Result Entry LineFault) → IsNoRead text → ReadsScript caller text result
    → ReadsUnnamed caller text result
script_reads_on caller text (Ok entry) none reads = inr (none, reads)
script_reads_on caller text (Err Bad) none reads = (none, reads)
script_reads_on caller text (Err Memory) none reads = tt

-- If a point list (the points to poll) was parsed and its Modbus reads were planned, its input line
-- requests to store this list.
pub list_read : (caller : Option (List ℕ)) (number : ℕ) (device : Option (List ℕ)) (text request : List ℕ) (points : List ListedPoint) (planned : Planned)
    → SpellsList text points → planned.points ≡ points → IsPlanned planned
    → ReadsList caller number device text request (Ok (Ask (asked_by caller number request (append_by device planned))))
list_read caller number device text request points planned spells same is =
    (planned, record { points = subst (SpellsList text) (sym same) spells; planned = is }, refl)

-- If a point list (the points to poll) could not be parsed, then the parsed form of its input line
-- has the list's faulty rows.
pub list_faulty : (caller : Option (List ℕ)) (number : ℕ) (device : Option (List ℕ)) (text request : List ℕ) (fault : ListFault) (reported : List FaultyRow)
    → fault ≡ Faults reported → ExplainsList (list_faults (rows_read text)) fault → ReadsList caller number device text request (Ok (Faulty reported))
list_faulty caller number device text request fault reported is explains =
    let are : AreFaults (list_faults (rows_read text)) reported = subst (ExplainsList (list_faults (rows_read text))) is explains in
    ((λ none. are.1 (are.0 ∙ none)), are.0)
