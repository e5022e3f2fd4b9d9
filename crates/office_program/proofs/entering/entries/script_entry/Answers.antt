use Rattle.std.proofs.Common.{Bool, Err, List, ℕ, Result, ap, subst, ◌∙◌}
use Rattle.script_text.specs.LineWords.Words.{words_of}
use Rattle.script_text.specs.Seen.{IsOnly, Reads}
use Rattle.script_text.specs.declared.line_fault.LineFault.{LineFault}
use Rattle.script_text.specs.declared.script.ScriptLine.{ScriptLine}
use Rattle.office_program.specs.Entering.Lines.{wanted_in}
use Rattle.office_program.proofs.EnteringLemmas.Entries.{no_script, script_reads}
use Rattle.office_program.proofs.entering.entries.script_entry.Goals as goal

pub returns-in-Ok : goal.returns-in-Ok
returns-in-Ok c =
    let P : List ℕ → Type 0 = λ text. IsOnly (words_of text) c.in-Ok.said in
    script_reads c.args.caller c.args.line.now c.in-Ok.said c.wanted_in.result c.wanted_entry.result
    (c.wanted_in.ensures ∙ ap (λ (marked : Bool). wanted_in marked c.in-Ok.said) c.is_marked.ensures.marked) (subst P c.unmarked.ensures c.in-Ok.ensures)
    c.wanted_entry.ensures

pub returns-in-Err : goal.returns-in-Err
returns-in-Err c =
    let P : List ℕ → Type 0 = λ text. let r : Result ScriptLine LineFault = Err c.in-Err.fault in Reads (words_of text) r in
    no_script c.args.caller c.args.line.now c.in-Err.fault (subst P c.unmarked.ensures c.in-Err.ensures)
