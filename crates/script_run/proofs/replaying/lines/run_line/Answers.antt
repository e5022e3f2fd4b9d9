use Rattle.script_text.specs.Forms.{IsLine}
use Rattle.script_text.specs.declared.script.ScriptLine.{ScriptLine}
use Rattle.script_text.specs.LineWords.Words.{words_of}
use Rattle.script_run.proofs.ReplayingLemmas.Scripts.{bad_broken, line_broken, line_ran}
use Rattle.script_run.proofs.replaying.lines.run_line.Goals as goal

pub returns-in-Ok-carry_out : goal.returns-in-Ok-carry_out
returns-in-Ok-carry_out g c = λ past stands.
    line_ran past _ c.in-Ok.said c.args.office.now c.carry_out.new.office tt _ _ c.in-Ok.ensures.is (c.in-Ok-carry_out.ensures past stands)

pub returns-in-Err : goal.returns-in-Err
returns-in-Err g c = λ past stands.
    line_broken past _ c.in-Ok.said c.args.office.now c.carry_out.new.office _ _ _ c.in-Ok.ensures.is (c.in-Err.ensures past stands)

pub returns-in-Err-write_bad_line : goal.returns-in-Err-write_bad_line
returns-in-Err-write_bad_line g c = λ past stands.
    let none : (said : ScriptLine) → IsLine (words_of c.args.line.now) said → ⊥ = rw c.in-Err-Bad.field-0-is at c.in-Err-Bad.ensures in
    bad_broken past _ c.args.office.now _ _ none c.in-Err-write_bad_line.ensures
