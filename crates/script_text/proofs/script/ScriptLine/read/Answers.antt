use Rattle.std.proofs.Common.{refl, sym, ◌∙◌}
use Rattle.script_text.specs.LineWords.Words.{words_of}
use Rattle.script_text.proofs.FormsRead.{is_line, no_line, some_line}
use Rattle.script_text.proofs.script.ScriptLine.read.Goals as goal

pub returns-in-Some : goal.returns-in-Some
returns-in-Some c = is_line (words_of c.args.line.now) c.in-Some.said (sym c.in-Ok.ensures.value ∙ c.in-Some.is)

pub returns-in-None : goal.returns-in-None
returns-in-None c = no_line (words_of c.args.line.now) (sym c.in-Ok.ensures.value ∙ c.in-None.is)

pub returns-in-Err : goal.returns-in-Err
returns-in-Err c = some_line (words_of c.args.line.now) (c.in-Err.ensures.memory refl)
