use Rattle.std.proofs.Common.{List, ℕ, Bool, ap, sym, ◌∙◌}
use Rattle.script_text.specs.LineWords.Words.{words_of}
use Rattle.office_program.specs.Entering.ReadLines.{may_end, read_said}
use Rattle.office_program.proofs.EnteringLemmas.ReadWords.{may_not, no_read, read_so}
use Rattle.office_program.proofs.entering.read_line.read_in.Goals as goal

pub returns-then-may_end : goal.returns-then-may_end
returns-then-may_end c =
    read_so c.args.line.now c.in-Some.read (c.in-Some.ensures ∙ ap (λ (t : List ℕ). read_said (words_of t)) c.unmarked.ensures)
    (sym (ap (λ (b : Bool). may_end b c.in-Some.read) c.is_marked.ensures.marked) ∙ sym c.may_end.ensures ∙ c.if-may_end.true)

pub returns-else-may_end : goal.returns-else-may_end
returns-else-may_end c =
    may_not c.args.line.now c.in-Some.read (c.in-Some.ensures ∙ ap (λ (t : List ℕ). read_said (words_of t)) c.unmarked.ensures)
    (sym (ap (λ (b : Bool). may_end b c.in-Some.read) c.is_marked.ensures.marked) ∙ sym c.may_end.ensures ∙ c.if-may_end.false)

pub returns-in-None : goal.returns-in-None
returns-in-None c = no_read c.args.line.now (c.in-None.ensures ∙ ap (λ (t : List ℕ). read_said (words_of t)) c.unmarked.ensures)
