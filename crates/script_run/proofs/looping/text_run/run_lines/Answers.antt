use Rattle.command_io.specs.Lines.{seen_line, speaking_lines}
use Rattle.script_text.specs.LineWords.Words.{words_of}
use Rattle.script_run.specs.Looping.Lines.{AreWrong, WordsPrint}
use Rattle.script_run.specs.Looping.Standings.{loop_state, stage_on}
use Rattle.script_run.proofs.LoopingLemmas.Carrying.{line_done, line_wrong}
use Rattle.script_run.proofs.LoopingLemmas.Loops.{broken, ended, from_start, one_more, stopped}
use Rattle.script_run.proofs.looping.text_run.run_lines.Goals as goal

pub loop-line-init : goal.loop-line-init
loop-line-init g c = λ past stands.
    from_start past (speaking_lines c.args.text.now) c.new-lines.result
    (loop_state c.args.run.now.office c.args.run.now.bank c.args.run.now.connected (g.W.Write.contents c.args.output.now)) c.new-lines.ensures stands

pub loop-line-preserved : goal.loop-line-preserved
loop-line-preserved g c = λ past stands.
    let ran = c.loop-line.invariant past stands in
    let line = seen_line c.in-Some.line in
    let before = c.loop-line.run in
    let after = c.run_line.new.run in
    let here = loop_state before.office before.bank before.connected (g.W.Write.contents c.loop-line.output) in
    let there = loop_state after.office after.bank after.connected (g.W.Write.contents c.run_line.new.output) in
    one_more _ (speaking_lines c.args.text.now) c.loop-line.lines c.next_line.new.self line _ here there c.in-Some.ensures ran
    (line_done c.in-Ok.fine (WordsPrint (words_of line.text)) (AreWrong before.connected (words_of line.text)) here there c.if-not-fine.false
    c.in-Ok.ensures ran.past ran.stands)

pub returns-then-not-fine : goal.returns-then-not-fine
returns-then-not-fine g c = λ past stands.
    let ran = c.loop-line.invariant past stands in
    let line = seen_line c.in-Some.line in
    let before = c.loop-line.run in
    let after = c.run_line.new.run in
    let here = loop_state before.office before.bank before.connected (g.W.Write.contents c.loop-line.output) in
    let there = loop_state after.office after.bank after.connected (g.W.Write.contents c.run_line.new.output) in
    stopped c.print_bad_line.result past (speaking_lines c.args.text.now) c.loop-line.lines c.next_line.new.self line
    (loop_state c.args.run.now.office c.args.run.now.bank c.args.run.now.connected (g.W.Write.contents c.args.output.now)) here
    (g.W.Write.contents c.run_line.new.output) (g.W.Write.contents c.print_bad_line.new.output) c.in-Some.ensures
    (line_wrong c.in-Ok.fine (WordsPrint (words_of line.text)) (AreWrong before.connected (words_of line.text)) here there c.if-not-fine.true
    c.in-Ok.ensures)
    c.print_bad_line.ensures ran

pub returns : goal.returns
returns g c = λ past stands.
    let ran = c.loop-line.invariant past stands in
    (ran.printed, ran.appended, ended _ _ c.loop-line.lines _ _ c.in_default.ensures.0 ran)

pub returns-in-Err : goal.returns-in-Err
returns-in-Err g c = λ past stands.
    let ran = c.loop-line.invariant past stands in
    let before = c.loop-line.run in
    let here = loop_state before.office before.bank before.connected (g.W.Write.contents c.loop-line.output) in
    broken past (speaking_lines c.args.text.now) c.loop-line.lines c.next_line.new.self (seen_line c.in-Some.line)
    (loop_state c.args.run.now.office c.args.run.now.bank c.args.run.now.connected (g.W.Write.contents c.args.output.now)) here
    (g.W.Write.contents c.run_line.new.output) c.in-Some.ensures ran (c.in-Err.ensures ran.past ran.stands)
