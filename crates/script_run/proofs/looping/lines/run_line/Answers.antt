use Rattle.std.proofs.Common.{inl, inr}
use Rattle.std.proofs.KnownBytes.{Appends-nil}
use Rattle.script_text.specs.LineWords.Words.{words_of}
use Rattle.script_run.specs.Looping.Lines.{AreWrong, BankPrints, MayNotStand, SaidPrints, SaysBytes, WordsPrint}
use Rattle.script_run.proofs.LoopingLemmas.Carrying.{runs_as}
use Rattle.script_run.proofs.looping.lines.run_line.Goals as goal

pub returns-in-Some : goal.returns-in-Some
returns-in-Some g c =
    let words = words_of c.args.line.now in
    let said = c.in-Some.said in
    let connected = c.args.run.now.connected in
    runs_as c.run_bank_line.result (BankPrints said) (WordsPrint words) (MayNotStand connected said) (AreWrong connected words) _ _
    (λ now printed next prints. inl (said, c.in-Some.ensures.0, prints))
    (λ wrong. inl (said, c.in-Some.ensures.0, wrong))
    c.run_bank_line.ensures

pub returns-in-Ok : goal.returns-in-Ok
returns-in-Ok g c =
    let words = words_of c.args.line.now in
    let said = c.in-Ok.said in
    runs_as c.run_script_line.result (SaidPrints said) (WordsPrint words) (SaysBytes said) (AreWrong c.args.run.now.connected words) _ _
    (λ now printed next prints. inr (c.in-None.ensures, said, c.in-Ok.ensures.is, prints))
    (λ bytes. inr (c.in-None.ensures, inr (said, c.in-Ok.ensures.is, bytes)))
    c.run_script_line.ensures

pub returns-in-Err-Memory : goal.returns-in-Err-Memory
returns-in-Err-Memory g c = λ past stands. inl (Appends-nil _)
