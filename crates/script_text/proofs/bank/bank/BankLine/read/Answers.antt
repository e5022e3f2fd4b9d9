use Rattle.script_text.specs.LineWords.Words.{words_of}
use Rattle.script_text.proofs.BankLemmas.FormsRead.{reads_bank}
use Rattle.script_text.proofs.bank.bank.BankLine.read.Goals as goal

pub returns : goal.returns
returns c = reads_bank (words_of c.args.line.now) c.line_in.result c.line_in.ensures
