use Rattle.std.proofs.Common.{◌∙◌}
use Rattle.script_text.proofs.Chosen.{found_meaning}
use Rattle.script_text.proofs.line_words.meanings.meaning_in.Goals as goal

pub returns : goal.returns
returns g c = c.found_in.ensures ∙ found_meaning c.args.table.now c.args.word.now
