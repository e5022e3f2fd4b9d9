use Rattle.script_text.proofs.Got.{got_this}
use Rattle.script_text.proofs.parts.write_piece.Goals as goal

pub returns : goal.returns
returns g c = got_this c.write_text.result _ _ _ _ c.write_digits.ensures c.write_text.ensures
