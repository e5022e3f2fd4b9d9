use Rattle.script_text.proofs.HexText.{filled}
use Rattle.script_text.proofs.parts.write_digits.Goals as goal

pub returns : goal.returns
returns c = filled c.encode_to_slice.result _ (c.encode_to_slice.ensures.fits.1 c.requires) c.encode_to_slice.ensures.written
