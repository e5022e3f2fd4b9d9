use Rattle.std.proofs.Common.{length, refl, arith}
use Rattle.sun_chain.proofs.Splices.{cell-splice}
use Rattle.sun_chain.proofs.image.Image.overwrite.Goals as goal

pub returns : goal.returns
returns c at =
    rw (c.copy_at.ensures, c.mark_at.ensures) (cell-splice c.args.self.now.read.items c.args.self.now.words.items c.args.words.now c.args.start (length c.args.words.now) _ c.args.words.now at (omega (arith, c.args.self.now.read.ok.0)) (omega (arith, c.args.self.now.read.ok.0, c.args.self.now.words.ok.0, c.args.self.now.sized)) refl refl refl)
