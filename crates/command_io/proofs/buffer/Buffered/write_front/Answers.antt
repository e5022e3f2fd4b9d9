use Rattle.std.proofs.Common.{◌++◌, take, sym, ap, ◌∙◌, rules, take-append-drop}
use Rattle.std.proofs.KnownBytes.{append_known-moved}
use Rattle.command_io.proofs.Held.{front_of}
use Rattle.command_io.proofs.buffer.Buffered.write_front.Goals as goal

pub returns-in-Ok-clause-bytes : goal.returns-in-Ok-clause-bytes
returns-in-Ok-clause-bytes g c =
    let buffered = take c.args.self.now.filled c.args.self.now.buffered in
    let n = c.in-Ok.count in
    rw c.drop_front.ensures.output (append_known-moved _ _ (take n buffered) _ buffered
    (front_of c.args.end c.args.self.now.filled c.args.self.now.buffered n c.requires.within (search rules) c.in-Ok.ensures.bound _ _ c.in-Ok.ensures.bytes)
    (sym (take-append-drop n buffered) ∙ ap (λ rest. take n buffered ++ rest) (sym c.drop_front.ensures.rest)))
