use Rattle.std.proofs.Common.{Some, ap, sym, ◌∙◌}
use Rattle.mb_wire.specs.Reader.{spelled}
use Rattle.sun_chain.specs.Scanning.Answers.{ask_of}
use Rattle.sun_chain.proofs.ScanLemmas.Settles.{same_held}
use Rattle.sun_chain.proofs.scans.hearing.settle_by_held_frame.Goals as goal

pub returns : goal.returns
returns c =
    ap Some c.in_ok-answer.ensures
    ∙ sym (same_held (ask_of c.args.attempt.now) c.args.reader.now.frame (spelled c.in-Some.frame) c.in-Some.ensures c.requires c.if-frame-attempt.false)
