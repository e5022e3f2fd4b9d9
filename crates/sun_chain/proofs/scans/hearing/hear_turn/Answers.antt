use Rattle.sun_chain.specs.Scanning.Answers.{ask_of}
use Rattle.sun_chain.proofs.ScanLemmas.Settles.{kept_idle, turn_idle}
use Rattle.sun_chain.proofs.scans.hearing.hear_turn.Goals as goal

pub returns-in-Ok-Idle-clause-heard : goal.returns-in-Ok-Idle-clause-heard
returns-in-Ok-Idle-clause-heard g c =
    turn_idle (ask_of c.args.attempt.now) (g.L.Link.remaining c.args.link.now) (g.L.Link.remaining c.take.new.self) c.args.reader.now.rest c.requires
    (kept_idle (g.L.Link.remaining c.args.link.now) (g.L.Link.remaining c.take.new.self) c.take.new.piece c.in-Ok-Idle.field-0 c.in-Ok-Idle.ensures.bytes c.in-Ok-Idle.field-0-is)
