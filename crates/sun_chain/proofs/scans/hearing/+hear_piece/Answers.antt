use Rattle.std.proofs.Common.{◌≡◌, ◌++◌, List, ℕ, ap, sym, subst, ◌∙◌}
use Rattle.mb_wire.specs.Frames.{IsBad, frames, rest}
use Rattle.sun_chain.specs.Scanning.Answers.{ask_of, first_of, frames_held, seen, settled}
use Rattle.sun_chain.proofs.ScanLemmas.Framing.{from, garbled_rest, need_rest, piece_rest}
use Rattle.sun_chain.proofs.ScanLemmas.Settles.{heard_piece, if_ok_then, need_settles, piece_settles}
use Rattle.sun_chain.proofs.scans.hearing.+hear_piece.Goals as goal

pub returns-in-Need-clause-heard : goal.returns-in-Need-clause-heard
returns-in-Need-clause-heard t c =
    c.in-Ok.ensures
    ∙ ap (first_of (seen c.args.heard))
    (need_settles (ask_of c.args.attempt.now) c.feed-fed.result.what c.args.reader.now.rest c.args.piece.now c.feed-fed.result.taken c.feed-fed.new.self c.feed-fed.ensures.reports c.feed-fed.ensures.after c.in-Need.is (c.feed-fed.ensures.need c.in-Need.is))

pub returns-in-Need-clause-rest : goal.returns-in-Need-clause-rest
returns-in-Need-clause-rest t c =
    (need_rest c.feed-fed.result.what c.args.reader.now.rest c.args.piece.now c.feed-fed.result.taken c.feed-fed.new.self c.feed-fed.ensures.reports c.feed-fed.ensures.after c.in-Need.is (c.feed-fed.ensures.need c.in-Need.is)).0

pub returns-in-Garbled-clause-garbled : goal.returns-in-Garbled-clause-garbled
returns-in-Garbled-clause-garbled t c = λ garbled.
    garbled_rest c.feed-fed.result.what c.args.reader.now.rest c.args.piece.now c.feed-fed.result.taken c.feed-fed.ensures.reports c.in-Garbled.is

pub returns-in-Whole-clause-heard : goal.returns-in-Whole-clause-heard
returns-in-Whole-clause-heard t c =
    let ask = ask_of c.args.attempt.now in
    let left = from c.feed-fed.result.taken c.args.piece.now in
    let buffered = c.feed-fed.new.self in
    if_ok_then
    (λ later. seen later ≡ first_of (seen c.in-Ok.later) (settled ask (frames (buffered.rest ++ left))))
    (λ later. seen later ≡ first_of (seen c.args.heard) (settled ask (frames (c.args.reader.now.rest ++ c.args.piece.now))))
    c.hear_piece.result
    c.hear_piece.ensures.heard
    (λ later reports.
    heard_piece (seen c.args.heard) (seen c.in-Ok.later) (settled ask (frames_held buffered.frame)) (settled ask (frames (buffered.rest ++ left))) (seen later) c.in-Ok.ensures reports
    ∙ ap (first_of (seen c.args.heard))
    (sym (piece_settles ask c.feed-fed.result.what c.args.reader.now.rest c.args.piece.now c.feed-fed.result.taken buffered c.feed-fed.ensures.reports c.feed-fed.ensures.after)))

pub returns-in-Whole-clause-rest : goal.returns-in-Whole-clause-rest
returns-in-Whole-clause-rest t c =
    let left = from c.feed-fed.result.taken c.args.piece.now in
    let buffered = c.feed-fed.new.self in
    if_ok_then
    (λ later. c.hear_piece.new.reader.rest ≡ rest (buffered.rest ++ left))
    (λ later. c.hear_piece.new.reader.rest ≡ rest (c.args.reader.now.rest ++ c.args.piece.now))
    c.hear_piece.result
    c.hear_piece.ensures.rest
    (λ later reads.
    reads ∙ sym (piece_rest c.feed-fed.result.what c.args.reader.now.rest c.args.piece.now c.feed-fed.result.taken buffered c.feed-fed.ensures.reports c.feed-fed.ensures.after))

pub returns-in-Whole-clause-garbled : goal.returns-in-Whole-clause-garbled
returns-in-Whole-clause-garbled t c = λ garbled.
    subst (λ (y : List ℕ). IsBad y)
    (sym (piece_rest c.feed-fed.result.what c.args.reader.now.rest c.args.piece.now c.feed-fed.result.taken c.feed-fed.new.self c.feed-fed.ensures.reports c.feed-fed.ensures.after))
    (c.hear_piece.ensures.garbled garbled)
