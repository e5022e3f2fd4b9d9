use Rattle.std.proofs.Common.{sym, ap, ◌∙◌}
use Rattle.std.specs.Option.{is_some}
use Rattle.poll_core.proofs.Streams.{OneReading}
use Rattle.poll_core.proofs.Settles.{piece_owed, piece_dropped, piece_framed, piece_ended, some_case, none_case}
use Rattle.poll_core.specs.Inside.{state_of}
use Rattle.poll_core.proofs.inner.Inner.next.Goals as goal

pub returns-in-Some-clause-reported : goal.returns-in-Some-clause-reported
returns-in-Some-clause-reported c = piece_owed (state_of c.args.self.now) _ _ c.in-Some.taken c.args.piece.now c.in-Some.ensures.reported

pub returns-then-is_some-clause-reported : goal.returns-then-is_some-clause-reported
returns-then-is_some-clause-reported c =
    let one : OneReading = record { exists = c.one_reading.ensures.exists; only = c.one_reading.ensures.only } in
    let over = some_case _ (sym c.is_some.ensures ∙ c.if-is_some.true) in
    piece_dropped one (state_of c.args.self.now) _ over.0 _ c.args.piece.now over.1 c.in_default.ensures.reported

pub returns-in-Some-poll-clause-reported : goal.returns-in-Some-poll-clause-reported
returns-in-Some-poll-clause-reported c =
    let one : OneReading = record { exists = c.one_reading.ensures.exists; only = c.one_reading.ensures.only } in
    let going = none_case _ (sym c.is_some.ensures ∙ c.if-is_some.false) in
    let found = rw c.in-Some-poll.is at c.feed_until-found.ensures.found in
    let clean = c.feed_until-found.ensures.clean (ap is_some c.in-Some-poll.is) in
    piece_framed one (state_of c.args.self.now) _ _ c.args.piece.now _ _ _ c.in-Some-poll.poll _ going c.in_default.ensures.reported found c.feed_until-found.ensures.garbled clean

pub returns-clause-reported : goal.returns-clause-reported
returns-clause-reported c =
    let one : OneReading = record { exists = c.one_reading.ensures.exists; only = c.one_reading.ensures.only } in
    let going = none_case _ (sym c.is_some.ensures ∙ c.if-is_some.false) in
    let found = rw c.in_default-poll.is at c.feed_until-found.ensures.found in
    rw c.call_while-self.ensures
    (piece_ended one (state_of c.args.self.now) c.args.moment c.feed_until-found.result.taken c.taken_if-taken.result c.args.piece.now c.feed_until-found.new.reader _ _ _ c.feed_until-found.result.is_garbled _ _ going c.in_default.ensures.reported found c.feed_until-found.ensures.garbled c.ending_if-self.ensures c.take_owed-lost.ensures.reported c.feed_until-found.ensures.taken (c.feed_until-found.ensures.all c.in_default-poll.is) c.taken_if-taken.ensures)
