use Rattle.std.proofs.Common.{◌≡◌, sym, ap, ◌∙◌, arith, false}
use Rattle.std.specs.List.{list_any}
use Rattle.poll_core.specs.Polls.{has_id}
use Rattle.poll_core.specs.Inside.{state_of}
use Rattle.poll_core.proofs.Settles.{none_case}
use Rattle.poll_core.proofs.Starts.{starts, apart_push, any_none, nothing_reported}
use Rattle.poll_core.proofs.inner.Inner.start.Goals as goal

pub returns-clause-sound : goal.returns-clause-sound
returns-clause-sound c =
    let sound = c.requires.sound in
    let any : list_any (has_id c.args.self.now.next) c.args.self.now.polls.items ≡ false = ap (list_any (has_id c.args.self.now.next)) (sym c.as_slice.ensures.value) ∙ sym c.has_poll.ensures ∙ c.if-has_poll.false in
    record {
      window = sound.window;
      timeout = sound.timeout;
      room = omega (arith, c.push.ensures.len, c.len.ensures.value);
      apart = rw (c.push.ensures.items, c.new.ensures) (apart_push _ _ sound.apart (any_none (has_id c.args.self.now.next) c.args.self.now.polls.items any));
    }

pub returns-clause-started : goal.returns-clause-started
returns-clause-started c = λ events h.
    let going = none_case _ (sym c.is_some.ensures ∙ c.if-is_some.false) in
    (rw c.push.ensures.items (starts (state_of c.args.self.now) events c.args.moment c.args.poll c.args.unit _ _ h going c.new.ensures), nothing_reported _ events _ _ _ _)
