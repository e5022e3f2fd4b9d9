use Rattle.std.proofs.Common.{ℕ, ◌≤◌, ◌++◌, List, map, length, arith, sym, ap, subst, ◌∙◌}
use Rattle.std.proofs.lemmas.List.{append-nil}
use Rattle.poll_core.specs.Settling as session
use Rattle.poll_core.specs.Standing.{last_moment}
use Rattle.office_books.specs.Sessions.{Send, start_by}
use Rattle.std.specs.List.{flat_map}
use Rattle.office_books.specs.Notes.{frame_of}
use Rattle.mb_wire.specs.Spans.{span_view, request_of}
use Rattle.mb_wire.specs.Requests.{request_bytes}
use Rattle.mb_wire.specs.Reader.{spelling}
use Rattle.office_core.specs.Sessions.Keeping.{KeepsSession}
use Rattle.office_core.proofs.StartingLemmas.Sending.{begin, further, last_more, frames_after, send_at, keeps_after, room_after}
use Rattle.office_core.proofs.starting.starts.start_each.Goals as goal

pub loop-i-init : goal.loop-i-init
loop-i-init c = record {
  sends = λ events keeps before. (
    begin c.args.number c.args.moment c.args.device.now events c.args.spans.now,
    subst (KeepsSession c.args.device.now c.args.kept.now) (sym (append-nil events)) keeps,
    subst (λ (es : List session.Event). last_moment es ≤ c.args.moment) (sym (append-nil events)) before,
    c.none-outgoing.ensures,
  );
  room = omega (arith, ap length c.none-outgoing.ensures);
  rests = c.requires.rests;
}

pub loop-i-preserved : goal.loop-i-preserved
loop-i-preserved c = record {
  sends = λ events keeps before.
      let then = c.loop-i.invariant.sends events keeps before in
      let so = then.0 in
      let kept = then.1 in
      let n = c.count_on-i-end.ensures.count c.args.number c.args.moment events keeps in
      let more =
      further c.args.number c.args.moment c.args.device.now events c.args.spans.now c.loop-i.i c.index-spans-i.result c.index-spans-i.is so
      (omega (arith, c.loop-i-test.true, n)) (omega (arith, c.loop-i-test.true, c.count_on-i-end.ensures.inside)) in
      let here : List session.Event = events ++ map (start_by c.args.moment c.args.device.now) so.made in
      let send : Send = send_at c.args.number c.loop-i.i here c.index-spans-i.result in (
        more.so_far,
        subst (λ (made : List Send). KeepsSession c.args.device.now c.start.new.self (events ++ map (start_by c.args.moment c.args.device.now) made)) (sym more.is)
            (keeps_after c.args.moment c.args.device.now events so.made send c.loop-i.kept c.start.new.self kept c.start.ensures.terms
            (c.in-Ok.ensures.started here kept.stands).0),
        subst (λ (made : List Send). last_moment (events ++ map (start_by c.args.moment c.args.device.now) made) ≤ c.args.moment) (sym more.is)
            (last_more c.args.moment c.args.device.now events so.made send),
        c.add.ensures ∙ frames_after c.args.device.now so.made send c.loop-i.outgoing _ then.3
            (c.in-Ok.ensures.written ∙ ap (λ (id : ℕ). spelling id c.args.device.now.unit (request_bytes (request_of (span_view c.index-spans-i.result)))) kept.stands.next)
            ∙ ap (flat_map (frame_of c.args.device.now)) (sym more.is),
      );
  room = room_after c.loop-i.i c.in-Ok.len c.loop-i.outgoing c.start.new.out c.add.new.self c.loop-i.invariant.room c.in-Ok.ensures.size c.start.array_long c.add.ensures;
  rests = c.start.ensures.rests;
}
