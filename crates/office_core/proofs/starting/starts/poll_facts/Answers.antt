use Rattle.std.proofs.Common.{◌+◌, ◌++◌, List, map, arith, refl, sym, ap, ◌∙◌}
use Rattle.std.proofs.lemmas.List.{append-nil}
use Rattle.poll_core.specs.Settling as session
use Rattle.office_books.specs.Sessions.{Send, start_by}
use Rattle.office_books.specs.History.{poll_by}
use Rattle.office_core.proofs.StartingLemmas.Sending.{begin, further, id_after, polls_after, send_at}
use Rattle.office_core.proofs.starting.starts.poll_facts.Goals as goal

pub loop-i-init : goal.loop-i-init
loop-i-init c = λ events keeps. (
  begin c.args.number c.args.moment c.args.device.now events c.args.spans.now,
  c.ready-id.ensures.id ∙ keeps.stands.next ∙ ap session.next_id (sym (append-nil events)),
  c.new-facts.ensures.items,
)

pub loop-i-preserved : goal.loop-i-preserved
loop-i-preserved c = λ events keeps.
    let before = c.loop-i.invariant events keeps in
    let so = before.0 in
    let n = c.count_on-i-end.ensures.count c.args.number c.args.moment events keeps in
    let more =
    further c.args.number c.args.moment c.args.device.now events c.args.spans.now c.loop-i.i c.index-spans-i.result c.index-spans-i.is so
    (omega (arith, c.loop-i-test.true, n)) (omega (arith, c.loop-i-test.true, c.count_on-i-end.ensures.inside)) in
    let here : List session.Event = events ++ map (start_by c.args.moment c.args.device.now) so.made in
    let send : Send = send_at c.args.number c.loop-i.i here c.index-spans-i.result in (
      more.so_far,
      id_after c.args.moment c.args.device.now events so.made send c.loop-i.id _ before.1 refl
          ∙ ap (λ (made : List Send). session.next_id (events ++ map (start_by c.args.moment c.args.device.now) made)) (sym more.is),
      polls_after c.args.moment (c.args.number + c.loop-i.i) c.loop-i.id c.args.device.now here c.index-spans-i.result so.made c.loop-i.facts.items _
          c.in_ok-push.ensures.items before.2 before.1
          ∙ ap (map (poll_by c.args.moment c.args.device.now)) (sym more.is),
    )
