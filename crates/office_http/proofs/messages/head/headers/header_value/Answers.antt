use Rattle.std.proofs.Common.{◌∙◌, ◌+◌, map, take, sym, subst}
use Rattle.httparse.specs.Spans.{header_bytes}
use Rattle.office_http.specs.Messages.Head.Headers.{Gives, values_of}
use Rattle.office_http.proofs.MessagesLemmas.HeadLemmas.Naming.{more_given, none_given}
use Rattle.office_http.proofs.messages.head.headers.header_value.Goals as goal
use Rattle.office_http.proofs.messages.head.headers.header_value.Goals.{then-same_name, else-same_name}

pub loop-header-preserved : goal.loop-header-preserved
loop-header-preserved c =
    elim c.if-same_name.branch [
      | then-same_name w ↦
          let same = sym c.same_name.ensures ∙ w.if-same_name.true in
          let more = more_given c.args.name.now c.args.bytes.now c.args.headers.now c.loop-header.header-index _ _ _ c.loop-header-test.true c.of.ensures same w.of-then-same_name.ensures in
          subst (λ g. Gives g (values_of c.args.name.now (map (header_bytes c.args.bytes.now) (take (c.loop-header.header-index + 1) c.args.headers.now)))) (sym w.found-is)
          (subst (Gives w.one_more-found.result) (sym more) (w.one_more-found.ensures _ c.loop-header.invariant))
      | else-same_name w ↦
          let other = sym c.same_name.ensures ∙ w.if-same_name.false in
          let same = none_given c.args.name.now c.args.bytes.now c.args.headers.now c.loop-header.header-index _ _ c.loop-header-test.true c.of.ensures other in
          subst (λ g. Gives g (values_of c.args.name.now (map (header_bytes c.args.bytes.now) (take (c.loop-header.header-index + 1) c.args.headers.now)))) (sym w.found-is)
          (subst (Gives c.loop-header.found) (sym same) c.loop-header.invariant)
    ]
