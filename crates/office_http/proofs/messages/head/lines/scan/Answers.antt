use Rattle.std.proofs.Common.{◌≡◌, ◌∙◌, ◌+◌, length, drop, true, false, sym, ap, subst, arith}
use Rattle.std.specs.Prelude.{slice_range}
use Rattle.office_http.specs.Messages.Head.Lines.{ended_lines, has_head_end, is_empty_line, lines_of_head}
use Rattle.office_http.proofs.MessagesLemmas.HeadLemmas.Counting as counting
use Rattle.office_http.proofs.MessagesLemmas.HeadLemmas.Counting.{count_after}
use Rattle.office_http.proofs.MessagesLemmas.HeadLemmas.Scanning.{ends_after, feed_empty, feed_text, text_on}
use Rattle.office_http.proofs.messages.head.lines.scan.Goals as goal
use Rattle.office_http.proofs.messages.head.lines.scan.Goals.{then-byte-eq10, then-is_empty_line+else-text_seen, else-is_empty_line, else-byte-eq10}

pub loop-i-preserved : goal.loop-i-preserved
loop-i-preserved c =
    let bytes = c.args.bytes.now in
    let start = c.loop-i.start in
    let i = c.loop-i.i in
    let here = ended_lines (slice_range bytes start i) (drop i bytes) in
    let tail = ended_lines (slice_range bytes (i + 1) (i + 1)) (drop (i + 1) bytes) in
    elim c.if-byte-eq10.branch [
      | then-byte-eq10 w ↦ elim w.if-is_empty_line.branch [
        | then-is_empty_line+else-text_seen v ↦
            let empty : is_empty_line (slice_range bytes start i) ≡ true = sym w.is_empty_line.ensures ∙ v.if-is_empty_line.true in
            let counted = subst (λ t. c.loop-i.lines + count_after t here ≡ length (lines_of_head bytes)) v.if-text_seen.false c.loop-i.invariant.counted in
            let left = subst (λ t. ends_after t here ≡ has_head_end bytes) v.if-text_seen.false c.loop-i.invariant.left in
            record {
              start = omega arith;
              few = omega (arith, c.loop-i.invariant.few, w.lines-is, v.lines-is);
              counted = rw (w.text_seen-is, w.lines-is, w.start-is, v.text_seen-is, v.lines-is, v.if-text_seen.false) (ap (λ n. c.loop-i.lines + n) (sym (counting.feed_empty bytes start i c.loop-i-test.true w.if-byte-eq10.true empty)) ∙ counted);
              left = rw (w.text_seen-is, w.start-is, v.text_seen-is, v.if-text_seen.false) (sym (feed_empty bytes start i c.loop-i-test.true w.if-byte-eq10.true empty) ∙ left);
            }
        | else-is_empty_line v ↦
            let full : is_empty_line (slice_range bytes start i) ≡ false = sym w.is_empty_line.ensures ∙ v.if-is_empty_line.false in
            let step = counting.feed_text c.loop-i.text_seen bytes start i c.loop-i-test.true w.if-byte-eq10.true full in
            let counted : (c.loop-i.lines + 1) + count_after true tail ≡ length (lines_of_head bytes) = omega (arith, step, c.loop-i.invariant.counted) in
            record {
              start = omega arith;
              few = omega (arith, c.loop-i.invariant.few, w.lines-is, v.lines-is);
              counted = rw (w.text_seen-is, w.lines-is, w.start-is, v.text_seen-is, v.lines-is) counted;
              left = rw (w.text_seen-is, w.start-is, v.text_seen-is) (sym (feed_text c.loop-i.text_seen bytes start i c.loop-i-test.true w.if-byte-eq10.true full) ∙ c.loop-i.invariant.left);
            }
      ]
      | else-byte-eq10 w ↦
          let step = counting.text_on c.loop-i.text_seen bytes start i c.loop-i.invariant.start c.loop-i-test.true w.if-byte-eq10.false in
          record {
            start = omega arith;
            few = omega (arith, c.loop-i.invariant.few, w.lines-is);
            counted = rw (w.text_seen-is, w.lines-is, w.start-is) (ap (λ n. c.loop-i.lines + n) (sym step) ∙ c.loop-i.invariant.counted);
            left = rw (w.text_seen-is, w.start-is) (sym (text_on c.loop-i.text_seen bytes start i c.loop-i.invariant.start c.loop-i-test.true w.if-byte-eq10.false) ∙ c.loop-i.invariant.left);
          }
    ]
