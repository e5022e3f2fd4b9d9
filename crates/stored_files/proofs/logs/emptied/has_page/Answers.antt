use Rattle.std.proofs.Common.{◌+◌, length, sym, ◌∙◌, arith, rules}
use Rattle.stored_files.proofs.LogFrames.{taken_within, frame_at-le}
use Rattle.stored_files.proofs.LogPages.{page_here, page_elsewhere}
use Rattle.stored_files.proofs.logs.emptied.has_page.Goals.{then-pages-i, else-pages-i}
use Rattle.stored_files.proofs.logs.emptied.has_page.Goals as goal

pub content_in-page-requires-clause-within : goal.content_in-page-requires-clause-within
content_in-page-requires-clause-within c =
    let all = taken_within c.args.page_size c.args.log.now _ c.requires.room c.requires.taken.0 in
    let low = frame_at-le c.args.page_size (c.loop-i.i + 1) (length c.args.pages.now) (omega (arith, c.loop-i-test.true)) in search (rules, all, low)

pub loop-i-preserved : goal.loop-i-preserved
loop-i-preserved c =
    let named = c.requires.taken.1 c.loop-i.i c.loop-i-test.true in
    elim c.if-pages-i.branch [
      | then-pages-i w ↦
          rw w.page-is (w.content_in-page.ensures
          ∙ sym (page_here c.args.page_size c.args.log.now c.args.db.now c.args.number c.loop-i.i (sym named ∙ w.if-pages-i.true)))
      | else-pages-i w ↦
          rw w.page-is (c.loop-i.invariant
          ∙ sym (page_elsewhere c.args.page_size c.args.log.now c.args.db.now c.args.number c.loop-i.i (λ here. w.if-pages-i.false (named ∙ here))))
    ]
