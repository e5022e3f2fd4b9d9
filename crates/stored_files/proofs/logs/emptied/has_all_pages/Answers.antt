use Rattle.std.proofs.Common.{◌≡◌, ◌+◌, ◌-◌, ◌/◌, ◌<◌, length, refl, sym, ◌∙◌, ap, subst, arith, rules}
use Rattle.std.proofs.lemmas.Bool.{false≢true}
use Rattle.sqlite_wal.specs.Recovery.{page_count}
use Rattle.stored_files.specs.Logs.Damage.{KeepsPages}
use Rattle.stored_files.proofs.LogFrames.{taken_within, frame_at-le}
use Rattle.stored_files.proofs.LogPages.{keeps_from, keeps_none, count_behind, kept_count, kept_page}
use Rattle.stored_files.proofs.logs.emptied.has_all_pages.Goals as goal

pub returns-then-is_empty : goal.returns-then-is_empty
returns-then-is_empty c =
    let none : 0 ≡ length c.args.pages.now = grind (arith, c.if-is_empty.ensures) in (
      λ _. subst (KeepsPages c.args.page_size c.args.log.now c.args.db.now) none (keeps_none _ _ _),
      λ _. refl,
    )

pub commit_size_in-count-requires-clause-within : goal.commit_size_in-count-requires-clause-within
commit_size_in-count-requires-clause-within c =
    let some : 0 < length c.args.pages.now = grind (arith, c.if-is_empty.ensures) in
    let all = taken_within c.args.page_size c.args.log.now _ c.requires.room c.requires.taken.0 in
    let low = frame_at-le c.args.page_size (length c.args.pages.now - 1 + 1) (length c.args.pages.now) (omega arith) in
    search (rules, all, low)

pub returns-then-count-db : goal.returns-then-count-db
returns-then-count-db c = (
  λ no'. absurd (false≢true no'),
  λ keeps.
      let some : 0 < length c.args.pages.now = grind (arith, c.if-is_empty.ensures) in
      absurd (c.if-count-db.true (c.commit_size_in-count.ensures ∙ sym (count_behind _ _ _ _ some) ∙ kept_count _ _ _ _ keeps)),
)

pub returns-then-not-has_page : goal.returns-then-not-has_page
returns-then-not-has_page c = (
  λ no'. absurd (false≢true no'),
  λ keeps.
      let some : 0 < length c.args.pages.now = grind (arith, c.if-is_empty.ensures) in
      let count = c.commit_size_in-count.ensures ∙ sym (count_behind c.args.page_size c.args.log.now c.args.db.now _ some) in
      let same = kept_page _ _ _ _ keeps (c.loop-number.number + 1) (omega arith) (omega (arith, count, c.loop-number-test.true)) in
      grind (arith, c.has_page.ensures.1 same, c.if-not-has_page.ensures),
)

pub returns : goal.returns
returns c = (
  λ _.
      let some : 0 < length c.args.pages.now = grind (arith, c.if-is_empty.ensures) in
      let count = count_behind c.args.page_size c.args.log.now c.args.db.now _ some ∙ sym c.commit_size_in-count.ensures in
      keeps_from _ _ _ _ (count ∙ c.if-count-db.false)
      (λ i low. c.loop-number.invariant i (omega (arith, low, c.if-count-db.false, c.loop-number-test.false))),
  λ _. refl,
)
