use Rattle.std.proofs.Common.{◌≡◌, ◌+◌, ◌-◌, ap, subst, sym, ◌∙◌, arith, rules}
use Rattle.std.proofs.lemmas.Bool.{false≢true}
use Rattle.sqlite_wal.specs.Format.{be32, stored_sum, IsFrame}
use Rattle.sqlite_wal.specs.Recovery.{frame, header}
use Rattle.stored_files.proofs.LogFrames.{frame_ends, frame_at-le, sum_behind}
use Rattle.stored_files.proofs.logs.format.begins.Goals as goal

pub frame_in-before-requires-clause-within : goal.frame_in-before-requires-clause-within
frame_in-before-requires-clause-within c =
    let low = frame_at-le c.args.page_size (c.args.i - 1 + 1) (c.args.i + 1) (omega arith) in search (rules, low)

pub header_in-requires : goal.header_in-requires
header_in-requires c =
    let low = frame_at-le c.args.page_size 0 (c.args.i + 1) (omega arith) in search (rules, low)

pub returns-then-get_be32-eq0 : goal.returns-then-get_be32-eq0
returns-then-get_be32-eq0 c = (
  λ no'. absurd (false≢true no'),
  λ it. absurd (it.commits (ap (λ x. be32 x 4) (sym c.frame_in-before.ensures.frame) ∙ sym c.get_be32.ensures ∙ c.if-get_be32-eq0.true)),
)

pub returns : goal.returns
returns c =
    let log = c.args.log.now in
    let size = c.args.page_size in
    let i = c.args.i in
    let before = c.frame_in-before.ensures.frame in
    let sum = c.get_sum.ensures ∙ ap (λ x. stored_sum x 16) before ∙ sym (sum_behind size log i c.requires.first) in
    let now = c.frame_in-now.ensures.frame in
    let head = c.header_in.ensures.header in (
      λ yes'. record {
        commits = λ none. c.if-get_be32-eq0.false (c.get_be32.ensures ∙ ap (λ x. be32 x 4) before ∙ none);
        passes = record {
          within = let ends = frame_ends size i in search (rules, ends);
          passes = rw (← head, ← sum, ← now) (c.is_frame.ensures.0 yes');
        };
      },
      λ it. c.is_frame.ensures.1 (rw (head, sum, now) it.passes.passes),
    )
