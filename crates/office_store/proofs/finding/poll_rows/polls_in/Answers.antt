use Rattle.std.proofs.Common.{◌≡◌, ◌+◌, ◌<◌, sym, subst, length, get_or, arith}
use Rattle.store_tables.specs.Polls.Rows.{poll_shown}
use Rattle.office_store.specs.Finding.Reading.{IsPollOf}
use Rattle.office_store.specs.Finding.Sound.{IsReadablePoll}
use Rattle.office_store.proofs.FindingLemmas.ReadRows.{HasReadSome, read_more, unreadable, read_all}
use Rattle.office_store.proofs.finding.poll_rows.polls_in.Goals as goal

pub loop-row-preserved : goal.loop-row-preserved
loop-row-preserved c =
    subst (HasReadSome c.args.rows.now.items poll_shown IsPollOf (c.loop-row.row-index + 1)) (sym c.in_ok-push_item.ensures.put)
    (read_more c.args.rows.now.items poll_shown IsPollOf c.loop-row.row-index c.row-item.result (subst (λ rows. c.loop-row.row-index < length rows) c.deref-row-items.ensures.value c.loop-row-test.true)
    (subst (λ rows. c.row-item.result ≡ get_or rows c.loop-row.row-index c.row-item.result) c.deref-row-items.ensures.value c.row-item.is) IsReadablePoll c.loop-row.polls.items c.in_ok-poll.poll c.in_ok-poll.ensures c.loop-row.invariant)

pub returns-in_err-poll : goal.returns-in_err-poll
returns-in_err-poll c =
    unreadable c.args.rows.now.items poll_shown IsPollOf c.loop-row.row-index c.row-item.result (subst (λ rows. c.loop-row.row-index < length rows) c.deref-row-items.ensures.value c.loop-row-test.true)
    (subst (λ rows. c.row-item.result ≡ get_or rows c.loop-row.row-index c.row-item.result) c.deref-row-items.ensures.value c.row-item.is) IsReadablePoll (λ v. v.items) c.in_err-poll.field-0.0 c.from_residual.result c.in_err-poll.ensures
    c.from_residual.ensures.1

pub returns : goal.returns
returns c = read_all c.args.rows.now.items poll_shown IsPollOf IsReadablePoll (λ v. v.items) c.loop-row.polls c.loop-row.row-index (omega arith) c.loop-row.invariant
