use Rattle.std.proofs.lemmas.List.Sorted.{IsPermutation-sym}
use Rattle.store_tables.specs.Answer.{IsFound}
use Rattle.store_tables.specs.Entries.Trees.{entries}
use Rattle.store_tables.specs.Entries.Rows.{entry_columns, is_entry, IsRow, IsSoundEntered}
use Rattle.office_store.specs.Rows.{entries_of}
use Rattle.office_store.specs.Metering.Around.{FindsAt}
use Rattle.office_store.specs.Metering.Sound.{HasReadableMeters}
use Rattle.office_store.proofs.FindingLemmas.Looking.{not_touched, reported_of}
use Rattle.office_store.proofs.FindingLemmas.Greatest.{permuted}
use Rattle.office_store.proofs.FindingLemmas.Moments.{by_meter}
use Rattle.office_store.proofs.metering.around.row_there.Goals as goal

pub returns-in_err-check_open : goal.returns-in_err-check_open
returns-in_err-check_open g c =
    not_touched g.S.Store c.args.conn.now c.check_open.new.conn c.in_err-check_open.field-0.0 c.from_residual.result (FindsAt c.args.meter.now c.args.place) HasReadableMeters
    c.in_err-check_open.ensures.autocommit c.in_err-check_open.ensures.kept c.in_err-check_open.ensures.survives c.in_err-check_open.ensures.fails c.from_residual.ensures.1

pub returns : goal.returns
returns g c =
    reported_of g.S.Store c.args.conn.now c.check_open.new.conn (record { mode = c.in_ok-check_open.ensures.autocommit; opened = c.in_ok-check_open.ensures.opened; kept = c.in_ok-check_open.ensures.kept; survives = c.in_ok-check_open.ensures.survives })
    c.entry_at.new.conn entries entry_columns IsSoundEntered c.entry_at.result (IsFound (is_entry c.args.meter.now c.args.place) IsRow) c.entry_at.ensures.finds (FindsAt c.args.meter.now c.args.place) HasReadableMeters
    (λ zone facts content are. record {
      rows = are.entries.rows;
      there = are.entries.there;
      reports = λ found is. record { lawful = are.lawful; table = are.entries.rows; each = are.entries.each; is = is };
      sound = λ s. by_meter IsSoundEntered are.entries.rows (λ meter. permuted IsSoundEntered (entries_of facts meter) _ (IsPermutation-sym _ _ (are.entries.each meter)) (s.entries meter));
    })
