use Rattle.office_store.specs.Metering.Sound.{HasReadableJournals}
use Rattle.office_store.specs.Metering.Entries.{ShowsEntries}
use Rattle.office_store.proofs.MeteringLemmas.Entering.{shows_entries}
use Rattle.office_store.proofs.FindingLemmas.Looking.{not_touched, not_asked, asked}
use Rattle.office_store.proofs.metering.entries.entries.Goals as goal

pub returns-in_err-check_open : goal.returns-in_err-check_open
returns-in_err-check_open g c =
    not_touched g.S.Store c.args.conn.now c.check_open.new.conn c.in_err-check_open.field-0.0 c.from_residual.result (λ facts answer. ShowsEntries c.args.meter.now facts answer.items) HasReadableJournals
    c.in_err-check_open.ensures.autocommit c.in_err-check_open.ensures.kept c.in_err-check_open.ensures.survives c.in_err-check_open.ensures.fails c.from_residual.ensures.1

pub returns-in_err-rows : goal.returns-in_err-rows
returns-in_err-rows g c =
    not_asked g.S.Store c.args.conn.now c.check_open.new.conn (record { mode = c.in_ok-check_open.ensures.autocommit; opened = c.in_ok-check_open.ensures.opened; kept = c.in_ok-check_open.ensures.kept; survives = c.in_ok-check_open.ensures.survives }) c.entry_rows.new.conn c.in_err-rows.ensures.asks c.in_err-rows.field-0.0 c.from_residual-in_err-rows.result (λ facts answer. ShowsEntries c.args.meter.now facts answer.items) HasReadableJournals
    (λ clean content has zone facts are. c.in_err-rows.ensures.shows clean content has are.entries.rows are.entries.there) c.from_residual-in_err-rows.ensures.1

pub returns : goal.returns
returns g c =
    asked g.S.Store c.args.conn.now c.check_open.new.conn (record { mode = c.in_ok-check_open.ensures.autocommit; opened = c.in_ok-check_open.ensures.opened; kept = c.in_ok-check_open.ensures.kept; survives = c.in_ok-check_open.ensures.survives }) c.entry_rows.new.conn c.in_ok-rows.ensures.asks c.in_ok-rows.rows (λ facts answer. ShowsEntries c.args.meter.now facts answer.items) HasReadableJournals
    (λ clean content has zone facts are. shows_entries c.journals_fit.ensures c.rows_are_kept.ensures facts c.args.meter.now are.entries.rows c.in_ok-rows.rows.items are.lawful are.entries.each (c.in_ok-rows.ensures.shows clean content has are.entries.rows are.entries.there))
