use Rattle.std.proofs.Common.{Ok, Err, ◌∙◌}
use Rattle.store_tables.specs.Answer.{IsLast, every}
use Rattle.store_tables.specs.Entries.Trees.{entries}
use Rattle.store_tables.specs.Entries.Rows.{entry_columns, IsSoundEntered}
use Rattle.store_tables.specs.Entries.Latest.{entry_moment, HasEntryMoment}
use Rattle.office_store.specs.Finding.Latest.{latest_entered, HasReadableMoments}
use Rattle.office_store.proofs.FindingLemmas.Looking.{reported_of}
use Rattle.office_store.proofs.FindingLemmas.Found.{answered, passed_on}
use Rattle.office_store.proofs.FindingLemmas.LatestRows.{IsMoment, entries_tell}
use Rattle.office_store.proofs.finding.last_moment.entered.Goals as goal

pub returns-in_err-latest_entry : goal.returns-in_err-latest_entry
returns-in_err-latest_entry g c =
    passed_on g.S.Store c.args.conn.now c.latest_entry.new.conn c.in_err-latest_entry.field-0.0 c.from_residual-in_err-latest_entry.result _ _ _ _
    (reported_of g.S.Store c.args.conn.now c.check_open.new.conn (record { mode = c.in_ok-check_open.ensures.autocommit; opened = c.in_ok-check_open.ensures.opened; kept = c.in_ok-check_open.ensures.kept; survives = c.in_ok-check_open.ensures.survives })
    c.latest_entry.new.conn entries entry_columns IsSoundEntered (Err c.in_err-latest_entry.field-0.0) (IsLast every HasEntryMoment entry_moment) c.in_err-latest_entry.ensures.finds (IsMoment latest_entered) HasReadableMoments entries_tell)
    (λ facts sound. sound) c.from_residual-in_err-latest_entry.ensures.1

pub returns : goal.returns
returns g c =
    answered g.S.Store c.args.conn.now c.latest_entry.new.conn c.in_ok-latest_entry.field-0 c.unwrap_or.result _ _ _ _
    (reported_of g.S.Store c.args.conn.now c.check_open.new.conn (record { mode = c.in_ok-check_open.ensures.autocommit; opened = c.in_ok-check_open.ensures.opened; kept = c.in_ok-check_open.ensures.kept; survives = c.in_ok-check_open.ensures.survives })
    c.latest_entry.new.conn entries entry_columns IsSoundEntered (Ok c.in_ok-latest_entry.field-0) (IsLast every HasEntryMoment entry_moment) c.in_ok-latest_entry.ensures.finds (IsMoment latest_entered) HasReadableMoments entries_tell)
    (λ facts h. c.unwrap_or.ensures ∙ h)
