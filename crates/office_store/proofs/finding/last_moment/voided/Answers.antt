use Rattle.std.proofs.Common.{Ok, Err, ◌∙◌}
use Rattle.store_tables.specs.Answer.{IsLast, every}
use Rattle.store_tables.specs.Entries.Trees.{voids}
use Rattle.store_tables.specs.Entries.Rows.{voided_columns}
use Rattle.store_tables.specs.Entries.Latest.{void_moment, HasVoidMoment, IsTimelyVoid}
use Rattle.office_store.specs.Finding.Latest.{latest_voided, HasReadableMoments}
use Rattle.office_store.proofs.FindingLemmas.Looking.{reported_of}
use Rattle.office_store.proofs.FindingLemmas.Found.{answered, passed_on}
use Rattle.office_store.proofs.FindingLemmas.LatestRows.{IsMoment, voids_tell}
use Rattle.office_store.proofs.finding.last_moment.voided.Goals as goal

pub returns-in_err-latest_void : goal.returns-in_err-latest_void
returns-in_err-latest_void g c =
    passed_on g.S.Store c.args.conn.now c.latest_void.new.conn c.in_err-latest_void.field-0.0 c.from_residual-in_err-latest_void.result _ _ _ _
    (reported_of g.S.Store c.args.conn.now c.check_open.new.conn (record { mode = c.in_ok-check_open.ensures.autocommit; opened = c.in_ok-check_open.ensures.opened; kept = c.in_ok-check_open.ensures.kept; survives = c.in_ok-check_open.ensures.survives })
    c.latest_void.new.conn voids voided_columns IsTimelyVoid (Err c.in_err-latest_void.field-0.0) (IsLast every HasVoidMoment void_moment) c.in_err-latest_void.ensures.finds (IsMoment latest_voided) HasReadableMoments voids_tell)
    (λ facts sound. sound) c.from_residual-in_err-latest_void.ensures.1

pub returns : goal.returns
returns g c =
    answered g.S.Store c.args.conn.now c.latest_void.new.conn c.in_ok-latest_void.field-0 c.unwrap_or.result _ _ _ _
    (reported_of g.S.Store c.args.conn.now c.check_open.new.conn (record { mode = c.in_ok-check_open.ensures.autocommit; opened = c.in_ok-check_open.ensures.opened; kept = c.in_ok-check_open.ensures.kept; survives = c.in_ok-check_open.ensures.survives })
    c.latest_void.new.conn voids voided_columns IsTimelyVoid (Ok c.in_ok-latest_void.field-0) (IsLast every HasVoidMoment void_moment) c.in_ok-latest_void.ensures.finds (IsMoment latest_voided) HasReadableMoments voids_tell)
    (λ facts h. c.unwrap_or.ensures ∙ h)
