use Rattle.std.proofs.Common.{◌∙◌, subst}
use Rattle.sqlite.specs.Held.{state}
use Rattle.store_tables.specs.OpenedFile.{ReadsMeta}
use Rattle.store_tables.specs.Layouts.{version_of}
use Rattle.store_tables.proofs.Reported.{reports_fault, reports_meta, own_fault, any_ok, unchanged_kept}
use Rattle.store_tables.proofs.opened_file.stored_zone.Goals as goal

pub returns-in-Ok-clause-finds : goal.returns-in-Ok-clause-finds
returns-in-Ok-clause-finds g c clean content has =
    let shown = c.in-Ok.ensures.shows clean c.args.layout content has in
    record {
      kept = unchanged_kept (state g.S.Store c.args.conn.now) (state g.S.Store c.meta_rows.new.conn) shown.0;
      unchanged = any_ok c.zone_in.result shown.0;
      survives = c.in-Ok.ensures.survives c.args.layout content has;
      reported = λ m marked.
          reports_meta (version_of c.args.layout) m (state g.S.Store c.args.conn.now) (state g.S.Store c.meta_rows.new.conn) c.zone_in.result (unchanged_kept (state g.S.Store c.args.conn.now) (state g.S.Store c.meta_rows.new.conn) shown.0)
          (subst (λ v. ReadsMeta v m c.zone_in.result) c.version.ensures (c.zone_in.ensures.reports m (c.deref.ensures.value ∙ shown.1 m marked)));
    }

pub returns-in-Err-clause-finds : goal.returns-in-Err-clause-finds
returns-in-Err-clause-finds g c clean content has = record {
  kept = c.in-Err.ensures.kept clean c.args.layout content has;
  unchanged = tt;
  survives = c.in-Err.ensures.survives c.args.layout content has;
  reported = λ m marked.
      reports_fault (version_of c.args.layout) m (state g.S.Store c.args.conn.now) (state g.S.Store c.meta_rows.new.conn) c.fault_of.result
      (own_fault (state g.S.Store c.args.conn.now) (state g.S.Store c.meta_rows.new.conn) c.in-Err.error c.fault_of.result c.fault_of.ensures.value c.fault_of.ensures.kind (c.in-Err.ensures.survives c.args.layout content has).counts (c.in-Err.ensures.fails clean c.args.layout content has))
      (c.in-Err.ensures.kept clean c.args.layout content has);
}
