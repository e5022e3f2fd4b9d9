use Rattle.std.proofs.Common.{◌≡◌, ◌∙◌, ap, subst, sym}
use Rattle.sqlite.specs.Effect.{Database}
use Rattle.sqlite.specs.Held.{state}
use Rattle.store_tables.specs.Content.{AreTablesIn}
use Rattle.store_tables.specs.Layouts.{version_of, schema_of, names_of}
use Rattle.store_tables.specs.Upgrade.{OpensFile, IsOpenTo, IsFile}
use Rattle.store_tables.specs.OpenedFile.{ReportsOpening}
use Rattle.store_tables.proofs.Reported.{one_layout, reports_fault, reports_since, own_fault}
use Rattle.store_tables.proofs.Failures.{went_on}
use Rattle.store_tables.proofs.Brought.{after_kept, given_up}
use Rattle.store_tables.proofs.opened_file.open_as.Goals as goal

pub returns-in-Ok-clause-reported : goal.returns-in-Ok-clause-reported
returns-in-Ok-clause-reported g c clean is_open layout content has m marked =
    let old = state g.S.Store c.args.conn.now in
    let mid = state g.S.Store c.check_open.new.conn in
    let early = c.open_settled.ensures.clean clean in
    let answers = c.in-Ok.ensures.opened early in
    let same : c.args.found ≡ layout = one_layout c.args.found layout (sym c.requires.named ∙ ap names_of (ap (λ (d : Database). d.schema) (c.requires.settled is_open) ∙ has.schema)) in
    let here = subst (λ d. AreTablesIn (schema_of layout) d content) (sym (answers.1 ∙ (c.in-Ok.ensures.kept early).committed answers.0)) has in
    let end = state g.S.Store c.open_settled.new.conn in
    reports_since (version_of layout) m old mid end c.open_settled.result (went_on old mid _ early c.in-Ok.ensures.survives) (c.in-Ok.ensures.kept early)
    (subst (λ l. ReportsOpening (version_of l) m mid end c.open_settled.result) same
    (c.open_settled.ensures.reported clean content answers.0 answers.1 (subst (λ l. AreTablesIn (schema_of l) mid.now content) (sym same) here) m marked))

pub returns-in-Err-clause-reported : goal.returns-in-Err-clause-reported
returns-in-Err-clause-reported g c clean is_open layout content has m marked =
    reports_fault (version_of layout) m (state g.S.Store c.args.conn.now) (state g.S.Store c.check_open.new.conn) c.fault_of.result
    (own_fault (state g.S.Store c.args.conn.now) (state g.S.Store c.check_open.new.conn) c.in-Err.error c.fault_of.result c.fault_of.ensures.value c.fault_of.ensures.kind c.in-Err.ensures.survives.counts (c.in-Err.ensures.fails clean)) (c.in-Err.ensures.kept clean)

pub returns-in-Ok-clause-opened : goal.returns-in-Ok-clause-opened
returns-in-Ok-clause-opened g c clean layout zone content file =
    let old = state g.S.Store c.args.conn.now in
    let mid = state g.S.Store c.check_open.new.conn in
    let end = state g.S.Store c.open_settled.new.conn in
    let early = c.open_settled.ensures.clean clean in
    let answers = c.in-Ok.ensures.opened early in
    let kept = c.in-Ok.ensures.kept early in
    let was = kept.was_open answers.0 in
    let here = file was in
    let same : c.args.found ≡ layout = one_layout c.args.found layout (sym c.requires.named ∙ ap names_of (ap (λ (d : Database). d.schema) (c.requires.settled was) ∙ here.tables.schema)) in
    let there : IsOpenTo layout zone content mid = record { is_open = answers.0; settled = answers.1; file = subst (λ d. IsFile layout zone d content) (sym (kept.committed answers.0)) here } in
    after_kept layout zone content old mid end c.open_settled.result kept c.in-Ok.ensures.survives
    (subst (λ l. OpensFile l zone content mid end c.open_settled.result) same (c.open_settled.ensures.opened clean zone content (subst (λ l. IsOpenTo l zone content mid) (sym same) there)))

pub returns-in-Err-clause-opened : goal.returns-in-Err-clause-opened
returns-in-Err-clause-opened g c clean layout zone content file =
    given_up layout zone content (state g.S.Store c.args.conn.now) (state g.S.Store c.check_open.new.conn) c.fault_of.result (c.in-Err.ensures.kept clean) c.in-Err.ensures.survives
