use Rattle.std.proofs.Common.{Ok, Err, Some, None, map}
use Rattle.table_audit.proofs.Looking.{finds_then, passed_on, made}
use Rattle.table_seals.specs.PollSealing.{SealsPolls}
use Rattle.table_seals.specs.Sealed.{line_bytes}
use Rattle.table_seals.specs.Sealing.{SealsInZone, SealsMeters}
use Rattle.table_seals.specs.Setup.{HasSetup}
use Rattle.table_seals.proofs.SealedTables.{all_sealed, no_meters, no_polls}
use Rattle.table_seals.proofs.sealing.seal_in_zone.Goals as goal

pub seal_meters-requires : goal.seal_meters-requires
seal_meters-requires g c = c.in_ok-setup.ensures.looks.mode c.requires

pub seal_polls-requires : goal.seal_polls-requires
seal_polls-requires g c = c.in_ok-meters.ensures.looks.mode (c.in_ok-setup.ensures.looks.mode c.requires)

pub returns-in_err-setup : goal.returns-in_err-setup
returns-in_err-setup g c =
    passed_on g.S.Store c.args.conn.now c.setup_lines.new.conn c.in_err-setup.field-0.0 c.from_residual.result _ _
    c.in_err-setup.ensures c.from_residual.ensures.1

pub returns-in_err-meters : goal.returns-in_err-meters
returns-in_err-meters g c =
    passed_on g.S.Store c.args.conn.now c.seal_meters.new.conn c.in_err-meters.field-0.0 c.from_residual-in_err-meters.result _ _
    (finds_then g.S.Store c.args.conn.now c.setup_lines.new.conn c.seal_meters.new.conn c.in_ok-setup.setup (Err c.in_err-meters.field-0.0) _ _
    (λ content _. Unit {0})
    c.in_ok-setup.ensures c.in_err-meters.ensures (λ content _ setup meters. tt))
    c.from_residual-in_err-meters.ensures.1

pub returns-in-None : goal.returns-in-None
returns-in-None g c =
    made g.S.Store c.args.conn.now c.seal_meters.new.conn c.in_ok-meters.field-0 None (SealsMeters c.args.zone.now)
    (SealsInZone c.args.zone.now c.args.text.now)
    (finds_then g.S.Store c.args.conn.now c.setup_lines.new.conn c.seal_meters.new.conn c.in_ok-setup.setup (Ok c.in_ok-meters.field-0) _ _ (SealsMeters c.args.zone.now)
    c.in_ok-setup.ensures c.in_ok-meters.ensures (λ content _ setup meters. meters))
    (λ content meters. no_meters c.args.zone.now c.args.text.now content c.in_ok-meters.field-0 c.in-None.is meters)

pub returns-in_err-polls : goal.returns-in_err-polls
returns-in_err-polls g c =
    let two = finds_then g.S.Store c.args.conn.now c.setup_lines.new.conn c.seal_meters.new.conn c.in_ok-setup.setup (Ok c.in_ok-meters.field-0) _ _
    (λ content _. Unit {0}) c.in_ok-setup.ensures c.in_ok-meters.ensures (λ content _ setup meters. tt) in
    passed_on g.S.Store c.args.conn.now c.seal_polls.new.conn c.in_err-polls.field-0.0 c.from_residual-in_err-polls.result _ _
    (finds_then g.S.Store c.args.conn.now c.seal_meters.new.conn c.seal_polls.new.conn c.in_ok-meters.field-0 (Err c.in_err-polls.field-0.0) _ _
    (λ content _. Unit {0})
    two c.in_err-polls.ensures (λ content _ both polls. tt))
    c.from_residual-in_err-polls.ensures.1

pub returns-in-None-2 : goal.returns-in-None-2
returns-in-None-2 g c =
    let two = finds_then g.S.Store c.args.conn.now c.setup_lines.new.conn c.seal_meters.new.conn c.in_ok-setup.setup (Ok c.in_ok-meters.field-0) _ _
    (λ content _. Unit {0}) c.in_ok-setup.ensures c.in_ok-meters.ensures (λ content _ setup meters. tt) in
    made g.S.Store c.args.conn.now c.seal_polls.new.conn c.in_ok-polls.field-0 None SealsPolls (SealsInZone c.args.zone.now c.args.text.now)
    (finds_then g.S.Store c.args.conn.now c.seal_meters.new.conn c.seal_polls.new.conn c.in_ok-meters.field-0 (Ok c.in_ok-polls.field-0) _ _ SealsPolls
    two c.in_ok-polls.ensures (λ content _ both polls. polls))
    (λ content polls. no_polls c.args.zone.now c.args.text.now content c.in_ok-polls.field-0 c.in-None-2.is polls)

pub returns : goal.returns
returns g c =
    let two = finds_then g.S.Store c.args.conn.now c.setup_lines.new.conn c.seal_meters.new.conn c.in_ok-setup.setup (Ok c.in_ok-meters.field-0) _ _
    (λ content meters. HasSetup c.args.text.now content (map line_bytes c.in_ok-setup.setup.items) × SealsMeters c.args.zone.now content meters)
    c.in_ok-setup.ensures c.in_ok-meters.ensures (λ content _ setup meters. (setup, meters)) in
    made g.S.Store c.args.conn.now c.seal_polls.new.conn c.in_ok-polls.field-0
    (Some (record { setup = c.in_ok-setup.setup; meters = c.in-Some.meters; polls = c.in-Some-2.polls })) _ (SealsInZone c.args.zone.now c.args.text.now)
    (finds_then g.S.Store c.args.conn.now c.seal_meters.new.conn c.seal_polls.new.conn c.in_ok-meters.field-0 (Ok c.in_ok-polls.field-0) _ _
    (λ content polls. (HasSetup c.args.text.now content (map line_bytes c.in_ok-setup.setup.items) × SealsMeters c.args.zone.now content c.in_ok-meters.field-0)
    × SealsPolls content polls)
    two c.in_ok-polls.ensures (λ content _ both polls. (both, polls)))
    (λ content all.
    let sealed = all_sealed c.args.zone.now c.args.text.now content c.in_ok-meters.field-0 c.in_ok-polls.field-0 c.in-Some.meters c.in-Some-2.polls
    c.in-Some.is c.in-Some-2.is all.0.1 all.1 in
    record { setup = all.0.0; meters = sealed.0; polls = sealed.1 })
