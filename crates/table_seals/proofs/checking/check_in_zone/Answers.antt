use Rattle.std.proofs.Common.{rules, ◌≡◌, List, ℕ, Vec, map, length, Ok, Err, subst, arith}
use Rattle.std.proofs.lemmas.List.{length-map}
use Rattle.table_audit.proofs.Looking.{finds_then, passed_on, made}
use Rattle.table_seals.specs.declared.checks.Checked.{Checked}
use Rattle.table_seals.specs.declared.seals.MeterSeal.{MeterSeal}
use Rattle.table_seals.specs.Checking.{ReportsInZone, ReportsMeters, checks_of}
use Rattle.table_seals.specs.PollSealing.{ReportsPolls}
use Rattle.table_seals.specs.Sealed.{line_bytes, sealed_of, sealed_polls_of, sealed_tables_of}
use Rattle.table_seals.specs.Setup.{ReportsSetup}
use Rattle.table_seals.proofs.checking.check_in_zone.Goals as goal

pub check_setup-requires : goal.check_setup-requires
check_setup-requires g c = c.in_ok-meters.ensures.looks.mode c.requires

pub check_polls-requires : goal.check_polls-requires
check_polls-requires g c = c.in_ok-setup.ensures.looks.mode (c.in_ok-meters.ensures.looks.mode c.requires)

pub returns-in_err-meters : goal.returns-in_err-meters
returns-in_err-meters g c =
    passed_on g.S.Store c.args.conn.now c.check_meters.new.conn c.in_err-meters.field-0.0 c.from_residual.result _ _
    c.in_err-meters.ensures c.from_residual.ensures.1

pub returns-in_err-setup : goal.returns-in_err-setup
returns-in_err-setup g c =
    passed_on g.S.Store c.args.conn.now c.check_setup.new.conn c.in_err-setup.field-0.0 c.from_residual-in_err-setup.result _ _
    (finds_then g.S.Store c.args.conn.now c.check_meters.new.conn c.check_setup.new.conn c.in_ok-meters.meters (Err c.in_err-setup.field-0.0) _ _
    (λ content _. Unit {0})
    c.in_ok-meters.ensures c.in_err-setup.ensures (λ content _ meters setup. tt))
    c.from_residual-in_err-setup.ensures.1

pub returns-in_err-polls_differ : goal.returns-in_err-polls_differ
returns-in_err-polls_differ g c =
    let two = finds_then g.S.Store c.args.conn.now c.check_meters.new.conn c.check_setup.new.conn c.in_ok-meters.meters (Ok c.in_ok-setup.setup) _ _
    (λ content _. Unit {0}) c.in_ok-meters.ensures c.in_ok-setup.ensures (λ content _ meters setup. tt) in
    passed_on g.S.Store c.args.conn.now c.check_polls.new.conn c.in_err-polls_differ.field-0.0 c.from_residual-in_err-polls_differ.result _ _
    (finds_then g.S.Store c.args.conn.now c.check_setup.new.conn c.check_polls.new.conn c.in_ok-setup.setup (Err c.in_err-polls_differ.field-0.0) _ _
    (λ content _. Unit {0})
    two c.in_err-polls_differ.ensures (λ content _ both polls. tt))
    c.from_residual-in_err-polls_differ.ensures.1

pub returns : goal.returns
returns g c =
    let checked : Checked = record {
      differing = c.in_ok-meters.meters.differing;
      setup = c.in_ok-setup.setup;
      meters = c.len.result;
      polls_differ = c.in_ok-polls_differ.polls_differ;
      notes = c.in_ok-meters.meters.notes;
    } in
    let long : length (map sealed_of c.args.seal.now.meters.items) ≡ length c.args.seal.now.meters.items = length-map c.args.seal.now.meters.items sealed_of in
    let seals : c.as_slice.result.now ≡ c.args.seal.now.meters.items = search rules in
    let lines : c.as_slice-2.result.now ≡ c.args.seal.now.setup.items = search rules in
    let two = finds_then g.S.Store c.args.conn.now c.check_meters.new.conn c.check_setup.new.conn c.in_ok-meters.meters (Ok c.in_ok-setup.setup) _ _
    (λ content setup. ReportsMeters c.args.zone.now (map sealed_of c.as_slice.result.now) content (checks_of c.in_ok-meters.meters)
    × ReportsSetup c.args.text.now (map line_bytes c.as_slice-2.result.now) content (map line_bytes setup.items))
    c.in_ok-meters.ensures c.in_ok-setup.ensures (λ content _ meters setup. (meters, setup)) in
    made g.S.Store c.args.conn.now c.check_polls.new.conn c.in_ok-polls_differ.polls_differ checked _
    (ReportsInZone c.args.zone.now c.args.text.now (sealed_tables_of c.args.seal.now))
    (finds_then g.S.Store c.args.conn.now c.check_setup.new.conn c.check_polls.new.conn c.in_ok-setup.setup (Ok c.in_ok-polls_differ.polls_differ) _ _
    (λ content differ. (ReportsMeters c.args.zone.now (map sealed_of c.as_slice.result.now) content (checks_of c.in_ok-meters.meters)
    × ReportsSetup c.args.text.now (map line_bytes c.as_slice-2.result.now) content (map line_bytes c.in_ok-setup.setup.items))
    × ReportsPolls (sealed_polls_of c.args.seal.now.polls) content differ)
    two c.in_ok-polls_differ.ensures (λ content differ both polls. (both, polls)))
    (λ content all. record {
      meters = subst (λ (ss : List MeterSeal). ReportsMeters c.args.zone.now (map sealed_of ss) content (checks_of c.in_ok-meters.meters)) seals all.0.0;
      setup = subst (λ (ls : List (Vec ℕ _)). ReportsSetup c.args.text.now (map line_bytes ls) content (map line_bytes c.in_ok-setup.setup.items)) lines all.0.1;
      polls = all.1;
      count = omega (arith, long);
    })
