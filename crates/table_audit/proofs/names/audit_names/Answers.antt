use Rattle.std.proofs.Common.{rules, ◌≡◌, List, Ok, Err, subst}
use Rattle.sqlite.specs.Order.{Row}
use Rattle.table_audit.specs.Named.{IsReported}
use Rattle.table_audit.specs.Names.{ShowsDevices, ShowsPoints, ShowsRegisters, ReportsNames, found_in_all}
use Rattle.table_audit.proofs.Looking.{finds_then, passed_on, made, cut_off}
use Rattle.table_audit.proofs.NamesFound.{names_reported}
use Rattle.table_audit.proofs.names.audit_names.Goals as goal

pub points-requires : goal.points-requires
points-requires g c = c.in_ok-devices.ensures.looks.mode c.requires.mode

pub registers-requires : goal.registers-requires
registers-requires g c = c.in_ok-points.ensures.looks.mode (c.in_ok-devices.ensures.looks.mode c.requires.mode)

pub returns-in_err-devices-clause-finds : goal.returns-in_err-devices-clause-finds
returns-in_err-devices-clause-finds g c =
    passed_on g.S.Store c.args.conn.now c.devices.new.conn c.in_err-devices.field-0.0 c.from_residual.result _ _
    c.in_err-devices.ensures c.from_residual.ensures.1

pub returns-in_err-points-clause-finds : goal.returns-in_err-points-clause-finds
returns-in_err-points-clause-finds g c =
    passed_on g.S.Store c.args.conn.now c.points.new.conn c.in_err-points.field-0.0 c.from_residual-in_err-points.result _ _
    (finds_then g.S.Store c.args.conn.now c.devices.new.conn c.points.new.conn c.in_ok-devices.devices (Err c.in_err-points.field-0.0)
    (λ content rows. ShowsDevices content rows.items) (λ content rows. ShowsPoints content rows.items) (λ content rows. ShowsPoints content rows.items)
    c.in_ok-devices.ensures c.in_err-points.ensures (λ content rows h g. g))
    c.from_residual-in_err-points.ensures.1

pub returns-in_err-registers-clause-finds : goal.returns-in_err-registers-clause-finds
returns-in_err-registers-clause-finds g c =
    let two = finds_then g.S.Store c.args.conn.now c.devices.new.conn c.points.new.conn c.in_ok-devices.devices (Ok c.in_ok-points.points)
    (λ content rows. ShowsDevices content rows.items) (λ content rows. ShowsPoints content rows.items) (λ content rows. ShowsPoints content rows.items)
    c.in_ok-devices.ensures c.in_ok-points.ensures (λ content rows h g. g) in
    passed_on g.S.Store c.args.conn.now c.registers.new.conn c.in_err-registers.field-0.0 c.from_residual-in_err-registers.result _ _
    (finds_then g.S.Store c.args.conn.now c.points.new.conn c.registers.new.conn c.in_ok-points.points (Err c.in_err-registers.field-0.0)
    (λ content rows. ShowsPoints content rows.items) (λ content rows. ShowsRegisters content rows.items) (λ content rows. ShowsRegisters content rows.items)
    two c.in_err-registers.ensures (λ content rows h g. g))
    c.from_residual-in_err-registers.ensures.1

pub returns-in-Ok-clause-finds : goal.returns-in-Ok-clause-finds
returns-in-Ok-clause-finds g c =
    let two = finds_then g.S.Store c.args.conn.now c.devices.new.conn c.points.new.conn c.in_ok-devices.devices (Ok c.in_ok-points.points)
    (λ content rows. ShowsDevices content rows.items) (λ content rows. ShowsPoints content rows.items)
    (λ content rows. ShowsDevices content c.in_ok-devices.devices.items × ShowsPoints content rows.items)
    c.in_ok-devices.ensures c.in_ok-points.ensures (λ content rows h g. (h, g)) in
    let three = finds_then g.S.Store c.args.conn.now c.points.new.conn c.registers.new.conn c.in_ok-points.points (Ok c.in_ok-registers.registers)
    (λ content rows. ShowsDevices content c.in_ok-devices.devices.items × ShowsPoints content rows.items)
    (λ content rows. ShowsRegisters content rows.items)
    (λ content rows. ShowsDevices content c.in_ok-devices.devices.items × ShowsPoints content c.in_ok-points.points.items × ShowsRegisters content rows.items)
    two c.in_ok-registers.ensures (λ content rows h g. (h.0, h.1, g)) in
    made g.S.Store c.args.conn.now c.registers.new.conn c.in_ok-registers.registers _ _
    (λ content _. ReportsNames c.args.findings.now c.append_all.new.findings content) three
    (λ content h.
    let devices_are : c.deref.result.now ≡ c.in_ok-devices.devices.items = search rules in
    let points_are : c.deref-2.result.now ≡ c.in_ok-points.points.items = search rules in
    let registers_are : c.deref-3.result.now ≡ c.in_ok-registers.registers.items = search rules in
    let each : IsReported (found_in_all c.in_ok-devices.devices.items c.in_ok-points.points.items c.in_ok-registers.registers.items) c.args.findings.now c.append_all.new.findings =
    subst (λ (ds : List Row). IsReported (found_in_all ds c.in_ok-points.points.items c.in_ok-registers.registers.items) c.args.findings.now c.append_all.new.findings) devices_are
    (subst (λ (ps : List Row). IsReported (found_in_all c.deref.result.now ps c.in_ok-registers.registers.items) c.args.findings.now c.append_all.new.findings) points_are
    (subst (λ (rs : List Row). IsReported (found_in_all c.deref.result.now c.deref-2.result.now rs) c.args.findings.now c.append_all.new.findings) registers_are c.in-Ok.ensures.reported)) in
    record {
      devices = c.in_ok-devices.devices.items;
      points = c.in_ok-points.points.items;
      registers = c.in_ok-registers.registers.items;
      devices_shown = h.0;
      points_shown = h.1;
      registers_shown = h.2;
      each = each;
      reported = names_reported c.in_ok-devices.devices.items c.in_ok-points.points.items c.in_ok-registers.registers.items c.args.findings.now c.append_all.new.findings each;
    })

pub returns-clause-finds : goal.returns-clause-finds
returns-clause-finds g c =
    let two = finds_then g.S.Store c.args.conn.now c.devices.new.conn c.points.new.conn c.in_ok-devices.devices (Ok c.in_ok-points.points)
    (λ content rows. ShowsDevices content rows.items) (λ content rows. ShowsPoints content rows.items) (λ content rows. ShowsPoints content rows.items)
    c.in_ok-devices.ensures c.in_ok-points.ensures (λ content rows h g. g) in
    let three = finds_then g.S.Store c.args.conn.now c.points.new.conn c.registers.new.conn c.in_ok-points.points (Ok c.in_ok-registers.registers)
    (λ content rows. ShowsPoints content rows.items) (λ content rows. ShowsRegisters content rows.items) (λ content rows. ShowsRegisters content rows.items)
    two c.in_ok-registers.ensures (λ content rows h g. g) in
    cut_off g.S.Store c.args.conn.now c.registers.new.conn c.in_ok-registers.registers _ _ three
