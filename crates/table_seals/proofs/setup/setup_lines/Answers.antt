use Rattle.std.proofs.Common.{rules, ◌≡◌, List, ◌∷◌, map, Ok, Err, sym, subst}
use Rattle.sqlite.specs.Order.{Row}
use Rattle.store_tables.specs.declared.faults.RowFault.{RowFault}
use Rattle.table_audit.specs.Looking.{Finds}
use Rattle.table_audit.specs.Names.{ShowsDevices, ShowsRegisters}
use Rattle.table_audit.proofs.Looking.{cut_off, finds_then, passed_on, made}
use Rattle.table_seals.specs.Sealed.{line_bytes}
use Rattle.table_seals.specs.Setup.{HasSetup, setup_of}
use Rattle.table_seals.proofs.setup.setup_lines.Goals as goal

pub registers-requires : goal.registers-requires
registers-requires g c = c.in_ok-devices.ensures.looks.mode c.requires

pub returns-in_err-devices : goal.returns-in_err-devices
returns-in_err-devices g c =
    passed_on g.S.Store c.args.conn.now c.devices.new.conn c.in_err-devices.field-0.0 c.from_residual.result _ _
    c.in_err-devices.ensures c.from_residual.ensures.1

pub returns-in_err-registers : goal.returns-in_err-registers
returns-in_err-registers g c =
    passed_on g.S.Store c.args.conn.now c.registers.new.conn c.in_err-registers.field-0.0 c.from_residual-in_err-registers.result _ _
    (finds_then g.S.Store c.args.conn.now c.devices.new.conn c.registers.new.conn c.in_ok-devices.devices (Err c.in_err-registers.field-0.0)
    (λ content rows. ShowsDevices content rows.items) (λ content rows. ShowsRegisters content rows.items) (λ content rows. ShowsRegisters content rows.items)
    c.in_ok-devices.ensures c.in_err-registers.ensures (λ content rows h g. g))
    c.from_residual-in_err-registers.ensures.1

pub returns-in-Ok : goal.returns-in-Ok
returns-in-Ok g c =
    let two = finds_then g.S.Store c.args.conn.now c.devices.new.conn c.registers.new.conn c.in_ok-devices.devices (Ok c.in_ok-registers.registers)
    (λ content rows. ShowsDevices content rows.items) (λ content rows. ShowsRegisters content rows.items)
    (λ content rows. ShowsDevices content c.in_ok-devices.devices.items × ShowsRegisters content rows.items)
    c.in_ok-devices.ensures c.in_ok-registers.ensures (λ content rows h g. (h, g)) in
    made g.S.Store c.args.conn.now c.registers.new.conn c.in_ok-registers.registers c.in-Ok.lines _
    (λ content lines. HasSetup c.args.zone.now content (map line_bytes lines.items)) two
    (λ content h.
    let zone_is : c.as_bytes.result.now ≡ c.args.zone.now = search rules in
    let devices_are : c.deref.result.now ≡ c.in_ok-devices.devices.items = search rules in
    let registers_are : c.deref-2.result.now ≡ c.in_ok-registers.registers.items = search rules in
    let lines_are : map line_bytes c.in-Ok.lines.items ≡ setup_of c.args.zone.now c.in_ok-devices.devices.items c.in_ok-registers.registers.items =
    subst (λ z. map line_bytes c.in-Ok.lines.items ≡ setup_of z c.in_ok-devices.devices.items c.in_ok-registers.registers.items) zone_is
    (subst (λ (ds : List Row). map line_bytes c.in-Ok.lines.items ≡ setup_of c.as_bytes.result.now ds c.in_ok-registers.registers.items) devices_are
    (subst (λ (rs : List Row). map line_bytes c.in-Ok.lines.items ≡ setup_of c.as_bytes.result.now c.deref.result.now rs) registers_are c.in-Ok.ensures)) in
    record {
      devices = c.in_ok-devices.devices.items;
      registers = c.in_ok-registers.registers.items;
      devices_shown = h.0;
      registers_shown = h.1;
      setup_is = lines_are;
    })

pub returns : goal.returns
returns g c =
    subst (λ (e : RowFault). Finds g.S.Store c.args.conn.now c.registers.new.conn (Err e) (λ content lines. HasSetup c.args.zone.now content (map line_bytes lines.items)))
    (sym c.memory.ensures)
    (cut_off g.S.Store c.args.conn.now c.registers.new.conn c.in_ok-registers.registers (λ content rows. ShowsRegisters content rows.items)
    (λ content lines. HasSetup c.args.zone.now content (map line_bytes lines.items))
    (finds_then g.S.Store c.args.conn.now c.devices.new.conn c.registers.new.conn c.in_ok-devices.devices (Ok c.in_ok-registers.registers)
    (λ content rows. ShowsDevices content rows.items) (λ content rows. ShowsRegisters content rows.items) (λ content rows. ShowsRegisters content rows.items)
    c.in_ok-devices.ensures c.in_ok-registers.ensures (λ content rows h g. g)))
