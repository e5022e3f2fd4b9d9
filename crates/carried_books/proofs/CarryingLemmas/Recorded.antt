-- Lemmas on the commands of a file rollover (the change to a new database file). They add to the
-- new file exactly the records of the old file's devices, point lists and accounting registers
-- (named energy counters), and the openings (first entries) of meters.
use Rattle.std.proofs.Common.{◌≡◌, ℕ, List, [], ◌∷◌, ◌++◌, map, reverse, Option, Some, None, refl, sym, ap, ◌∙◌, append_assoc}
use Rattle.std.specs.List.{flat_map}
use Rattle.std.specs.Option.{option_map, option_to_list}
use Rattle.mb_wire.specs.Spans.{code_of}
use Rattle.mb_wire.specs.declared.span.ReadFunction.{ReadFunction}
use Rattle.mb_wire.specs.declared.span.ReadFunction.TheVariants.{HoldingRegisters, InputRegisters}
use Rattle.read_plan.specs.PlannedLists.{Planned}
use Rattle.office_events.specs.declared.facts.Device.{Device}
use Rattle.office_events.specs.declared.facts.Fact.{Fact}
use Rattle.office_events.specs.declared.facts.Fact.TheVariants as fact
use Rattle.office_events.specs.declared.facts.Opening.{Opening}
use Rattle.office_events.specs.declared.facts.Register.{Register}
use Rattle.office_events.specs.declared.facts.ScaleSource.{ScaleSource}
use Rattle.office_events.specs.declared.facts.ScaleSource.TheVariants as source
use Rattle.office_books.specs.Facts.{list_of, registers_of}
use Rattle.office_books.specs.History.{History, facts_of, function_by, scale_by}
use Rattle.office_books.proofs.Lists.{reverse_cons}
use Rattle.carried_books.specs.Carrying.Commands.{add_device, add_register, commands_for, first_moment, install, put_list, scale_given, set_up_device, set_up_devices}
use Rattle.carried_books.specs.Carrying.Feeding.{accepted, history_with}
use Rattle.carried_books.specs.Carrying.Recorded.{CommandsRecordTheSame, carried_facts, device_facts, list_fact}
use Rattle.carried_books.specs.declared.carrying.commands.TimedCommand.{TimedCommand}

-- True if the command `timed`, after any history of events, adds the record `f` to the database's
-- records, and no other record.
abbrev Records : TimedCommand → Fact → Type 0
Records timed f = (past : History) → facts_of (accepted timed ∷ past) ≡ f ∷ facts_of past

abbrev AllRecord : List TimedCommand → List Fact → Type 0
AllRecord [] [] = Unit {0}
AllRecord [] (f ∷ facts) = ⊥
AllRecord (timed ∷ commands) [] = ⊥
AllRecord (timed ∷ commands) (f ∷ facts) = Records timed f × AllRecord commands facts

all_recorded : (past : History) (commands : List TimedCommand) (facts : List Fact) → AllRecord commands facts
    → facts_of (history_with past commands) ≡ reverse facts ++ facts_of past
all_recorded past [] [] each = refl
all_recorded past [] (f ∷ facts) each = absurd each
all_recorded past (timed ∷ commands) [] each = absurd each
all_recorded past (timed ∷ commands) (f ∷ facts) each =
    all_recorded (accepted timed ∷ past) commands facts each.1
    ∙ ap (λ (known : List Fact). reverse facts ++ known) (each.0 past)
    ∙ sym (append_assoc (reverse facts) (f ∷ []) (facts_of past))
    ∙ ap (λ (front : List Fact). front ++ facts_of past) (sym (reverse_cons f facts))

both_record : (commands later : List TimedCommand) (facts more : List Fact) → AllRecord commands facts → AllRecord later more
    → AllRecord (commands ++ later) (facts ++ more)
both_record [] later [] more each rest = rest
both_record [] later (f ∷ facts) more each rest = absurd each
both_record (timed ∷ commands) later [] more each rest = absurd each
both_record (timed ∷ commands) later (f ∷ facts) more each rest = (each.0, both_record commands later facts more each.1 rest)

function_again : (function : ReadFunction) → function_by (code_of function) ≡ function
function_again HoldingRegisters = refl
function_again InputRegisters = refl

scale_again : (scale : ScaleSource) → scale_by (scale_given scale) ≡ scale
scale_again (source.Fixed sf) = refl
scale_again (source.Register address) = refl

device_recorded : (at : ℕ) (device : Device) → Records (add_device at device) (fact.Device device)
device_recorded at device = λ past. refl

list_recorded : (at : ℕ) (device : List ℕ) (list : Planned) → Records (put_list at device list) (list_fact device list)
list_recorded at device list = λ past. refl

register_recorded : (at : ℕ) (register : Register) → Records (add_register at register) (fact.Register register)
register_recorded at register = λ past.
    ap (λ (function : ReadFunction). fact.Register (record register { function = function; scale = scale_by (scale_given register.scale) }) ∷ facts_of past)
    (function_again register.function)
    ∙ ap (λ (scale : ScaleSource). fact.Register (record register { scale = scale }) ∷ facts_of past) (scale_again register.scale)

install_recorded : (opening : Opening) → Records (install opening) (fact.Opening opening)
install_recorded opening = λ past. refl

lists_recorded : (at : ℕ) (device : List ℕ) (list : Option Planned)
    → AllRecord (option_to_list (option_map (put_list at device) list)) (option_to_list (option_map (list_fact device) list))
lists_recorded at device None = tt
lists_recorded at device (Some list) = (list_recorded at device list, tt)

registers_recorded : (at : ℕ) (registers : List Register) → AllRecord (map (add_register at) registers) (map fact.Register registers)
registers_recorded at [] = tt
registers_recorded at (register ∷ registers) = (register_recorded at register, registers_recorded at registers)

devices_recorded : (at : ℕ) (facts : List Fact) (devices : List Device)
    → AllRecord (set_up_devices at facts devices) (flat_map (device_facts facts) devices)
devices_recorded at facts [] = tt
devices_recorded at facts (device ∷ devices) =
    both_record (set_up_device at facts device) (set_up_devices at facts devices) (device_facts facts device) (flat_map (device_facts facts) devices) (
      device_recorded at device,
      both_record (option_to_list (option_map (put_list at device.name) (list_of facts device.name))) (map (add_register at) (registers_of facts device.name))
          (option_to_list (option_map (list_fact device.name) (list_of facts device.name))) (map fact.Register (registers_of facts device.name))
          (lists_recorded at device.name (list_of facts device.name)) (registers_recorded at (registers_of facts device.name)),
    )
    (devices_recorded at facts devices)

installs_recorded : (openings : List Opening) → AllRecord (map install openings) (map fact.Opening openings)
installs_recorded [] = tt
installs_recorded (opening ∷ openings) = (install_recorded opening, installs_recorded openings)

pub recorded : CommandsRecordTheSame
recorded past facts devices openings =
    let at : ℕ = first_moment facts openings in
    all_recorded past (commands_for facts devices openings) (carried_facts facts devices openings)
    (both_record (set_up_devices at facts devices) (map install openings) (flat_map (device_facts facts) devices) (map fact.Opening openings)
    (devices_recorded at facts devices) (installs_recorded openings))
